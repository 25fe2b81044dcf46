use Rattle.std.proofs.Common.{◌≡◌, map, take}
use Rattle.build_server.specs.Echo.{data_of}
use Rattle.build_server.proofs.echo.outputs_of.Given as goal

abbrev pub invariant-loop-name : goal.invariant-loop-name
invariant-loop-name l = l.outputs.items ≡ map (λ name. (name, data_of name)) (take l.name-index l.names)
