use Rattle.std.proofs.Common.{◌≡◌, map, take}
use Rattle.build_server.specs.Echo.{data_of}
use Rattle.farm_stations.proofs.builder.listed_outputs.Given as goal

-- the outputs so far
abbrev pub invariant-loop-pair : goal.invariant-loop-pair
invariant-loop-pair l = l.all.items ≡ map (λ p. (p.0, data_of p.1)) (take l.pair-index l.outputs)
