use Rattle.std.proofs.Common.{◌≡◌, ◌++◌, string_bytes, take}
use Rattle.std.specs.List.{flat_map}
use Rattle.farm_entries.specs.Printed.{server_text}
use Rattle.farm_entries.specs.Servers.{server_of}
use Rattle.farm_run.proofs.print.push_servers.Given as goal

-- the lines of the servers so far
abbrev pub invariant-loop-place : goal.invariant-loop-place
invariant-loop-place g l = string_bytes l.out ≡ string_bytes l.initial.out ++ flat_map
    (λ s. server_text (server_of s l.farm.entries)) (take l.place l.farm.setup.servers)
