use Rattle.std.proofs.Common.{◌≡◌, map}
use Rattle.std.specs.List.{range_with_len}
use Rattle.farm_storm.specs.Storm.{storm_server}
use Rattle.farm_storm.proofs.setup.storm_servers.Given as goal

-- the servers so far
abbrev pub invariant-loop-number : goal.invariant-loop-number
invariant-loop-number l = l.servers.items ≡ map storm_server (range_with_len 0 l.number)
