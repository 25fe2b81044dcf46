use Rattle.std.proofs.Common.{take}
use Rattle.farm_run.proofs.BeginLemmas.{OwnSoFar}
use Rattle.farm_run.proofs.begin.own_servers.Given as goal

-- the servers so far
abbrev pub invariant-loop-server : goal.invariant-loop-server
invariant-loop-server l = OwnSoFar (take l.server-index l.servers) l.sites.items l.stations.items
