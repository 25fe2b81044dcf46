use Rattle.std.proofs.Common.{◌≡◌, take, drop}
use Rattle.std.specs.Vec.Iter.{into_iter_items}
use Rattle.farm_run.proofs.GoOnLemmas.{AgainSoFar}
use Rattle.farm_run.proofs.go_on.next_servers.Given as goal

-- the servers so far, and the stations that are left
abbrev pub invariant-loop-server : goal.invariant-loop-server
invariant-loop-server g l =
    AgainSoFar l.entries (take l.server-index l.servers) l.fn.stations.items l.sites.items l.begun.items
    × (into_iter_items l.stations ≡ drop l.server-index l.fn.stations.items)
