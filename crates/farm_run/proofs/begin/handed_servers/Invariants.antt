use Rattle.std.proofs.Common.{◌≡◌, map, take, drop}
use Rattle.std.specs.Vec.Iter.{into_iter_items}
use Rattle.build_server.specs.Builds.{builder_of}
use Rattle.farm_run.proofs.BeginLemmas.{HandedSoFar}
use Rattle.farm_run.proofs.begin.handed_servers.Given as goal

-- the servers so far, and what is left of what was handed in
abbrev pub invariant-loop-server : goal.invariant-loop-server
invariant-loop-server g l =
    HandedSoFar (take l.server-index l.servers) (map g.F.Folder.held l.fn.folders.items)
    (map (builder_of g.B.BuilderIncoming.built g.B.BuilderIncoming.refusals) l.fn.builders.items)
    l.sites.items l.stations.items
    × (into_iter_items l.folders ≡ drop l.server-index l.fn.folders.items)
    × (into_iter_items l.builders ≡ drop l.server-index l.fn.builders.items)
