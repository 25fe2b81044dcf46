use Rattle.std.proofs.Common.{◌≡◌, ◌+◌, ◌<◌, ◌++◌, ◌∷◌, [], length, map, take, ap, ◌∙◌, sym, refl, arith}
use Rattle.std.specs.Prelude.{slice_get}
use Rattle.std.specs.Vec.Iter.{into_iter_items}
use Rattle.std.proofs.lemmas.List.{take_more, length-take}
use Rattle.build_server.specs.Builds.{builder_of}
use Rattle.farm_script.specs.declared.setup.SetupServer.{SetupServer}
use Rattle.farm_run.proofs.BeginLemmas.{handed_none, handed_push, left_first, left_rest}
use Rattle.farm_run.proofs.StandLemmas.{get_map}
use Rattle.farm_run.proofs.begin.handed_servers.Goals as goal

pub loop-server-init : goal.loop-server-init
loop-server-init g c =
    rw (c.in_ok-sites.ensures.items, c.in_ok-stations.ensures.items)
    (handed_none _ _, c.into_iter-folders.ensures.rest, c.into_iter-builders.ensures.rest)

pub loop-server-preserved : goal.loop-server-preserved
loop-server-preserved g c =
    let i = c.loop-server.server-index in
    let held = g.F.Folder.held in
    let seen = builder_of g.B.BuilderIncoming.built g.B.BuilderIncoming.refusals in
    let lt : i < length c.args.servers.now = c.loop-server-test.true in
    let more : take (i + 1) c.args.servers.now ≡ take i c.args.servers.now ++ c.server-item.result ∷ [] =
    take_more c.args.servers.now i c.server-item.result c.loop-server-test.true
    ∙ ap (λ (x : SetupServer). take i c.args.servers.now ++ x ∷ []) (sym c.server-item.is) in
    let size : i ≡ length (take i c.args.servers.now) = omega (arith, length-take i c.args.servers.now, lt) in
    let first = c.in-Some.ensures.items in
    let second = c.in-Some-next.ensures.items in
    let folder = get_map held c.args.folders.items i c.in-Some.folder
    (left_first c.args.folders.items (into_iter_items c.loop-server.folders)
    (into_iter_items c.next.new.self) i c.in-Some.folder c.loop-server.invariant.1 first) in
    let builder = get_map seen c.args.builders.items i c.in-Some-next.builder
    (left_first c.args.builders.items (into_iter_items c.loop-server.builders)
    (into_iter_items c.next-in-loop-server.new.self) i c.in-Some-next.builder c.loop-server.invariant.2
    second) in
    rw (more, c.in_ok-push.ensures.items, c.in_ok-push-2.ensures.items) (
      handed_push (take i c.args.servers.now) (map held c.args.folders.items) (map seen c.args.builders.items)
          c.loop-server.sites.items c.loop-server.stations.items c.server-item.result
          (held c.in-Some.folder) (seen c.in-Some-next.builder) c.in_ok-site.site c.in_ok-site.station
          c.loop-server.invariant.0 (ap (slice_get (map held c.args.folders.items)) (sym size) ∙ folder)
          (ap (slice_get (map seen c.args.builders.items)) (sym size) ∙ builder) c.in_ok-site.ensures.begun
          c.in_ok-site.ensures.now c.in_ok-site.ensures.well,
      left_rest c.args.folders.items (into_iter_items c.loop-server.folders)
          (into_iter_items c.next.new.self) i c.in-Some.folder c.loop-server.invariant.1 first,
      left_rest c.args.builders.items (into_iter_items c.loop-server.builders)
          (into_iter_items c.next-in-loop-server.new.self) i c.in-Some-next.builder c.loop-server.invariant.2
          second,
    )
