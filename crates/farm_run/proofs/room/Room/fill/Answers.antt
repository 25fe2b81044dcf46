use Rattle.std.proofs.Common.{◌≡◌, ◌+◌, ◌++◌, ◌∷◌, [], List, Option, length, map, refl, sym, ap, ◌∙◌, arith, rules, subst}
use Rattle.std.proofs.lemmas.Iterator.Adapters.{YieldsList-from_vec}
use Rattle.std.proofs.lemmas.Iterator.Consumers.{YieldsList-turn, YieldsList-end}
use Rattle.build_server.specs.Builds.{Builder, builder_of}
use Rattle.farm_stations.specs.Post.{Post, outside_of}
use Rattle.farm_run.specs.Stops.{folders_in, AreGiven}
use Rattle.farm_run.proofs.BeginLemmas.{length_end, map_end}
use Rattle.farm_run.proofs.CutLemmas.{folder_back, given_end, given_none}
use Rattle.farm_run.proofs.room.Room.fill.Goals as goal

map_same : {A : Type 0} (xs : List A) → map (λ y. y) xs ≡ xs
map_same [] = refl
map_same {A} (x ∷ xs) = ap (λ (ys : List A). x ∷ ys) (map_same xs)

pub push_reserved-requires : goal.push_reserved-requires
push_reserved-requires g c =
    let gives = c.into_iter-station-iterator.ensures.into_iter_gives in
    let t = YieldsList-turn (YieldsList-from_vec {s = c.into_iter-station-iterator.result}
    c.args.stations.items gives.0 (gives.1 ∙ c.args.stations.ok.0)) c.loop-station.yielded
    c.loop-station.station-iterator c.loop-station.yielded_by c.next.result c.next.new.self c.in-Some.station
    c.in-Some.is c.next.ensures.steps in
    omega (
      arith,
      t.0,
      c.loop-station.invariant.size,
      c.loop-station.invariant.folder_room,
      c.requires.room,
      c.self.view_is,
    )

pub loop-station-init : goal.loop-station-init
loop-station-init g c = record {
  folders = search rules;
  builders = rw c.self.invariant.1 (given_none _ _);
  size = search rules;
  few = search rules;
  folder_room = search rules;
  builder_room = search rules;
}

pub loop-station-preserved : goal.loop-station-preserved
loop-station-preserved g c =
    let held = g.F.Folder.held in
    let seen = builder_of g.B.BuilderIncoming.built g.B.BuilderIncoming.refusals in
    let is = c.loop-station.invariant in record {
      folders = ap (map held) c.push_reserved.ensures.items
          ∙ folder_back held c.loop-station.folders.items c.into_parts-folder.result.0 c.loop-station.yielded
          c.in-Some.station is.folders c.into_parts-folder.ensures.folder;
      builders = rw (
        c.push_reserved-in-loop-station.ensures.items,
        map_end (λ (st : Post). st.hand) c.loop-station.yielded
            c.in-Some.station,
      )
          (given_end seen g.B.BuilderIncoming.answers (map (λ (st : Post). st.hand) c.loop-station.yielded)
          c.loop-station.builders.items c.in-Some.station.hand c.into_parts-folder.result.1 is.builders
          c.into_parts-folder.ensures.builder);
      size = omega (
        arith,
        c.push_reserved.ensures.len,
        is.size,
        length_end c.loop-station.yielded c.in-Some.station,
      );
      few = omega (arith, c.push_reserved.ensures.len, c.push_reserved-in-loop-station.ensures.len, is.few);
      folder_room = c.push_reserved.ensures.capacity ∙ is.folder_room;
      builder_room = c.push_reserved-in-loop-station.ensures.capacity ∙ is.builder_room;
    }

pub returns-clause-folders : goal.returns-clause-folders
returns-clause-folders g c =
    let gives = c.into_iter-station-iterator.ensures.into_iter_gives in
    let t = YieldsList-end (YieldsList-from_vec {s = c.into_iter-station-iterator.result}
    c.args.stations.items gives.0 (gives.1 ∙ c.args.stations.ok.0)) c.loop-station.yielded
    c.loop-station.station-iterator c.loop-station.yielded_by c.next.result c.next.new.self c.in-None.is
    c.next.ensures.steps in
    c.loop-station.invariant.folders
    ∙ ap (λ (sts : List Post). folders_in (map outside_of sts)) (sym (map_same c.loop-station.yielded) ∙ t.0)

pub returns-clause-builders : goal.returns-clause-builders
returns-clause-builders g c =
    let gives = c.into_iter-station-iterator.ensures.into_iter_gives in
    let t = YieldsList-end (YieldsList-from_vec {s = c.into_iter-station-iterator.result}
    c.args.stations.items gives.0 (gives.1 ∙ c.args.stations.ok.0)) c.loop-station.yielded
    c.loop-station.station-iterator c.loop-station.yielded_by c.next.result c.next.new.self c.in-None.is
    c.next.ensures.steps in
    subst (λ (sts : List Post). AreGiven (builder_of g.B.BuilderIncoming.built g.B.BuilderIncoming.refusals)
    g.B.BuilderIncoming.answers (map (λ (st : Post). st.hand) sts) c.loop-station.builders.items)
    (sym (map_same c.loop-station.yielded) ∙ t.0) c.loop-station.invariant.builders
