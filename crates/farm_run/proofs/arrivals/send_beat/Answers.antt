use Rattle.std.proofs.Common.{◌≡◌, ◌∙◌, ap, List, length, refl, sym, subst, Some, None}
use Rattle.std.specs.Prelude.{slice_get}
use Rattle.std.proofs.lemmas.Option.{slice_get_read}
use Rattle.farm_entries.specs.declared.site.SiteServer.{SiteServer as SetupServer}
use Rattle.farm_run.proofs.ServerLemmas.{IsFound, found_is}
use Rattle.farm_run.proofs.ResultLemmas.{ok_then, ok_and}
use Rattle.farm_run.proofs.RowLemmas.{beat_received, no_beat_received, closed_beat_received}
use Rattle.farm_entries.specs.declared.entry.Effect.{Effect}
use Rattle.farm_run.proofs.arrivals.send_beat.Goals as goal

pub returns-in-None-clause-received : goal.returns-in-None-clause-received
returns-in-None-clause-received g c = λ at.
    no_beat_received c.args.desk.now.setup c.args.desk.now.state c.args.entries.now
    (length c.args.entries.now) at c.args.addr c.idle.result (sym c.in-None.ensures.place) c.idle.ensures

pub returns-else-not-is_running-clause-received : goal.returns-else-not-is_running-clause-received
returns-else-not-is_running-clause-received g c =
    ok_then c.beat.result (ok_and _ _ c.beat.result c.beat.ensures.effect c.beat.ensures.pending) (λ m made at.
    let there : slice_get c.args.desk.now.setup.servers c.in-Some.place ≡ Some c.in-Some-get.server.now =
    subst (λ (xs : List SetupServer). slice_get xs c.in-Some.place ≡ Some c.in-Some-get.server.now)
    c.get.ensures.items
    (slice_get_read c.get.result.now (length c.get.result.now) c.in-Some.place c.in-Some-get.server.now refl
    c.in-Some-get.ensures.lookup.3.0 c.in-Some-get.ensures.lookup.1) in
    let stands : slice_get c.args.stations.now c.in-Some.place ≡ Some c.in-Some-get-2.station.now =
    slice_get_read c.args.stations.now (length c.args.stations.now) c.in-Some.place
    c.in-Some-get-2.station.now refl c.in-Some-get-2.ensures.lookup.3.0 c.in-Some-get-2.ensures.lookup.1
    in
    let is = found_is c.args.desk.now.setup c.args.addr c.in-Some.place c.in-Some-get.server.now
    (sym c.in-Some.ensures.place) there in
    let f : IsFound c.args.desk.now.setup c.args.addr c.in-Some.place =
    record { server = c.in-Some-get.server.now; there = there; found = is.0; at = is.1 } in
    beat_received c.args.desk.now.setup c.args.desk.now.state c.args.entries.now c.args.stations.now
    (length c.args.entries.now) at c.args.addr c.in-Some.place c.in-Some-get-2.station.now m f
    c.requires.stations stands (sym c.is_running.ensures ∙ c.if-not-is_running.false) made.0 made.1)

pub returns-then-not-is_running-clause-received : goal.returns-then-not-is_running-clause-received
returns-then-not-is_running-clause-received g c = λ at.
    let there : slice_get c.args.desk.now.setup.servers c.in-Some.place ≡ Some c.in-Some-get.server.now =
    subst (λ (xs : List SetupServer). slice_get xs c.in-Some.place ≡ Some c.in-Some-get.server.now)
    c.get.ensures.items
    (slice_get_read c.get.result.now (length c.get.result.now) c.in-Some.place c.in-Some-get.server.now refl
    c.in-Some-get.ensures.lookup.3.0 c.in-Some-get.ensures.lookup.1) in
    let stands : slice_get c.args.stations.now c.in-Some.place ≡ Some c.in-Some-get-2.station.now =
    slice_get_read c.args.stations.now (length c.args.stations.now) c.in-Some.place
    c.in-Some-get-2.station.now refl c.in-Some-get-2.ensures.lookup.3.0 c.in-Some-get-2.ensures.lookup.1
    in
    let is = found_is c.args.desk.now.setup c.args.addr c.in-Some.place c.in-Some-get.server.now
    (sym c.in-Some.ensures.place) there in
    let f : IsFound c.args.desk.now.setup c.args.addr c.in-Some.place =
    record { server = c.in-Some-get.server.now; there = there; found = is.0; at = is.1 } in
    closed_beat_received c.args.desk.now.setup c.args.desk.now.state c.args.entries.now c.args.stations.now
    (length c.args.entries.now) at c.args.addr c.in-Some.place c.in-Some-get-2.station.now
    c.whole.result f c.requires.stations stands (sym c.is_running.ensures ∙ c.if-not-is_running.true)
    (c.whole.ensures ∙ ap (λ (x : Effect). record { effect = x; pending = None }) c.of_word.ensures)
