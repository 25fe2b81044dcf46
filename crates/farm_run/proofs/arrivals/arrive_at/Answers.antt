use Rattle.std.proofs.Common.{◌≡◌, ◌∙◌, ap, List, length, set, refl, sym, subst, Some}
use Rattle.std.specs.Prelude.{slice_get, is_some}
use Rattle.std.proofs.lemmas.Option.{same_Some, slice_get_read}
use Rattle.farm_entries.specs.declared.site.SiteServer.{SiteServer as SetupServer}
use Rattle.farm_stations.specs.Post.{Post, Around, outside_of}
use Rattle.farm_entries.specs.Served.{IsServerAnswered}
use Rattle.farm_stations.specs.Stations.{now_of}
use Rattle.farm_run.proofs.ResultLemmas.{ok_then, ok_and, ok_on, on_ok, on_err}
use Rattle.farm_run.proofs.RowLemmas.{kept_same, step_same}
use Rattle.farm_run.proofs.StandLemmas.{around_kept, leaves_same}
use Rattle.farm_run.proofs.arrivals.arrive_at.Goals as goal

pub returns-in-Some-get_mut-clause-cut : goal.returns-in-Some-get_mut-clause-cut
returns-in-Some-get_mut-clause-cut g c =
    on_err c.serve_at.result
    (around_kept c.args.stations.now.items c.args.place c.in-Some-get_mut.station.now c.serve_at.new.station
    (slice_get_read c.args.stations.now.items (length c.args.stations.now.items) c.args.place
    c.in-Some-get_mut.station.now refl c.in-Some-get_mut.ensures.item.3.0 c.in-Some-get_mut.ensures.item.1)
    c.serve_at.ensures.around)

pub returns-in-Some-get_mut-clause-answered : goal.returns-in-Some-get_mut-clause-answered
returns-in-Some-get_mut-clause-answered g c = ok_then c.serve_at.result c.serve_at.ensures.answered (λ m answered s st at bt.
    let there : slice_get c.args.desk.now.setup.servers c.args.place ≡ Some c.in-Some.server.now =
    subst (λ (xs : List SetupServer). slice_get xs c.args.place ≡ Some c.in-Some.server.now)
    c.get.ensures.items
    (slice_get_read c.get.result.now (length c.get.result.now) c.args.place c.in-Some.server.now refl
    c.in-Some.ensures.lookup.3.0 c.in-Some.ensures.lookup.1) in
    let stands : slice_get c.args.stations.now.items c.args.place ≡ Some c.in-Some-get_mut.station.now =
    slice_get_read c.args.stations.now.items (length c.args.stations.now.items) c.args.place
    c.in-Some-get_mut.station.now refl c.in-Some-get_mut.ensures.item.3.0 c.in-Some-get_mut.ensures.item.1
    in
    subst (λ (x : SetupServer). IsServerAnswered c.args.desk.now.setup (now_of x st)
    c.args.arrival.now.stamp.number c.args.arrival.now.bytes.now m.effect)
    (same_Some c.in-Some.server.now s (sym there ∙ at))
    (subst (λ (x : Post). IsServerAnswered c.args.desk.now.setup (now_of c.in-Some.server.now x)
    c.args.arrival.now.stamp.number c.args.arrival.now.bytes.now m.effect)
    (same_Some c.in-Some-get_mut.station.now st (sym stands ∙ bt)) answered))

pub returns-in-Some-get_mut-clause-kept : goal.returns-in-Some-get_mut-clause-kept
returns-in-Some-get_mut-clause-kept g c = ok_then c.serve_at.result c.serve_at.ensures.kept (λ m kept s st at bt.
    let there : slice_get c.args.desk.now.setup.servers c.args.place ≡ Some c.in-Some.server.now =
    subst (λ (xs : List SetupServer). slice_get xs c.args.place ≡ Some c.in-Some.server.now)
    c.get.ensures.items
    (slice_get_read c.get.result.now (length c.get.result.now) c.args.place c.in-Some.server.now refl
    c.in-Some.ensures.lookup.3.0 c.in-Some.ensures.lookup.1) in
    let stands : slice_get c.args.stations.now.items c.args.place ≡ Some c.in-Some-get_mut.station.now =
    slice_get_read c.args.stations.now.items (length c.args.stations.now.items) c.args.place
    c.in-Some-get_mut.station.now refl c.in-Some-get_mut.ensures.item.3.0 c.in-Some-get_mut.ensures.item.1
    in
    kept_same c.args.desk.now.setup c.args.desk.now.state.log c.args.arrival.now.stamp.number
    c.args.arrival.now.bytes.now m c.in-Some.server.now s
    c.in-Some-get_mut.station.now st (same_Some c.in-Some.server.now s (sym there ∙ at))
    (same_Some c.in-Some-get_mut.station.now st (sym stands ∙ bt)) kept)

pub returns-in-Some-get_mut-clause-step : goal.returns-in-Some-get_mut-clause-step
returns-in-Some-get_mut-clause-step g c =
    ok_then c.serve_at.result (ok_and _ _ c.serve_at.result c.serve_at.ensures.after
    (ok_on _ c.serve_at.result c.serve_at.ensures.still_well)) (λ m is s st at bt.
    let there : slice_get c.args.desk.now.setup.servers c.args.place ≡ Some c.in-Some.server.now =
    subst (λ (xs : List SetupServer). slice_get xs c.args.place ≡ Some c.in-Some.server.now)
    c.get.ensures.items
    (slice_get_read c.get.result.now (length c.get.result.now) c.args.place c.in-Some.server.now refl
    c.in-Some.ensures.lookup.3.0 c.in-Some.ensures.lookup.1) in
    let stands : slice_get c.args.stations.now.items c.args.place ≡ Some c.in-Some-get_mut.station.now =
    slice_get_read c.args.stations.now.items (length c.args.stations.now.items) c.args.place
    c.in-Some-get_mut.station.now refl c.in-Some-get_mut.ensures.item.3.0 c.in-Some-get_mut.ensures.item.1
    in
    step_same c.args.place m.effect.step c.args.stations.now.items
    (set c.args.stations.now.items c.args.place c.serve_at.new.station) c.in-Some.server.now s
    c.in-Some-get_mut.station.now st c.serve_at.new.station
    (same_Some c.in-Some.server.now s (sym there ∙ at))
    (same_Some c.in-Some-get_mut.station.now st (sym stands ∙ bt)) refl is.0 is.1
    (leaves_same m.effect.step (outside_of c.in-Some-get_mut.station.now) (outside_of c.serve_at.new.station)
    (ap (λ (a : Around). a.outside) c.serve_at.ensures.around)))

pub returns-in-Some-get_mut-clause-there : goal.returns-in-Some-get_mut-clause-there
returns-in-Some-get_mut-clause-there g c =
    let stands : slice_get c.args.stations.now.items c.args.place ≡ Some c.in-Some-get_mut.station.now =
    slice_get_read c.args.stations.now.items (length c.args.stations.now.items) c.args.place
    c.in-Some-get_mut.station.now refl c.in-Some-get_mut.ensures.item.3.0 c.in-Some-get_mut.ensures.item.1
    in
    on_ok c.serve_at.result (c.in-Some-get_mut.station.now, stands)

pub serve_at-requires : goal.serve_at-requires
serve_at-requires g c =
    let there : slice_get c.args.desk.now.setup.servers c.args.place ≡ Some c.in-Some.server.now =
    subst (λ (xs : List SetupServer). slice_get xs c.args.place ≡ Some c.in-Some.server.now)
    c.get.ensures.items
    (slice_get_read c.get.result.now (length c.get.result.now) c.args.place c.in-Some.server.now refl
    c.in-Some.ensures.lookup.3.0 c.in-Some.ensures.lookup.1) in
    let stands : slice_get c.args.stations.now.items c.args.place ≡ Some c.in-Some-get_mut.station.now =
    slice_get_read c.args.stations.now.items (length c.args.stations.now.items) c.args.place
    c.in-Some-get_mut.station.now refl c.in-Some-get_mut.ensures.item.3.0 c.in-Some-get_mut.ensures.item.1
    in
    record { well = c.requires.well c.args.place c.in-Some.server.now c.in-Some-get_mut.station.now there stands }
