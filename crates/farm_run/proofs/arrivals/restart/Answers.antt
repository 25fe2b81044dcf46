use Rattle.std.proofs.Common.{◌≡◌, inr, List, length, set, refl, ap, sym, subst, Some}
use Rattle.std.specs.Prelude.{slice_get}
use Rattle.std.proofs.lemmas.Option.{slice_get_read}
use Rattle.farm_entries.specs.declared.site.SiteServer.{SiteServer as SetupServer}
use Rattle.farm_run.specs.declared.pending.Made.{Made}
use Rattle.farm_stations.specs.Stations.{IsRestartedSo}
use Rattle.farm_run.proofs.CutLemmas.{cut_at}
use Rattle.farm_run.proofs.ResultLemmas.{on_err}
use Rattle.farm_run.proofs.ServerLemmas.{place_found}
use Rattle.farm_run.proofs.RowLemmas.{no_restart, restart_at}
use Rattle.farm_run.proofs.arrivals.restart.Goals as goal

pub returns-in_err-effect-in-Some-get_mut-clause-cut :
    goal.returns-in_err-effect-in-Some-get_mut-clause-cut
returns-in_err-effect-in-Some-get_mut-clause-cut g c =
    let f = place_found c.args.desk.now.setup c.args.addr c.in-Some.place (sym c.in-Some.ensures.place) in
    on_err c.from_residual.result (inr (
      f.server.addr,
      cut_at c.args.desk.now.setup c.args.stations.now.items c.in-Some.place f.server
          c.in-Some-get_mut.station.now c.restart_in.new.station f.there
          (slice_get_read c.args.stations.now.items (length c.args.stations.now.items) c.in-Some.place
          c.in-Some-get_mut.station.now refl c.in-Some-get_mut.ensures.item.3.0 c.in-Some-get_mut.ensures.item.1)
          c.in_err-effect-in-Some-get_mut.ensures.leaves,
      (
        sym f.at,
        c.in_err-effect-in-Some-get_mut.ensures.clears,
        c.in_err-effect-in-Some-get_mut.ensures.builder,
        c.restart_in.ensures.hand,
      ),
    ))

pub returns-in_ok-effect-in-Some-get_mut-clause-none : goal.returns-in_ok-effect-in-Some-get_mut-clause-none
returns-in_ok-effect-in-Some-get_mut-clause-none g c = λ none.
    no_restart _ c.args.desk.now.setup c.args.addr c.in-Some.place (sym c.in-Some.ensures.place) none

pub returns-in_ok-effect-in-Some-get_mut-clause-some : goal.returns-in_ok-effect-in-Some-get_mut-clause-some
returns-in_ok-effect-in-Some-get_mut-clause-some g c = λ p s st e at bt.
    let there : slice_get c.args.desk.now.setup.servers c.in-Some.place ≡ Some c.in-Some-get.server.now =
    subst (λ (xs : List SetupServer). slice_get xs c.in-Some.place ≡ Some c.in-Some-get.server.now)
    c.get.ensures.items
    (slice_get_read c.get.result.now (length c.get.result.now) c.in-Some.place c.in-Some-get.server.now refl
    c.in-Some-get.ensures.lookup.3.0 c.in-Some-get.ensures.lookup.1) in
    let stands : slice_get c.args.stations.now.items c.in-Some.place ≡ Some c.in-Some-get_mut.station.now =
    slice_get_read c.args.stations.now.items (length c.args.stations.now.items) c.in-Some.place
    c.in-Some-get_mut.station.now refl c.in-Some-get_mut.ensures.item.3.0 c.in-Some-get_mut.ensures.item.1
    in
    let server = c.in-Some-get.server.now in
    let station = c.in-Some-get_mut.station.now in
    restart_at c.args.desk.now.setup c.args.addr c.args.stations.now.items
    (set c.args.stations.now.items c.in-Some.place c.restart_in.new.station) c.whole.result c.args.key.now
    c.args.nonce
    c.in-Some.place server station (sym c.in-Some.ensures.place) there stands (
      ap (λ (m : Made). m.pending) c.whole.ensures,
      record {
        after = c.restart_in.new.station;
        is = refl;
        so = subst (λ (m : Made).
            IsRestartedSo server station c.restart_in.new.station c.args.key.now c.args.nonce m.effect)
            (sym c.whole.ensures) c.in_ok-effect-in-Some-get_mut.ensures.restarts;
      },
    ) p s st e at bt

pub restart_in-requires : goal.restart_in-requires
restart_in-requires g c =
    let there : slice_get c.args.desk.now.setup.servers c.in-Some.place ≡ Some c.in-Some-get.server.now =
    subst (λ (xs : List SetupServer). slice_get xs c.in-Some.place ≡ Some c.in-Some-get.server.now)
    c.get.ensures.items
    (slice_get_read c.get.result.now (length c.get.result.now) c.in-Some.place c.in-Some-get.server.now refl
    c.in-Some-get.ensures.lookup.3.0 c.in-Some-get.ensures.lookup.1) in
    let stands : slice_get c.args.stations.now.items c.in-Some.place ≡ Some c.in-Some-get_mut.station.now =
    slice_get_read c.args.stations.now.items (length c.args.stations.now.items) c.in-Some.place
    c.in-Some-get_mut.station.now refl c.in-Some-get_mut.ensures.item.3.0 c.in-Some-get_mut.ensures.item.1
    in
    record { well = c.requires.well c.in-Some.place c.in-Some-get.server.now c.in-Some-get_mut.station.now there stands }
