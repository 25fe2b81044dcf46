use Rattle.std.proofs.Common.{◌≡◌, ◌∙◌, inr, List, length, set, refl, ap, sym, subst, Some}
use Rattle.std.specs.Prelude.{slice_get, option_copied}
use Rattle.std.proofs.lemmas.Option.{same_Some, slice_get_read}
use Rattle.farm_entries.specs.declared.site.SiteServer.{SiteServer as SetupServer}
use Rattle.farm_entries.specs.declared.pending.Pending.{Pending}
use Rattle.farm_entries.specs.Begun.{Keeps, completion_at}
use Rattle.farm_run.proofs.CutLemmas.{cut_at}
use Rattle.farm_run.proofs.ResultLemmas.{ok_then, ok_and, ok_on, on_ok, err_then}
use Rattle.farm_run.proofs.RowLemmas.{report_same}
use Rattle.farm_run.proofs.settlements.report_at.Goals as goal

pub returns-in-Some-get_mut-clause-cut : goal.returns-in-Some-get_mut-clause-cut
returns-in-Some-get_mut-clause-cut g c =
    let there : slice_get c.args.desk.now.setup.servers c.args.place ≡ Some c.in-Some.server.now =
    subst (λ (xs : List SetupServer). slice_get xs c.args.place ≡ Some c.in-Some.server.now)
    c.get.ensures.items
    (slice_get_read c.get.result.now (length c.get.result.now) c.args.place c.in-Some.server.now refl
    c.in-Some.ensures.lookup.3.0 c.in-Some.ensures.lookup.1) in
    err_then c.report_in.result c.report_in.ensures.leaves (λ leaves. inr (
      c.in-Some.server.now.addr,
      cut_at c.args.desk.now.setup c.args.stations.now.items c.args.place c.in-Some.server.now
          c.in-Some-get_mut.station.now c.report_in.new.station there
          (slice_get_read c.args.stations.now.items (length c.args.stations.now.items) c.args.place
          c.in-Some-get_mut.station.now refl c.in-Some-get_mut.ensures.item.3.0 c.in-Some-get_mut.ensures.item.1)
          leaves,
      λ s at. ap (λ (x : SetupServer). x.addr) (same_Some s c.in-Some.server.now (sym at ∙ there)),
    ))

pub returns-in-Some-get_mut-clause-kept : goal.returns-in-Some-get_mut-clause-kept
returns-in-Some-get_mut-clause-kept g c =
    ok_then c.report_in.result c.report_in.ensures.kept (λ m kept s st at bt.
    let there : slice_get c.args.desk.now.setup.servers c.args.place ≡ Some c.in-Some.server.now =
    subst (λ (xs : List SetupServer). slice_get xs c.args.place ≡ Some c.in-Some.server.now)
    c.get.ensures.items
    (slice_get_read c.get.result.now (length c.get.result.now) c.args.place c.in-Some.server.now refl
    c.in-Some.ensures.lookup.3.0 c.in-Some.ensures.lookup.1) in
    subst (λ (x : SetupServer). Keeps (λ (p : Pending). completion_at c.args.back.now.root
    c.args.back.now.json x.addr c.args.back.now.life m.effect.step ≡ Some p) m.effect m.pending)
    (same_Some c.in-Some.server.now s (sym there ∙ at)) kept)

pub returns-in-Some-get_mut-clause-step : goal.returns-in-Some-get_mut-clause-step
returns-in-Some-get_mut-clause-step g c =
    ok_then c.report_in.result (ok_and _ _ c.report_in.result c.report_in.ensures.after
    (ok_and _ _ c.report_in.result (ok_on _ c.report_in.result c.report_in.ensures.still_well)
    (ok_and _ _ c.report_in.result c.report_in.ensures.outside c.report_in.ensures.made))) (λ m is s st at bt.
    let there : slice_get c.args.desk.now.setup.servers c.args.place ≡ Some c.in-Some.server.now =
    subst (λ (xs : List SetupServer). slice_get xs c.args.place ≡ Some c.in-Some.server.now)
    c.get.ensures.items
    (slice_get_read c.get.result.now (length c.get.result.now) c.args.place c.in-Some.server.now refl
    c.in-Some.ensures.lookup.3.0 c.in-Some.ensures.lookup.1) in
    let stands : slice_get c.args.stations.now.items c.args.place ≡ Some c.in-Some-get_mut.station.now =
    slice_get_read c.args.stations.now.items (length c.args.stations.now.items) c.args.place
    c.in-Some-get_mut.station.now refl c.in-Some-get_mut.ensures.item.3.0 c.in-Some-get_mut.ensures.item.1
    in
    report_same c.args.desk.now.setup c.args.place c.args.back.now.life c.args.back.now.brought.now
    c.args.back.now.root c.args.back.now.json (option_copied c.args.back.now.reply) c.args.told
    m.effect c.args.stations.now.items
    (set c.args.stations.now.items c.args.place c.report_in.new.station) c.in-Some.server.now s
    c.in-Some-get_mut.station.now st c.report_in.new.station
    (same_Some c.in-Some.server.now s (sym there ∙ at))
    (same_Some c.in-Some-get_mut.station.now st (sym stands ∙ bt)) refl
    is.0 is.1.0 is.1.1.0 is.1.1.1)

pub returns-in-Some-get_mut-clause-there : goal.returns-in-Some-get_mut-clause-there
returns-in-Some-get_mut-clause-there g c = on_ok c.report_in.result (
  c.in-Some-get_mut.station.now,
  slice_get_read c.args.stations.now.items (length c.args.stations.now.items) c.args.place
      c.in-Some-get_mut.station.now refl c.in-Some-get_mut.ensures.item.3.0 c.in-Some-get_mut.ensures.item.1,
)

pub report_in-requires : goal.report_in-requires
report_in-requires g c =
    let there : slice_get c.args.desk.now.setup.servers c.args.place ≡ Some c.in-Some.server.now =
    subst (λ (xs : List SetupServer). slice_get xs c.args.place ≡ Some c.in-Some.server.now)
    c.get.ensures.items
    (slice_get_read c.get.result.now (length c.get.result.now) c.args.place c.in-Some.server.now refl
    c.in-Some.ensures.lookup.3.0 c.in-Some.ensures.lookup.1) in
    let stands : slice_get c.args.stations.now.items c.args.place ≡ Some c.in-Some-get_mut.station.now =
    slice_get_read c.args.stations.now.items (length c.args.stations.now.items) c.args.place
    c.in-Some-get_mut.station.now refl c.in-Some-get_mut.ensures.item.3.0 c.in-Some-get_mut.ensures.item.1
    in
    record { well = c.requires.well c.args.place c.in-Some.server.now c.in-Some-get_mut.station.now there stands }
