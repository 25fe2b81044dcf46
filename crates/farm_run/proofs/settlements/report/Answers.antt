use Rattle.std.proofs.Common.{◌≡◌, map, Some, sym, ap, subst, ◌∙◌}
use Rattle.std.specs.Prelude.{slice_get, option_copied}
use Rattle.dist_types.specs.declared.addr.Addr.{Addr}
use Rattle.farm_entries.specs.declared.entry.Effect.{Effect}
use Rattle.farm_run.specs.declared.pending.Made.{Made}
use Rattle.farm_entries.specs.declared.pending.Pending.{Pending}
use Rattle.farm_entries.specs.Begun.{Keeps, completion_at}
use Rattle.farm_stations.specs.Stations.{now_of}
use Rattle.farm_laws.proofs.NextLemmas.{reports_in_core}
use Rattle.farm_stations.specs.Post.{Around, around_of, outside_of}
use Rattle.farm_entries.specs.Weather.{Outside, calm, weather_of}
use Rattle.farm_laws.proofs.FreeLemmas.{report_free}
use Rattle.farm_entries.specs.declared.site.SiteServer.{SiteServer as Site}
use Rattle.farm_run.proofs.CutLemmas.{cut_as}
use Rattle.farm_run.proofs.ResultLemmas.{ok_then, ok_and, ok_on, err_then}
use Rattle.farm_run.proofs.ServerLemmas.{place_found, are_well}
use Rattle.farm_run.proofs.StandLemmas.{stands_same, stands_reported}
use Rattle.farm_run.proofs.RowLemmas.{report_step, no_report, report_there}
use Rattle.farm_run.proofs.settlements.report.Goals as goal

pub report_at-requires : goal.report_at-requires
report_at-requires g c = record {
  well = are_well c.args.desk.now.setup.servers c.args.entries.now
      c.args.stations.now.items c.requires.stations;
}

pub returns-in-None-clause-made : goal.returns-in-None-clause-made
returns-in-None-clause-made g c = (
  calm,
  no_report calm c.args.desk.now.setup c.args.entries.now c.args.back.now.life c.args.back.now.brought.now
      c.args.back.now.root c.args.back.now.json (option_copied c.args.back.now.reply) c.args.told
      c.args.back.now.server c.whole.result.effect (sym c.in-None.ensures.place)
      (ap (λ (m : Made). m.effect) c.whole.ensures ∙ c.of_word.ensures),
  stands_same c.args.desk.now.setup c.args.entries.now c.args.stations.now.items c.whole.result.effect
      c.requires.stations
      (ap (λ (m : Made). m.effect.step) c.whole.ensures ∙ ap (λ (x : Effect). x.step) c.of_word.ensures),
)

pub returns-in-Some-clause-cut : goal.returns-in-Some-clause-cut
returns-in-Some-clause-cut g c =
    let f = place_found c.args.desk.now.setup c.args.back.now.server c.in-Some.place
    (sym c.in-Some.ensures.place) in
    err_then c.report_at.result c.report_at.ensures.cut
    (cut_as (λ (a : Addr) (was is : Around). (s : Site)
    → slice_get c.args.desk.now.setup.servers c.in-Some.place ≡ Some s → s.addr ≡ a)
    (λ (a : Addr) (was is : Around). c.args.back.now.server ≡ a) c.args.desk.now.setup
    (map around_of c.args.stations.now.items) (map around_of c.report_at.new.stations.items)
    (λ a was is own. sym f.at ∙ own f.server f.there))

pub returns-in-Some-clause-made : goal.returns-in-Some-clause-made
returns-in-Some-clause-made g c =
    let f = place_found c.args.desk.now.setup c.args.back.now.server c.in-Some.place
    (sym c.in-Some.ensures.place) in
    ok_then c.report_at.result (ok_and _ _ c.report_at.result c.report_at.ensures.step
    (ok_on _ c.report_at.result c.report_at.ensures.there)) (λ m all.
    let st = all.1 in
    let (is, reports) = all.0 f.server st.0 f.there st.1 in
    let w = weather_of (outside_of st.0) (outside_of is.after) in (
      w,
      report_there w c.args.desk.now.setup c.args.entries.now c.args.stations.now.items c.args.back.now.life
          c.args.back.now.brought.now c.args.back.now.root c.args.back.now.json
          (option_copied c.args.back.now.reply) c.args.told c.args.back.now.server c.in-Some.place st.0
          m.effect f c.requires.stations st.1 reports,
      stands_reported c.args.desk.now.setup c.args.entries.now c.args.stations.now.items
          c.report_at.new.stations.items m.effect c.in-Some.place f.server st.0 c.requires.apart
          c.requires.stations f.there st.1
          (report_step w c.args.desk.now.setup c.args.back.now.life (now_of f.server st.0)
          c.args.back.now.brought.now c.args.back.now.root c.args.back.now.json
          (option_copied c.args.back.now.reply) c.args.told m.effect reports) is,
    ))

pub returns-in-Some-clause-kept : goal.returns-in-Some-clause-kept
returns-in-Some-clause-kept g c =
    let f = place_found c.args.desk.now.setup c.args.back.now.server c.in-Some.place
    (sym c.in-Some.ensures.place) in
    ok_then c.report_at.result (ok_and _ _ c.report_at.result c.report_at.ensures.kept
    (ok_on _ c.report_at.result c.report_at.ensures.there)) (λ m all.
    subst (λ (a : Addr). Keeps
    (λ (p : Pending). completion_at c.args.back.now.root c.args.back.now.json a c.args.back.now.life
    m.effect.step ≡ Some p) m.effect m.pending) f.at (all.0 f.server all.1.0 f.there all.1.1))

pub returns-in-Some-clause-core : goal.returns-in-Some-clause-core
returns-in-Some-clause-core g c =
    let f = place_found c.args.desk.now.setup c.args.back.now.server c.in-Some.place
    (sym c.in-Some.ensures.place) in
    ok_then c.report_at.result (ok_and _ _ c.report_at.result c.report_at.ensures.step
    (ok_on _ c.report_at.result c.report_at.ensures.there)) (λ m all.
    let st = all.1 in
    let (is, reports) = all.0 f.server st.0 f.there st.1 in
    let w = weather_of (outside_of st.0) (outside_of is.after) in
    reports_in_core c.args.desk.now.setup c.args.back.now.life c.args.back.now.brought.now
    c.args.back.now.root c.args.back.now.json (option_copied c.args.back.now.reply) c.args.told
    (Some (now_of f.server st.0)) m.effect
    (report_free w c.args.desk.now.setup c.args.back.now.life c.args.back.now.brought.now
    c.args.back.now.root c.args.back.now.json (option_copied c.args.back.now.reply) c.args.told
    (Some (now_of f.server st.0)) m.effect reports))
