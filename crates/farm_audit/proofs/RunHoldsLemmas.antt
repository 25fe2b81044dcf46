-- What a farm prints holds.
use Rattle.std.proofs.Common.{◌≡◌, ℕ, ◌<◌, ◌^◌, ◌≤◌, List, [], length, take, sym, subst, arith}
use Rattle.std.proofs.lemmas.List.{take_all}
use Rattle.core_rules.specs.Laws.{IsLegal}
use Rattle.farm_script.specs.declared.event.Event.{Event}
use Rattle.farm_entries.specs.declared.site.Site.{Site}
use Rattle.farm_entries.specs.declared.entry.Entry.{Entry}
use Rattle.farm_entries.specs.Builds.{AreBuilds, AreStarted, AreBuiltOnce}
use Rattle.farm_entries.specs.Lawful.{AreLawful}
use Rattle.farm_entries.specs.Next.{EachNext}
use Rattle.farm_entries.specs.Printed.{run_text}
use Rattle.farm_entries.specs.RunText.{IsRunText}
use Rattle.farm_entries.specs.Seen.{core_log, ids_start}
use Rattle.farm_entries.specs.Sites.{site_of}
use Rattle.farm_entries.specs.Weather.{Weather, calm}
use Rattle.run_lines.specs.Grammar.{Each}
use Rattle.audit.specs.Held.{IsHeld}
use Rattle.farm_audit.specs.Fit.{EffectFits, EntryFits, SiteFits}
use Rattle.farm_audit.proofs.History.{IsHistory}
use Rattle.farm_audit.proofs.FarmHeldLemmas.{run_held}
use Rattle.farm_audit.proofs.FirstBuildLemmas.{first_builds}
use Rattle.farm_audit.proofs.FitLemmas.{lines_fit}
use Rattle.farm_audit.proofs.MomentLemmas.{moments}
use Rattle.farm_audit.proofs.EventLemmas.{events_keyed, entries_lined}
use Rattle.farm_audit.proofs.ValueLemmas.{entries_are}

-- a run has the history of a farm
history : (w : Weather) (setup : Site) (events : List Event) (es : List Entry) → EachNext w setup [] events es
    → AreLawful setup es → AreBuilds setup es → IsHistory (ids_start setup) es
history w setup events es each lawful builds =
    let whole : take (length es) es ≡ es = take_all (length es) es (omega arith) in
    record {
      legal = subst (λ (x : List Entry). IsLegal (ids_start setup) (core_log x)) whole (lawful (length es)).legal;
      moments = moments w setup [] events es each;
      builds = first_builds setup es (subst (AreStarted setup) whole (builds.started (length es)))
          (subst AreBuiltOnce whole (builds.once (length es)));
    }

pub run_holds : (w : Weather) (setup : Site) (events : List Event) (es : List Entry)
    → setup.scheduler.count < 2 ^ 64 → EachNext w setup [] events es → AreLawful setup es → AreBuilds setup es
    → SiteFits setup → Each EntryFits es → length (run_text setup es) ≤ 268435456 → IsHeld (run_text setup es)
run_holds w setup events es count each lawful builds fits all short =
    let h = history w setup events es each lawful builds in
    run_held setup es (lines_fit setup es count fits all h.legal short) short h

-- the text of a script's run
pub script_holds : (bytes text : List ℕ) (run : IsRunText bytes text) → run.setup.scheduler.count < 2 ^ 64
    → SiteFits (site_of run.setup) → Each EffectFits run.entries → length text ≤ 268435456 → IsHeld text
script_holds bytes text run count fits all short =
    let site = site_of run.setup in
    let lined = entries_lined calm site [] run.events run.entries run.each
    (events_keyed bytes run.setup run.events run.says) all in
    subst (λ (t : List ℕ). IsHeld t) (sym run.is)
    (run_holds calm site run.events run.entries count run.each run.lawful run.builds fits
    (entries_are run.entries lined all)
    (subst (λ (t : List ℕ). length t ≤ 268435456) run.is short))
