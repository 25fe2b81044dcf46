-- The run of the storm, event by event.
use Rattle.std.proofs.Common.{◌≡◌, ◌≢◌, ℕ, ◌+◌, ◌<◌, List, [], ◌∷◌, ◌++◌, map}
use Rattle.std.proofs.Common.{refl, sym, ap, subst, ◌∙◌, arith}
use Rattle.std.specs.List.{AllByRecursion}
use Rattle.dist_types.specs.declared.addr.Addr.{Addr}
use Rattle.dist_types.specs.declared.addr.Addr.TheVariants.{V4, V6}
use Rattle.farm_script.specs.Setups.{AreApart}
use Rattle.farm_script.specs.declared.event.Event.{Event}
use Rattle.farm_entries.specs.declared.entry.Entry.{Entry}
use Rattle.farm_run.specs.Farm.{Farmed, StepsTo}
use Rattle.farm_entries.specs.declared.site.Site.{Site}
use Rattle.farm_entries.specs.Next.{IsNext, EachNext}
use Rattle.farm_entries.specs.Passage.{reached, AreOwn}
use Rattle.farm_entries.specs.Sites.{site_of}
use Rattle.farm_entries.specs.Weather.{Weather, calm}
use Rattle.farm_run.proofs.PassageLemmas.{moves_own}
use Rattle.farm_laws.proofs.RunLemmas.{EachNext-push}
use Rattle.farm_storm.specs.Deeds.{storm_deeds}
use Rattle.farm_storm.specs.Places.{deed_at}
use Rattle.farm_storm.specs.Storm.{local, event_of, storm_setup, storm_events}
use Rattle.farm_storm.specs.Summary.{summary, IsStormText, IsStormed}
use Rattle.farm_storm.proofs.PlaceLemmas.{events_more}

-- ---- the addresses differ

-- each is greater than the one before it
abbrev AreRising : ℕ → List ℕ → Type 0
AreRising p [] = Unit {0}
AreRising p (q ∷ qs) = (p < q) × AreRising q qs

abbrev port_of : Addr → ℕ
port_of (V4 octets port) = port
port_of (V6 groups port) = port

differs : (p q : ℕ) → p < q → local q ≢ local p
differs p q low = λ e. let same : q ≡ p = ap port_of e in absurd (omega (arith, low, same))

differ : (p q : ℕ) (qs : List ℕ) → p < q → AreRising q qs → AllByRecursion (λ b. b ≢ local p)
    (map local (q ∷ qs))
differ p q [] low rising = (differs p q low, tt)
differ p q (r ∷ rs) low rising = (differs p q low, differ p r rs (omega (arith, low, rising.0)) rising.1)

ports_apart : (p : ℕ) (qs : List ℕ) → AreRising p qs → AreApart (map local (p ∷ qs))
ports_apart p [] rising = (tt, tt)
ports_apart p (q ∷ qs) rising = (differ p q qs rising.0 rising.1, ports_apart q qs rising.1)

pub setup_apart : AreApart (storm_setup.scheduler.addr ∷ map (λ s. s.addr) storm_setup.servers)
unfolding storm_setup
setup_apart =
    ports_apart 10600 (20001 ∷ 20002 ∷ 20003 ∷ 20004 ∷ 20005 ∷ 20006 ∷ 20007 ∷ 20008 ∷ []) (
      omega arith,
      (
        omega arith,
        (omega arith, (omega arith, (omega arith, (omega arith, (omega arith, (omega arith, tt)))))),
      ),
    )

-- ---- the run

events_none : storm_events 0 ≡ []
unfolding storm_events storm_deeds
events_none = refl

pub begun_run : (farm : Farmed) → farm.setup ≡ site_of storm_setup → farm.entries ≡ [] → AreOwn farm.outside
    → IsStormed 0 farm
begun_run farm is none own = record {
  setup = is;
  each = subst (λ (es : List Event). EachNext calm (site_of storm_setup) [] es farm.entries)
      (sym events_none)
      (subst (λ (l : List Entry). EachNext calm (site_of storm_setup) [] [] l) (sym none) tt);
  own = own;
}

pub more_run : (n : ℕ) (farm new : Farmed) → IsStormed n farm → StepsTo farm (event_of n (deed_at n)) new
    → IsStormed (n + 1) new
more_run n farm new run (w, e, next, moved, is) =
    let event = event_of n (deed_at n) in
    let site = site_of storm_setup in
    let m = moves_own farm.setup (reached e.event.kind e.step) w farm.outside new.outside moved run.own in
    let one : IsNext calm farm.setup farm.entries event e =
    subst (λ (u : Weather). IsNext u farm.setup farm.entries event e) m.0 next in
    let two : IsNext calm site farm.entries event e =
    subst (λ (s : Site). IsNext calm s farm.entries event e) run.setup one in
    let more : EachNext calm site [] (storm_events n ++ event ∷ []) (farm.entries ++ e ∷ []) =
    EachNext-push calm site [] (storm_events n) farm.entries event e run.each two in
    record {
      setup = ap (λ (f : Farmed). f.setup) is ∙ run.setup;
      each = subst (λ (es : List Event). EachNext calm site [] es new.entries) (sym (events_more n))
          (subst (λ (l : List Entry). EachNext calm site [] (storm_events n ++ event ∷ []) l)
          (sym (ap (λ (f : Farmed). f.entries) is)) more);
      own = m.1;
    }

-- the summary of a farm that ran the storm's events is that of the storm
pub told : (n : ℕ) (farm : Farmed) (text : List ℕ) → IsStormed n farm → text ≡ summary n farm.entries
    → IsStormText n text
told n farm text run is = record { entries = farm.entries; each = run.each; is = is }
