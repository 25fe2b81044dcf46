-- A life is a run of its farm, and the lives so far are those of a script's front.
use Rattle.std.proofs.Common.{◌≡◌, ℕ, ◌+◌, List, [], ◌∷◌, ◌++◌, length, map, refl, sym, ap, subst, ◌∙◌, arith}
use Rattle.std.specs.List.{AllByRecursion}
use Rattle.std.proofs.lemmas.List.{length-map}
use Rattle.core_rules.proofs.AllLemmas.{all-append}
use Rattle.farm_script.specs.Setups.{IsSetup}
use Rattle.farm_script.specs.declared.setup.Setup.{Setup}
use Rattle.farm_entries.specs.Builds.{AreBuilds, HasToken}
use Rattle.farm_entries.specs.Lawful.{AreLawful}
use Rattle.farm_entries.specs.Next.{EachNext}
use Rattle.farm_entries.specs.Passage.{AreOwn}
use Rattle.farm_entries.specs.Reliable.{ReturnsGrant}
use Rattle.farm_entries.specs.Sites.{site_of}
use Rattle.farm_entries.specs.Weather.{calm}
use Rattle.farm_entries.specs.declared.entry.Entry.{Entry}
use Rattle.farm_entries.specs.declared.site.Site.{Site}
use Rattle.farm_laws.proofs.ReliableLemmas.{is_reliable}
use Rattle.farm_laws.proofs.ShownLemmas.{has_token}
use Rattle.farm_run.proofs.BeginLemmas.{map_end}
use Rattle.farm_run.proofs.PassageLemmas.{passage_calm}
use Rattle.farm_run.specs.Farm.{Farmed, Runs, AreOnce}
use Rattle.farm_run.specs.GoesOn.{next_site}
use Rattle.lives.specs.Lives.{Lived, lived_in, IsLived, AreInTurn, AreLives, base_of, given_before, site_for}
use Rattle.lives.specs.Text.{life_text, lives_text}
use Rattle.lives.proofs.TurnLemmas.{Ended, end_of, end_push, turn_push, text_push}
use Rattle.lives_script.specs.declared.script.Life.{Life}
use Rattle.lives_script.specs.declared.script.Script.{Script}

pub lived_by : (life : Life) (start farm : Farmed) → start.entries ≡ [] → AreOwn start.outside
    → HasToken start.setup.scheduler.auth → Runs start life.events farm → AreLawful farm.setup farm.entries
    → (HasToken start.setup.scheduler.auth → AreBuilds farm.setup farm.entries) → AreOnce farm.entries
    → (HasToken start.setup.scheduler.auth → ReturnsGrant farm.setup farm.entries)
    → IsLived (lived_in life farm.setup farm.entries)
lived_by life start farm none own token (entries, passage, farm_is) laws builds once grants =
    let calmly : EachNext calm start.setup start.entries life.events entries =
    (passage_calm start.setup start.entries start.outside life.events entries farm.outside passage own).0 in
    let two : EachNext calm start.setup [] life.events entries =
    subst (λ (l : List Entry). EachNext calm start.setup l life.events entries) none calmly in
    let setup_end : start.setup ≡ farm.setup = sym (ap (λ (f : Farmed). f.setup) farm_is) in
    let entries_end : entries ≡ farm.entries =
    sym (ap (λ (f : Farmed). f.entries) farm_is ∙ ap (λ (l : List Entry). l ++ entries) none) in
    let each : EachNext calm farm.setup [] life.events farm.entries =
    subst (λ (s : Site). EachNext calm s [] life.events farm.entries) setup_end
    (subst (λ (es : List Entry). EachNext calm start.setup [] life.events es) entries_end two) in
    record {
      each = each;
      lawful = laws;
      builds = builds token;
      ran = once.ran;
      reliable = is_reliable calm farm.setup life.events farm.entries each;
      grants = grants token;
    }

-- the lives so far, with the farm that the last of them left, and their text
pub record LivedSoFar (setup : Setup) (lives : List Life) (farm : Farmed) (text : List ℕ) : Type 0 where
  pub lived : List Lived
  pub are : map (λ l. l.life) lived ≡ lives
  pub in_turn : AreInTurn (site_of setup) [] lived
  pub each : AllByRecursion IsLived lived
  pub end : end_of (site_of setup) [] lived ≡ record { site = farm.setup; entries = farm.entries }
  pub own : AreOwn farm.outside
  pub token : HasToken farm.setup.scheduler.auth
  pub is : text ≡ lives_text 0 lived

pub lived_none : (setup : Setup) (farm : Farmed) (text : List ℕ) → IsSetup setup → farm.setup ≡ site_of setup
    → farm.entries ≡ [] → AreOwn farm.outside → text ≡ [] → LivedSoFar setup [] farm text
lived_none setup farm text is setup_is none own empty = record {
  lived = [];
  are = refl;
  in_turn = tt;
  each = tt;
  end = sym (ap (λ (s : Site). record { site = s; entries = farm.entries }) setup_is
      ∙ ap (λ (es : List Entry). record { site = site_of setup; entries = es }) none);
  own = own;
  token = subst (λ (s : Site). HasToken s.scheduler.auth) (sym setup_is) (has_token setup.scheduler.auth is.auth);
  is = empty;
}

-- the farm that goes on has the token that it had
pub token_on : (old new : Farmed) (base count : ℕ) → HasToken old.setup.scheduler.auth
    → new.setup ≡ next_site base count old.setup old.entries → HasToken new.setup.scheduler.auth
token_on old new base count token is = subst (λ (s : Site). HasToken s.scheduler.auth) (sym is) token

pub lived_push : (setup : Setup) (lives : List Life) (farm mid new : Farmed) (old text : List ℕ) (life : Life)
    (number : ℕ) → LivedSoFar setup lives farm old → number ≡ length lives
    → mid.setup ≡ next_site (base_of life.from life.count) (given_before life.count) farm.setup farm.entries
    → new.setup ≡ mid.setup → AreOwn new.outside → IsLived (lived_in life new.setup new.entries)
    → text ≡ old ++ life_text number (lived_in life new.setup new.entries)
    → LivedSoFar setup (lives ++ life ∷ []) new text
lived_push setup lives farm mid new old text life number so place mid_is same own lived is =
    let one = lived_in life new.setup new.entries in
    let site_is : new.setup ≡ site_for life (end_of (site_of setup) [] so.lived).site
    (end_of (site_of setup) [] so.lived).entries =
    same ∙ mid_is ∙ ap (λ (e : Ended). site_for life e.site e.entries) (sym so.end) in
    let many : number ≡ length so.lived =
    place ∙ ap length (sym so.are) ∙ length-map so.lived (λ (l : Lived). l.life) in
    let counted : number ≡ 0 + length so.lived = omega (arith, many) in
    record {
      lived = so.lived ++ one ∷ [];
      are = map_end (λ (l : Lived). l.life) so.lived one
          ∙ ap (λ (ls : List Life). ls ++ life ∷ []) so.are;
      in_turn = turn_push (site_of setup) [] so.lived one so.in_turn site_is;
      each = all-append IsLived so.lived (one ∷ []) so.each (lived, tt);
      end = end_push (site_of setup) [] so.lived one;
      own = own;
      token = subst (λ (s : Site). HasToken s.scheduler.auth) (sym (same ∙ mid_is)) so.token;
      is = is ∙ ap (λ (t : List ℕ). t ++ life_text number one) so.is
          ∙ ap (λ (k : ℕ). lives_text 0 so.lived ++ life_text k one) counted
          ∙ sym (text_push 0 so.lived one);
    }

-- the lives of a whole script
pub all_lived : (s : Script) (farm : Farmed) (text : List ℕ) (so : LivedSoFar s.setup s.lives farm text)
    → AreLives s so.lived
all_lived s farm text so = record { lives = so.are; in_turn = so.in_turn; each = so.each }
