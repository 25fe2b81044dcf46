-- One more event of a farm, and what a farm that ran has.
use Rattle.std.proofs.Common.{◌≡◌, ℕ, ◌<◌, ◌^◌, List, [], ◌∷◌, ◌++◌, map, Result, Ok, Err, ap, ◌∙◌, sym}
use Rattle.std.proofs.Common.{subst, append_assoc}
use Rattle.std.specs.Prelude.{IfOk}
use Rattle.farm_stations.specs.Hands.{Hand}
use Rattle.folders.specs.Held.{Held}
use Rattle.farm_script.specs.declared.event.Event.{Event}
use Rattle.farm_script.specs.declared.event.EventKind.{EventKind}
use Rattle.line_program.specs.declared.fault.FarmFault.{FarmFault}
use Rattle.farm_script.specs.declared.setup.Setup.{Setup as Script}
use Rattle.farm_script.specs.Script.{script}
use Rattle.farm_script.specs.Setups.{IsSetup}
use Rattle.farm_entries.specs.declared.entry.Entry.{Entry}
use Rattle.farm_entries.specs.declared.site.Site.{Site}
use Rattle.farm_entries.specs.Builds.{AreBuilds, HasToken, HasWords}
use Rattle.farm_entries.specs.Reliable.{ReturnsGrant}
use Rattle.farm_run.specs.Farm.{Farmed, with_entries, Runs, AreOnce}
use Rattle.farm_run.specs.Stops.{AreHandedBack}
use Rattle.farm_entries.specs.Lawful.{AreLawful}
use Rattle.farm_entries.specs.Next.{IsNext, EachNext, IsRun}
use Rattle.farm_entries.specs.Passage.{AreOwn, IsMoved}
use Rattle.farm_entries.specs.Printed.{run_text}
use Rattle.farm_entries.specs.RunText.{IsReadText}
use Rattle.farm_entries.specs.Sites.{site_of}
use Rattle.farm_entries.specs.Weather.{Weather, calm, free}
use Rattle.farm_laws.proofs.BuildLemmas.{run_builds}
use Rattle.farm_laws.proofs.GrantLemmas.{returns_grant}
use Rattle.farm_laws.proofs.RanLemmas.{never_ran_twice}
use Rattle.farm_run.proofs.PassageLemmas.{passage_calm, passage-push}
use Rattle.farm_laws.proofs.ReliableLemmas.{is_reliable}
use Rattle.farm_laws.proofs.SettleLemmas.{settled_throughout}
use Rattle.farm_laws.proofs.ShownLemmas.{has_token}

-- a run goes on by one event
pub Runs-push : (old : Farmed) (events : List Event) (event : Event) (mid new : Farmed) (w : Weather)
    (e : Entry)
    → Runs old events mid → IsNext w mid.setup mid.entries event e
    → IsMoved mid.setup e w mid.outside new.outside → new ≡ with_entries mid (e ∷ []) new.outside new.hands
    → Runs old (events ++ event ∷ []) new
Runs-push old events event mid new w e (entries, passage, mid_is) is moved new_is =
    let next : IsNext w old.setup (old.entries ++ entries) event e =
    subst (λ (m : Farmed). IsNext w m.setup m.entries event e) mid_is is in
    let moves : IsMoved old.setup e w mid.outside new.outside =
    subst (λ (s : Site). IsMoved s e w mid.outside new.outside) (ap (λ (m : Farmed). m.setup) mid_is) moved in
    let end : with_entries mid (e ∷ []) new.outside new.hands
    ≡ with_entries old (entries ++ e ∷ []) new.outside new.hands =
    ap (λ (m : Farmed). with_entries m (e ∷ []) new.outside new.hands) mid_is
    ∙ ap (λ (es : List Entry). record {
      setup = old.setup;
      entries = es;
      outside = new.outside;
      hands = new.hands;
    })
    (append_assoc old.entries entries (e ∷ [])) in (
      entries ++ e ∷ [],
      passage-push old.setup old.entries old.outside events entries mid.outside new.outside event w e passage
          next moves,
      new_is ∙ end,
    )

-- the entries of a run, where they were handed back
pub Runs-entries : (old : Farmed) (events : List Event) (mid : Farmed) (entries : List Entry)
    → Runs old events mid → entries ≡ mid.entries
    → Runs old events (record { setup = old.setup; entries = entries; outside = mid.outside; hands = mid.hands })
Runs-entries old events mid entries run same = (
  run.0,
  run.1,
  ap (λ (es : List Entry). record {
    setup = old.setup;
    entries = es;
    outside = mid.outside;
    hands = mid.hands;
  })
      (same ∙ ap (λ (m : Farmed). m.entries) run.2),
)

-- they are those of a run from none
pub Runs-is : (old : Farmed) (events : List Event) (mid : Farmed) (entries : List Entry)
    → Runs old events mid → entries ≡ mid.entries → IsRun free mid.setup mid.entries
    → IsRun free old.setup entries
Runs-is old events mid entries run same is =
    subst (λ (s : Site). IsRun free s entries) (ap (λ (m : Farmed). m.setup) run.2)
    (subst (λ (es : List Entry). IsRun free mid.setup es) (sym same) is)

-- what is handed back of them, said of the farm that the run began with
pub Runs-back : (old : Farmed) (events : List Event) (mid : Farmed) (entries : List Entry) (k : EventKind)
    (folders : List Held) (Given : List Hand → Type 0) → Runs old events mid → entries ≡ mid.entries
    → AreHandedBack mid.setup mid.entries k mid.outside mid.hands folders Given
    → AreHandedBack old.setup entries k mid.outside mid.hands folders Given
Runs-back old events mid entries k folders Given run same back =
    subst (λ (s : Site). AreHandedBack s entries k mid.outside mid.hands folders Given)
    (ap (λ (m : Farmed). m.setup) run.2)
    (subst (λ (es : List Entry). AreHandedBack mid.setup es k mid.outside mid.hands folders Given) (sym same) back)

-- a farm that made its folders and builders itself stays one
pub Runs-own : (old : Farmed) (events : List Event) (new : Farmed) → Runs old events new → AreOwn old.outside
    → AreOwn new.outside
Runs-own old events new run own =
    (passage_calm old.setup old.entries old.outside events run.0 new.outside run.1 own).1

-- and its entries are those of a run from none in calm weather
pub Runs-calm : (old : Farmed) (events : List Event) (mid : Farmed) (entries : List Entry)
    → Runs old events mid → entries ≡ mid.entries → (AreOwn mid.outside → IsRun calm mid.setup mid.entries)
    → AreOwn old.outside → IsRun calm old.setup entries
Runs-calm old events mid entries run same is own =
    subst (λ (s : Site). IsRun calm s entries) (ap (λ (m : Farmed). m.setup) run.2)
    (subst (λ (es : List Entry). IsRun calm mid.setup es) (sym same) (is (Runs-own old events mid run own)))

pub Runs-builds : (old : Farmed) (events : List Event) (new : Farmed) → old.setup.scheduler.count < 2 ^ 64
    → (HasToken old.setup.scheduler.auth → HasWords old.setup) → Runs old events new
    → IsRun free new.setup new.entries → HasToken old.setup.scheduler.auth → AreBuilds new.setup new.entries
Runs-builds old events new fits words run is token =
    let same : new.setup ≡ old.setup = ap (λ (f : Farmed). f.setup) run.2 in
    let own : IsRun free old.setup new.entries = subst (λ (s : Site). IsRun free s new.entries) same is in
    subst (λ (s : Site). AreBuilds s new.entries) (sym same)
    (run_builds old.setup new.entries fits words own token)

-- the same of the entries that were handed back
pub Runs-stopped : (old : Farmed) (events : List Event) (mid : Farmed) (entries : List Entry)
    → old.setup.scheduler.count < 2 ^ 64 → (HasToken old.setup.scheduler.auth → HasWords old.setup)
    → Runs old events mid
    → entries ≡ mid.entries → IsRun free mid.setup mid.entries → HasToken old.setup.scheduler.auth
    → AreBuilds old.setup entries
Runs-stopped old events mid entries fits words run same is token = run_builds old.setup entries fits words
    (Runs-is old events mid entries run same is) token

-- a run settles each call once, and runs no id twice
pub run_once : (setup : Site) (entries : List Entry) → setup.scheduler.count < 2 ^ 64
    → IsRun free setup entries → AreOnce entries
run_once setup entries fits run =
    let events = map (λ (e : Entry). e.event) entries in
    record {
      settled = settled_throughout free setup events entries run;
      ran = never_ran_twice free setup events entries fits run;
    }

-- a 200 to what its words ask grants it
pub run_grants : (setup : Site) (entries : List Entry) → (HasToken setup.scheduler.auth → HasWords setup)
    → IsRun free setup entries → HasToken setup.scheduler.auth → ReturnsGrant setup entries
run_grants setup entries words run token =
    returns_grant free setup (words token) (map (λ (e : Entry). e.event) entries) entries run

pub Runs-grants : (old : Farmed) (events : List Event) (new : Farmed)
    → (HasToken old.setup.scheduler.auth → HasWords old.setup) → Runs old events new
    → IsRun free new.setup new.entries → HasToken old.setup.scheduler.auth
    → ReturnsGrant new.setup new.entries
Runs-grants old events new words run is token =
    let same : new.setup ≡ old.setup = ap (λ (f : Farmed). f.setup) run.2 in
    let own : IsRun free old.setup new.entries = subst (λ (s : Site). IsRun free s new.entries) same is in
    subst (λ (s : Site). ReturnsGrant s new.entries) (sym same)
    (run_grants old.setup new.entries words own token)

-- the text of a farm that ran a script's events is that of the script's run
pub run_text_is : {X : Type 0} (view : X → List ℕ) (r : Result X FarmFault) (bytes : List ℕ) (setup : Script)
    (events run_events : List Event) (start farm : Farmed)
    → script bytes ≡ Ok (setup, events) → IsSetup setup → start.setup ≡ site_of setup → start.entries ≡ []
    → AreOwn start.outside
    → run_events ≡ events → Runs start run_events farm → AreLawful farm.setup farm.entries
    → (HasToken start.setup.scheduler.auth → AreBuilds farm.setup farm.entries) → AreOnce farm.entries
    → (HasToken start.setup.scheduler.auth → ReturnsGrant farm.setup farm.entries)
    → IfOk r (λ t. view t ≡ run_text farm.setup farm.entries) → IfOk r (λ t. IsReadText bytes (view t))
run_text_is view (Err f) bytes setup events run_events start farm read set setup_is none own events_is run
    laws builds once grants h = tt
run_text_is view (Ok t) bytes setup events run_events start farm read set setup_is none own events_is
    (entries, passage, farm_is) laws builds once grants h =
    let site = site_of setup in
    let token : HasToken start.setup.scheduler.auth = subst (λ (s : Site). HasToken s.scheduler.auth)
    (sym setup_is) (has_token setup.scheduler.auth set.auth) in
    let calmly = (passage_calm start.setup start.entries start.outside run_events entries farm.outside passage
    own).0 in
    let one : EachNext calm site start.entries run_events entries =
    subst (λ (s : Site). EachNext calm s start.entries run_events entries) setup_is calmly in
    let two : EachNext calm site [] run_events entries =
    subst (λ (l : List Entry). EachNext calm site l run_events entries) none one in
    let each : EachNext calm site [] events entries =
    subst (λ (es : List Event). EachNext calm site [] es entries) events_is two in
    let setup_end : farm.setup ≡ site = ap (λ (f : Farmed). f.setup) farm_is ∙ setup_is in
    let entries_end : farm.entries ≡ entries = ap (λ (f : Farmed). f.entries) farm_is
    ∙ ap (λ (l : List Entry). l ++ entries) none in
    record {
      setup = setup;
      events = events;
      entries = entries;
      read = read;
      each = each;
      lawful = subst (λ (s : Site). AreLawful s entries) setup_end
          (subst (AreLawful farm.setup) entries_end laws);
      builds = subst (λ (s : Site). AreBuilds s entries) setup_end
          (subst (AreBuilds farm.setup) entries_end (builds token));
      ran = (subst AreOnce entries_end once).ran;
      reliable = is_reliable calm site events entries each;
      grants = subst (λ (s : Site). ReturnsGrant s entries) setup_end
          (subst (ReturnsGrant farm.setup) entries_end (grants token));
      is = h ∙ ap (λ (s : Site). run_text s farm.entries) setup_end ∙ ap (run_text site) entries_end;
    }
