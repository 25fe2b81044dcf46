-- What a run leaves outside of the servers, and what follows where the farm made all that is there.
use Rattle.std.proofs.Common.{◌≡◌, inl, inr, ℕ, false, List, [], ◌∷◌, ◌++◌, set, Option, Some, None, refl}
use Rattle.std.proofs.Common.{sym, ap, subst, ◌∙◌, append_assoc, append-nil}
use Rattle.std.specs.Prelude.{slice_get, is_some}
use Rattle.std.proofs.lemmas.Bool.{cases_eq, true≢false}
use Rattle.std.proofs.lemmas.Option.{same_Some}
use Rattle.dist_types.specs.declared.addr.Addr.{Addr}
use Rattle.build_server.specs.Builds.{Builder}
use Rattle.farm_script.specs.declared.event.Event.{Event}
use Rattle.farm_entries.specs.declared.site.Site.{Site as Setup}
use Rattle.farm_entries.specs.declared.entry.Entry.{Entry}
use Rattle.farm_stations.specs.Hands.{Hand}
use Rattle.farm_run.specs.Farm.{AddsNext, StepsTo}
use Rattle.farm_entries.specs.Next.{IsNext, EachNext, IsRun}
use Rattle.farm_entries.specs.Passage.{reached, Stays, AreOwn, IsStill, Moves, IsMoved, Passage}
use Rattle.farm_entries.specs.Weather.{Outside, Weather, calm, weather_by}
use Rattle.farm_laws.proofs.RunLemmas.{IsRun-push}
use Rattle.farm_run.proofs.ServerLemmas.{get_set_same, get_set_other, within}

-- ---- farms whose folders and builders are their own

no_builder : (o : Option Builder) → is_some o ≡ false → o ≡ None
no_builder None e = refl
no_builder (Some b) e = absurd (true≢false e)

own_stays : (was is : Outside) → Stays was is → was.builder ≡ None → is.builder ≡ None
own_stays was is stays own = no_builder is.builder (stays.own ∙ ap (λ (o : Option Builder). is_some o) own)

own_came : (was is : Outside) → Stays was is → is.builder ≡ None → was.builder ≡ None
own_came was is stays own = no_builder was.builder (sym stays.own ∙ ap (λ (o : Option Builder). is_some o) own)

own_set : (old : List Outside) (place : ℕ) (was is : Outside) → AreOwn old → slice_get old place ≡ Some was
    → Stays was is → AreOwn (set old place is)
own_set old place was is own before stays = λ i o at. elim (cases_eq place i) [
  | inl same ↦
      let here : Some is ≡ Some o = sym (get_set_same old place is (within old place was before))
      ∙ ap (slice_get (set old place is)) same ∙ at in
      subst (λ (x : Outside). x.builder ≡ None) (same_Some is o here)
      (own_stays was is stays (own place was before))
  | inr differ ↦ own i o (sym (get_set_other old place i is differ) ∙ at)
]

still_own : (w : Weather) (old new : List Outside) → IsStill w old new → AreOwn old → (w ≡ calm) × AreOwn new
still_own w old new is own = (is.own own, subst AreOwn (sym is.left) own)

pub moves_own : (setup : Setup) (o : Option Addr) (w : Weather) (old new : List Outside)
    → Moves setup o w old new → AreOwn old → (w ≡ calm) × AreOwn new
moves_own setup None w old new is own = still_own w old new is own
moves_own setup (Some addr) w old new (inl m) own = (
  m.weather ∙ ap (λ (o : Option Builder). weather_by o m.was m.is) (own m.place m.was m.before),
  subst AreOwn (sym m.left) (own_set old m.place m.was m.is own m.before m.leaves.stays),
)
moves_own setup (Some addr) w old new (inr m) own = still_own w old new m.still own

-- what is the farm's own after an entry was so before it
own_back : (old : List Outside) (place : ℕ) (was is : Outside) → AreOwn (set old place is)
    → slice_get old place ≡ Some was → Stays was is → AreOwn old
own_back old place was is own before stays = λ i o at. elim (cases_eq place i) [
  | inl same ↦
      let here : was ≡ o = same_Some was o (sym before ∙ ap (slice_get old) same ∙ at) in
      subst (λ (x : Outside). x.builder ≡ None) here (own_came was is stays
      (own place is (get_set_same old place is (within old place was before))))
  | inr differ ↦ own i o (get_set_other old place i is differ ∙ at)
]

moves_back : (setup : Setup) (o : Option Addr) (w : Weather) (old new : List Outside)
    → Moves setup o w old new → AreOwn new → AreOwn old
moves_back setup None w old new is own = subst AreOwn is.left own
moves_back setup (Some addr) w old new (inl m) own =
    own_back old m.place m.was m.is (subst AreOwn m.left own) m.before m.leaves.stays
moves_back setup (Some addr) w old new (inr m) own = subst AreOwn m.still.left own

-- one entry more of such a farm is one in calm weather
pub calm_next : (setup next : Setup) (old new : List Entry) (event : Event) (before after : List Outside)
    → AddsNext setup old event new before after → next ≡ setup → (AreOwn before → IsRun calm setup old)
    → AreOwn after → IsRun calm next new
calm_next setup next old new event before after (w, e, is, moved, more) same was own =
    let b : AreOwn before = moves_back setup (reached e.event.kind e.step) w before after moved own in
    let still : w ≡ calm = (moves_own setup (reached e.event.kind e.step) w before after moved b).0 in
    let calmly : IsNext calm setup old event e = subst (λ (u : Weather). IsNext u setup old event e) still
    is in
    let kind : event ≡ e.event = sym (ap (λ (d : Entry). d.event) is.2) in
    let one : IsNext calm setup old e.event e = subst (λ (v : Event). IsNext calm setup old v e) kind
    calmly in
    subst (λ (s : Setup). IsRun calm s new) (sym same)
    (subst (λ (l : List Entry). IsRun calm setup l) (sym more) (IsRun-push calm setup old e (was b) one))

-- a run of such a farm is one in calm weather
pub passage_calm : (setup : Setup) (log : List Entry) (old : List Outside) (events : List Event)
    (entries : List Entry) (new : List Outside) → Passage setup log old events entries new → AreOwn old
    → EachNext calm setup log events entries × AreOwn new
passage_calm setup log old [] [] new p own = (tt, subst AreOwn (sym p) own)
passage_calm setup log old (v ∷ vs) (e ∷ es) new (w, mid, next, moved, rest) own =
    let m = moves_own setup (reached e.event.kind e.step) w old mid moved own in
    let r = passage_calm setup (log ++ e ∷ []) mid vs es new rest m.1 in
    ((subst (λ (u : Weather). IsNext u setup log v e) m.0 next, r.0), r.1)
passage_calm setup log old [] (e ∷ es) new p own = absurd p
passage_calm setup log old (v ∷ vs) [] new p own = absurd p

-- ---- any run

-- a run goes on by one entry
pub passage-push : (setup : Setup) (log : List Entry) (old : List Outside) (events : List Event)
    (entries : List Entry) (mid new : List Outside) (event : Event) (w : Weather) (e : Entry)
    → Passage setup log old events entries mid → IsNext w setup (log ++ entries) event e
    → IsMoved setup e w mid new → Passage setup log old (events ++ event ∷ []) (entries ++ e ∷ []) new
passage-push setup log old [] [] mid new event w e p next moved = (
  w,
  new,
  subst (λ (l : List Entry). IsNext w setup l event e) (append-nil log) next,
  subst (λ (o : List Outside). IsMoved setup e w o new) p moved,
  refl,
)
passage-push setup log old (v ∷ vs) (x ∷ xs) mid new event w e (u, between, is, goes, rest) next moved = (
  u,
  between,
  is,
  goes,
  passage-push setup (log ++ x ∷ []) between vs xs mid new event w e rest
      (subst (λ (l : List Entry). IsNext w setup l event e) (sym (append_assoc log (x ∷ []) xs)) next) moved,
)
passage-push setup log old [] (x ∷ xs) mid new event w e p next moved = absurd p
passage-push setup log old (v ∷ vs) [] mid new event w e p next moved = absurd p

-- one entry more is a step of the farm
pub step_of : (setup next : Setup) (old new : List Entry) (event : Event) (before after : List Outside)
    (had has : List Hand) → AddsNext setup old event new before after → next ≡ setup
    → StepsTo (record { setup = setup; entries = old; outside = before; hands = had }) event
    (record { setup = next; entries = new; outside = after; hands = has })
step_of setup next old new event before after had has (w, e, is, moved, more) same = (
  w,
  e,
  is,
  moved,
  ap (λ (s : Setup). record { setup = s; entries = new; outside = after; hands = has }) same
      ∙ ap (λ (l : List Entry). record { setup = setup; entries = l; outside = after; hands = has }) more,
)
