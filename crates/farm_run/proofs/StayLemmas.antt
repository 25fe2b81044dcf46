-- What a run leaves outside of the servers, and that their lists are in step with their folders.
use Rattle.std.proofs.Common.{◌≡◌, ◌≤◌, ◌⊎◌, inl, inr, codes, ℕ, zero, suc, true, List, [], ◌∷◌, ◌++◌, length, map}
use Rattle.std.proofs.Common.{drop, set, Option, Some, None, refl, sym, ap, subst, ◌∙◌, arith}
use Rattle.std.specs.Prelude.{slice_get}
use Rattle.std.proofs.lemmas.Bool.{cases_eq}
use Rattle.std.proofs.lemmas.List.{length-map, length-set}
use Rattle.std.proofs.lemmas.Option.{same_Some}
use Rattle.dist_types.specs.Cause.{Rose}
use Rattle.dist_types.specs.declared.addr.Addr.{Addr}
use Rattle.toolchain_cache.specs.Archives.{Archives, IsInStep}
use Rattle.folders.proofs.Became.{became_then, untold}
use Rattle.folders.specs.Changed.{ButUnder}
use Rattle.folders.specs.Files.{front}
use Rattle.folders.specs.Held.{Held}
use Rattle.build_server.specs.Books.{Fails}
use Rattle.farm_script.specs.declared.event.Event.{Event}
use Rattle.farm_entries.specs.declared.site.Site.{Site as Setup}
use Rattle.farm_entries.specs.declared.site.SiteServer.{SiteServer}
use Rattle.farm_entries.specs.declared.entry.Entry.{Entry}
use Rattle.farm_entries.specs.Passage.{reached, Stays, Moves, Passage, AllStay, AreInStep}
use Rattle.farm_entries.specs.Servers.{ServerNow, server_of}
use Rattle.farm_entries.specs.Weather.{Outside, Weather}
use Rattle.farm_stations.proofs.LeftLemmas.{stays_same}
use Rattle.farm_stations.specs.Post.{Post as Station, outside_of}
use Rattle.farm_stations.specs.Stations.{AreStations}
use Rattle.farm_stations.specs.Hands.{Hand, IsHandOf}
use Rattle.farm_run.specs.Farm.{Farmed, Runs}
use Rattle.farm_run.specs.Stops.{AreHands}
use Rattle.farm_run.proofs.ServerLemmas.{get_set_same, get_set_other, within, there_is}

-- ---- one server

rose_before : (a b c : ℕ) → a ≤ b → Rose b c → Rose a c
rose_before a b c le rose = omega (arith, le, rose)

rose_later : (a b c : ℕ) → Rose a b → b ≤ c → Rose a c
rose_later a b c rose le = omega (arith, rose, le)

fails_later : (a b c : Held) → Fails a b → b.faults ≤ c.faults → Fails a c
fails_later a b c (inl rose) le = inl (rose_later a.faults b.faults c.faults rose le)
fails_later a b c (inr none) le = inr none

fails_before : (a b c : Held) → a.faults ≤ b.faults → (b.files ≡ None → a.files ≡ None) → Fails b c → Fails a c
fails_before a b c le told (inl rose) = inl (rose_before a.faults b.faults c.faults le rose)
fails_before a b c le told (inr none) = inr (told none)

caused : (a b c : Outside) → Stays a b → Stays b c → (b.failed ≡ true) ⊎ Fails b.folder c.folder
    → (a.failed ≡ true) ⊎ Fails a.folder c.folder
caused a b c one two (inl failed) = caused_by (one.cause failed)
  where
    caused_by : (a.failed ≡ true) ⊎ Fails a.folder b.folder → (a.failed ≡ true) ⊎ Fails a.folder c.folder
    caused_by (inl failed) = inl failed
    caused_by (inr fails) = inr (fails_later a.folder b.folder c.folder fails two.later)
caused a b c one two (inr fails) =
    inr (fails_before a.folder b.folder c.folder one.later
    (λ none. untold (ButUnder (front (codes "tc"))) a.folder.files b.folder.files one.others none) fails)

-- what two parts of a run leave
stays_then : (a b c : Outside) → Stays a b → Stays b c → Stays a c
stays_then a b c one two = record {
  own = two.own ∙ one.own;
  others = became_then (ButUnder (front (codes "tc"))) (ButUnder (front (codes "tc")))
      (ButUnder (front (codes "tc"))) a.folder.files b.folder.files c.folder.files
      (λ f g h before after q outside. after q outside ∙ before q outside) one.others two.others;
  later = omega (arith, one.later, two.later);
  cause = λ failed. caused a b c one two (two.cause failed);
}

-- ---- all servers

all_same : (os : List Outside) → AllStay os os
all_same os = record {
  size = refl;
  each = λ i was is at bt. subst (λ (x : Outside). Stays was x) (same_Some was is (sym at ∙ bt))
      (stays_same was);
}

all_set : (old : List Outside) (place : ℕ) (was is : Outside) → slice_get old place ≡ Some was
    → Stays was is → AllStay old (set old place is)
all_set old place was is at stays = record {
  size = length-set old place is;
  each = λ i o n ot nt. elim (cases_eq place i) [
    | inl same ↦
        let here : was ≡ o = same_Some was o (sym at ∙ ap (slice_get old) same ∙ ot) in
        let there : is ≡ n =
        same_Some is n (sym (get_set_same old place is (within old place was at))
        ∙ ap (slice_get (set old place is)) same ∙ nt) in
        subst (λ (x : Outside). Stays x n) here (subst (λ (y : Outside). Stays was y) there stays)
    | inr differ ↦
        let one : o ≡ n = same_Some o n (sym ot ∙ sym (get_set_other old place i is differ) ∙ nt) in
        subst (λ (y : Outside). Stays o y) one (stays_same o)
  ];
}

all_moved : (setup : Setup) (addr : Option Addr) (w : Weather) (old new : List Outside)
    → Moves setup addr w old new → AllStay old new
all_moved setup None w old new is = subst (AllStay old) (sym is.left) (all_same old)
all_moved setup (Some addr) w old new (inl m) =
    subst (AllStay old) (sym m.left) (all_set old m.place m.was m.is m.before m.leaves.stays)
all_moved setup (Some addr) w old new (inr m) = subst (AllStay old) (sym m.still.left) (all_same old)

all_then : (a b c : List Outside) → AllStay a b → AllStay b c → AllStay a c
all_then a b c one two = record {
  size = two.size ∙ one.size;
  each = λ i was is at bt.
      let mid = there_is b i (omega (arith, one.size, within a i was at)) in
      stays_then was mid.0 is (one.each i was mid.0 at mid.1) (two.each i mid.0 is mid.1 bt);
}

passage_stays : (setup : Setup) (log : List Entry) (old : List Outside) (events : List Event)
    (entries : List Entry) (new : List Outside) → Passage setup log old events entries new → AllStay old new
passage_stays setup log old [] [] new p = subst (AllStay old) (sym p) (all_same old)
passage_stays setup log old (v ∷ vs) (e ∷ es) new (w, mid, next, moved, rest) =
    all_then old mid new (all_moved setup (reached e.event.kind e.step) w old mid moved)
    (passage_stays setup (log ++ e ∷ []) mid vs es new rest)
passage_stays setup log old [] (e ∷ es) new p = absurd p
passage_stays setup log old (v ∷ vs) [] new p = absurd p

pub Runs-stay : (old : Farmed) (events : List Event) (new : Farmed) → Runs old events new
    → AllStay old.outside new.outside
Runs-stay old events new run =
    passage_stays old.setup old.entries old.outside events run.0 new.outside run.1

-- ---- lists

get_unmapped : {A B : Type 0} (f : A → B) (xs : List A) (i : ℕ) (y : B) → slice_get (map f xs) i ≡ Some y
    → (x : A) × (slice_get xs i ≡ Some x) × (f x ≡ y)
get_unmapped {A} {B} f [] i y e = absurd cc
get_unmapped {A} {B} f (x ∷ xs) zero y e = (x, refl, same_Some (f x) y e)
get_unmapped {A} {B} f (x ∷ xs) (suc i) y e = get_unmapped f xs i y e

-- the lists of stations are in step
pub are_in_step : (setup : Setup) (log : List Entry) (sts : List Station)
    → AreStations setup.servers log sts → AreInStep setup log (map outside_of sts)
are_in_step setup log sts are = λ i s o at bt runs sound.
    let (st, there, same) = get_unmapped outside_of sts i o bt in
    let is = are.each i s st at there in
    let opened = is.well.0 (ap (λ (n : ServerNow). n.running) is.now ∙ runs) in
    let step : IsInStep st.state.path st.state.folder st.state.archives =
    opened.step (ap (λ (x : Outside). x.failed) same ∙ sound) in
    subst (λ (h : Held). IsInStep (codes "tc") h (server_of s log).archives)
    (ap (λ (x : Outside). x.folder) same)
    (subst (λ (a : Archives). IsInStep (codes "tc") st.state.folder a)
    (ap (λ (n : ServerNow). n.archives) is.now)
    (subst (λ (p : List ℕ). IsInStep p st.state.folder st.state.archives) opened.path step))

-- the builders of stations have their lines left
pub are_hands : (setup : Setup) (log : List Entry) (sts : List Station) → AreStations setup.servers log sts
    → AreHands setup log (map outside_of sts) (map (λ st. st.hand) sts)
are_hands setup log sts are = record {
  size = length-map sts (λ (st : Station). st.hand) ∙ are.size;
  each = λ i s o hand at ot ht.
      let (st, there, same) = get_unmapped outside_of sts i o ot in
      let (other, stands, held) = get_unmapped (λ (x : Station). x.hand) sts i hand ht in
      let one : other ≡ st = same_Some other st (sym stands ∙ there) in
      let is = are.each i s st at there in
      let builds : st.builds ≡ (server_of s log).builds = ap (λ (n : ServerNow). n.builds) is.now in
      let own : st.hand ≡ hand = ap (λ (x : Station). x.hand) (sym one) ∙ held in
      subst (λ (n : ℕ). IsHandOf (drop n s.builder) o.builder hand) builds
      (subst (λ (x : Outside). IsHandOf (drop st.builds s.builder) x.builder hand) same
      (subst (λ (h : Hand). IsHandOf (drop st.builds s.builder) st.builder h) own is.well.1));
}
