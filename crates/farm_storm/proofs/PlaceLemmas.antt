-- What is done in the storm is told by the place.
use Rattle.std.proofs.Common.{◌≡◌, ℕ, zero, suc, ◌+◌, ◌-◌, ◌*◌, ◌/◌, ◌%◌, ◌<◌, nat_lt, false}
use Rattle.std.proofs.Common.{[], ◌∷◌, ◌++◌, map, take, flat_map, refl, sym, ap, ◌∙◌, arith}
use Rattle.std.specs.List.{range_with_len, enumerate_from}
use Rattle.std.proofs.lemmas.Bool.Decides.{nat_tests}
use Rattle.std.proofs.lemmas.List.FromFn.{take-map-range_with_len, map-range_with_len_more}
use Rattle.farm_script.specs.declared.event.Event.{Event}
use Rattle.farm_storm.specs.declared.deed.Deed.{Deed}
use Rattle.farm_storm.specs.Deeds.{beats, round_deeds, storm_deeds}
use Rattle.farm_storm.specs.Places.{deed_in_round, deed_at}
use Rattle.farm_storm.specs.Storm.{event_of, storm_events}

-- ---- a function over numbers in a row

-- in two parts
map_parts : {X : Type 0} (f : ℕ → X) (a n m : ℕ) → map f (range_with_len a (n + m)) ≡ map f
    (range_with_len a n) ++ map f (range_with_len (a + n) m)
map_parts f a zero m =
    let from : a ≡ a + 0 = omega arith in
    let long : 0 + m ≡ m = omega arith in
    (λ i. map f (range_with_len (from i) (long i)))
map_parts f a (suc n) m =
    let long : suc n + m ≡ suc (n + m) = omega arith in
    let from : a + 1 + n ≡ a + suc n = omega arith in
    ap (λ k. map f (range_with_len a k)) long
    ∙ ap (λ xs. f a ∷ xs) (map_parts f (a + 1) n m
    ∙ ap (λ k. map f (range_with_len (a + 1) n) ++ map f (range_with_len k m)) from)

-- and over others, where another function gives the same
map_moved : {X : Type 0} (f g : ℕ → X) (a b n : ℕ) → ((i : ℕ) → i < n → f (a + i) ≡ g (b + i))
    → map f (range_with_len a n) ≡ map g (range_with_len b n)
map_moved f g a b zero same = refl
map_moved f g a b (suc n) same =
    let first_a : a ≡ a + 0 = omega arith in
    let first_b : b + 0 ≡ b = omega arith in
    let first : f a ≡ g b = ap f first_a ∙ same 0 (omega arith) ∙ ap g first_b in
    let rest = map_moved f g (a + 1) (b + 1) n (λ i low. step i (same (i + 1) (omega (arith, low)))) in
    (λ k. first k ∷ rest k)
  where
    step : (i : ℕ) → f (a + (i + 1)) ≡ g (b + (i + 1)) → f (a + 1 + i) ≡ g (b + 1 + i)
    step i e =
        let from : a + 1 + i ≡ a + (i + 1) = omega arith in
        let to : b + (i + 1) ≡ b + 1 + i = omega arith in
        ap f from ∙ e ∙ ap g to

-- ---- the parts of the storm

beats_are : beats ≡ map deed_at (range_with_len 0 24)
unfolding deed_at
beats_are = refl

round_is : (round : ℕ) → round_deeds round ≡ map (deed_in_round round) (range_with_len 0 201)
unfolding round_deeds deed_in_round
round_is round = refl

-- at a place behind the first heartbeats
abbrev at_round : ℕ → Deed
at_round place = deed_in_round (place / 201) (place % 201)

round_at : (round i : ℕ) → i < 201 → at_round (201 * round + i) ≡ deed_in_round round (0 + i)
round_at round i low =
    let which : (201 * round + i) / 201 ≡ round = omega (arith, low) in
    let there : (201 * round + i) % 201 ≡ 0 + i = omega (arith, low) in
    (λ k. deed_in_round (which k) (there k))

rounds_are : (a m : ℕ) → flat_map round_deeds (range_with_len a m) ≡ map at_round
    (range_with_len (201 * a) (201 * m))
rounds_are a zero = refl
rounds_are a (suc m) =
    let first = round_is a ∙ sym (map_moved at_round (deed_in_round a) (201 * a) 0 201 (round_at a)) in
    let next : 201 * (a + 1) ≡ 201 * a + 201 = omega arith in
    let long : 201 + 201 * m ≡ 201 * suc m = omega arith in
    let rest = rounds_are (a + 1) m ∙ ap (λ k. map at_round (range_with_len k (201 * m))) next in
    (λ k. first k ++ rest k) ∙ sym (map_parts at_round (201 * a) 201 (201 * m))
    ∙ ap (λ k. map at_round (range_with_len (201 * a) k)) long

later_at : (i : ℕ) → at_round i ≡ deed_at (24 + i)
unfolding deed_at
later_at i =
    let late : nat_lt (24 + i) 24 ≡ false = grind (arith, nat_tests) in
    let behind : 24 + i - 24 ≡ i = omega arith in
    rw (late, behind) refl

pub deeds_are : (n : ℕ) → storm_deeds n ≡ map deed_at (range_with_len 0 n)
unfolding storm_deeds
deeds_are n = ap (take n) whole ∙ take-map-range_with_len deed_at 0 (24 + 201 * n) n (omega arith)
  where
    same : (i : ℕ) → i < 201 * n → at_round (201 * 0 + i) ≡ deed_at (24 + i)
    same i low = let from : 201 * 0 + i ≡ i = omega arith in ap at_round from ∙ later_at i

    whole : beats ++ flat_map round_deeds (range_with_len 0 n) ≡ map deed_at (range_with_len 0 (24 + 201 * n))
    whole =
        let rounds = rounds_are 0 n ∙ map_moved at_round deed_at (201 * 0) 24 (201 * n) same in
        (λ k. beats_are k ++ rounds k) ∙ sym (map_parts deed_at 0 24 (201 * n))

-- ---- the events

numbered : (event : ℕ → Deed → Event) (deed : ℕ → Deed) (a n : ℕ)
    → map (λ p. event p.0 p.1) (enumerate_from a (map deed (range_with_len a n))) ≡ map
    (λ i. event i (deed i)) (range_with_len a n)
numbered event deed a zero = refl
numbered event deed a (suc n) = ap (λ es. event a (deed a) ∷ es) (numbered event deed (a + 1) n)

events_are : (n : ℕ) → storm_events n ≡ map (λ i. event_of i (deed_at i)) (range_with_len 0 n)
unfolding storm_events
events_are n = ap (λ ds. map (λ p. event_of p.0 p.1) (enumerate_from 0 ds)) (deeds_are n)
    ∙ numbered event_of deed_at 0 n

-- one event more
pub events_more : (n : ℕ) → storm_events (n + 1) ≡ storm_events n ++ event_of n (deed_at n) ∷ []
events_more n =
    events_are (n + 1) ∙ map-range_with_len_more (λ i. event_of i (deed_at i)) 0 n n (omega arith)
    ∙ ap (λ es. es ++ event_of n (deed_at n) ∷ []) (sym (events_are n))
