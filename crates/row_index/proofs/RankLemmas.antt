-- What the trees say of the places is what holds of the rows.
use Rattle.std.proofs.Common.{◌≡◌, ℕ, zero, suc, ◌+◌, ◌*◌, ◌<◌, ◌≤◌, List, [], ◌∷◌, ◌++◌, Bool, true, false}
use Rattle.std.proofs.Common.{cond, not, map, filter, length, Option, Some, None, refl, ap, ◌∙◌, sym}
use Rattle.std.proofs.Common.{subst, arith, get_or, set, append_assoc, length-append, replicate, ◌^◌, ◌-◌}
use Rattle.std.proofs.Common.{take}
use Rattle.std.specs.Prelude.{◌==◌, find, MatchOption, IfSome, option_to_list}
use Rattle.std.specs.List.{AllByRecursion}
use Rattle.std.proofs.lemmas.List.{map-set, length-map, map-append, take_more}
use Rattle.row_index.specs.declared.keys.LoadKey.{LoadKey}
use Rattle.row_index.specs.declared.keys.MomentKey.{MomentKey}
use Rattle.row_index.specs.Keys.{load_before, moment_before}
use Rattle.row_index.specs.Winner.{HasNone, IsLeast, early_slots}
use Rattle.row_index.specs.Slots.{rows_in, top, AreRising, IsPlaceOf}
use Rattle.row_index.specs.Ranks.{AreRanked, touches, touched}
use Rattle.row_index.specs.Ranks.{key_in, HaveNoKey, IsFirstBy, is_early, early_numbers}
use Rattle.row_index.specs.Ranks.{number_in, number_at}

-- no place's key, no row's
pub none_of : {T K : Type 0} (key : T → Option K) (places : List (Option T))
    → HasNone (map (key_in key) places) → HaveNoKey key (rows_in places)
none_of key [] none = tt
none_of key (None ∷ places) none = none_of key places (λ i. none (suc i))
none_of key (Some row ∷ places) none = (none zero, none_of key places (λ i. none (suc i)))

-- what holds of each place's key holds of each row's
pub each_of : {T K : Type 0} (key : T → Option K) (P : K → Type 0) (places : List (Option T))
    → ((i : ℕ) (k : K) → get_or (map (key_in key) places) i None ≡ Some k → P k)
    → AllByRecursion (λ r. (k : K) → key r ≡ Some k → P k) (rows_in places)
each_of key P [] all = tt
each_of key P (None ∷ places) all = each_of key P places (λ i k e. all (suc i) k e)
each_of key P (Some row ∷ places) all =
    ((λ k e. all zero k e), each_of key P places (λ i k e. all (suc i) k e))

-- the key of a place is its row's
pub key_there : {T K : Type 0} (key : T → Option K) (places : List (Option T)) (i : ℕ) (o : Option T)
    → get_or places i None ≡ o → get_or (map (key_in key) places) i None ≡ key_in key o
key_there key [] i o e = ap (key_in key) e
key_there key (p ∷ places) zero o e = ap (key_in key) e
key_there key (p ∷ places) (suc i) o e = key_there key places i o e

-- the first place has the first row
pub first_of : {T K : Type 0} (number : T → ℕ) (key : T → Option K) (before : K → K → Bool)
    (places : List (Option T)) (place : ℕ) (row : T) → IsLeast before (map (key_in key) places) place
    → IsPlaceOf number places (number row) place → get_or places place None ≡ Some row →
    IsFirstBy number key before (rows_in places) row
first_of number key before places place row least at there = record {
  own = least.key;
  is = sym (key_there key places place (Some row) there) ∙ least.is;
  listed = at.found ∙ sym at.is ∙ there;
  none_before = each_of key (λ k. before k least.key ≡ false) places least.none_before;
}

-- a first place has a row
pub first_there : {T K : Type 0} (key : T → Option K) (before : K → K → Bool) (places : List (Option T))
    (place : ℕ) → IsLeast before (map (key_in key) places) place → get_or places place None ≡ None → ⊥
first_there key before places place least none = let no : None ≡ Some least.key =
    sym (key_there key places place None none) ∙ least.is in absurd cc

-- and is one of the places
pub first_within : {T K : Type 0} (key : T → Option K) (before : K → K → Bool) (places : List (Option T))
    (place : ℕ) → IsLeast before (map (key_in key) places) place → place < length places
first_within {T} key before places place least = go places place least.is
  where
    go : (ps : List (Option T)) (i : ℕ) → get_or (map (key_in key) ps) i None ≡ Some least.key
        → i < length ps
    go [] i e = let no : None ≡ Some least.key = e in absurd cc
    go (p ∷ ps) zero e = omega arith
    go (p ∷ ps) (suc i) e = let lt = go ps i e in omega (arith, lt)

pub first_is : {T K : Type 0} (number : T → ℕ) (key : T → Option K) (before : K → K → Bool)
    (places : List (Option T)) (place : ℕ) (o : Option T) → IsLeast before (map (key_in key) places) place
    → o ≡ get_or places place None →
    MatchOption o (Unit {0}) (λ row. IsPlaceOf number places (number row) place)
    → MatchOption o (HaveNoKey key (rows_in places)) (IsFirstBy number key before (rows_in places))
first_is number key before places place None least is at =
    absurd (first_there key before places place least (sym is))
first_is number key before places place (Some row) least is at =
    first_of number key before places place row least at (sym is)

-- the row behind a front
at_seam : {T : Type 0} (front : List (Option T)) (o : Option T) (places : List (Option T))
    → get_or (front ++ o ∷ places) (length front) None ≡ o
at_seam [] o places = refl
at_seam (p ∷ front) o places = at_seam front o places

-- a place more in front
moved : {T K : Type 0} (number : T → ℕ) (key : T → Option K) (before : K → K → Bool) (bound : K)
    (front : List (Option T)) (o : Option T) (places : List (Option T)) (numbers : List ℕ) →
    map (number_at number ((front ++ o ∷ []) ++ places))
    (early_slots before bound (length (front ++ o ∷ [])) (map (key_in key) places)) ≡ numbers →
    map (number_at number (front ++ o ∷ places))
    (early_slots before bound (length front + 1) (map (key_in key) places)) ≡ numbers
moved number key before bound front o places numbers is =
    subst (λ n. map (number_at number (front ++ o ∷ places))
    (early_slots before bound n (map (key_in key) places)) ≡ numbers) (length-append front (o ∷ []))
    (subst (λ l. map (number_at number l)
    (early_slots before bound (length (front ++ o ∷ [])) (map (key_in key) places)) ≡ numbers)
    (append_assoc front (o ∷ []) places) is)

early_from : {T K : Type 0} (number : T → ℕ) (key : T → Option K) (before : K → K → Bool) (bound : K)
    (front places : List (Option T)) →
    map (number_at number (front ++ places))
    (early_slots before bound (length front) (map (key_in key) places))
    ≡ early_numbers number key before bound (rows_in places)
early_from number key before bound front [] = refl
early_from number key before bound front (None ∷ places) =
    moved number key before bound front None places (early_numbers number key before bound (rows_in places))
    (early_from number key before bound (front ++ None ∷ []) places)
early_from {T} {K} number key before bound front (Some r ∷ places) =
    split (key r) (moved number key before bound front (Some r) places
    (early_numbers number key before bound (rows_in places))
    (early_from number key before bound (front ++ Some r ∷ []) places))
  where
    slots : List ℕ
    slots = early_slots before bound (length front + 1) (map (key_in key) places)

    early : List T
    early = filter (λ x. is_early before bound (key x)) (rows_in places)

    tested : (b : Bool) → map (number_at number (front ++ Some r ∷ places)) slots ≡ map number early →
        map (number_at number (front ++ Some r ∷ places)) (cond b (length front ∷ slots) slots)
        ≡ map number (cond b (r ∷ early) early)
    tested true rest = ap (λ o. number_in number o ∷ map
        (number_at number (front ++ Some r ∷ places)) slots) (at_seam front (Some r) places)
        ∙ ap (λ l. number r ∷ l) rest
    tested false rest = rest

    split : (k : Option K) → map (number_at number (front ++ Some r ∷ places)) slots ≡ map number early →
        map (number_at number (front ++ Some r ∷ places))
        (early_slots before bound (length front) (k ∷ map (key_in key) places))
        ≡ map number (cond (is_early before bound k) (r ∷ early) early)
    split None rest = rest
    split (Some k) rest = tested (before k bound) rest

-- the early places' rows have the early numbers
pub early_are : {T K : Type 0} (number : T → ℕ) (key : T → Option K) (before : K → K → Bool) (bound : K)
    (places : List (Option T)) → map (number_at number places)
    (early_slots before bound 0 (map (key_in key) places))
    ≡ early_numbers number key before bound (rows_in places)
early_are number key before bound places = early_from number key before bound [] places

-- the early places are places
early_below : {K : Type 0} (before : K → K → Bool) (bound : K) (at n : ℕ) (keys : List (Option K))
    → at + length keys ≤ n → AllByRecursion (λ p. p < n) (early_slots before bound at keys)
early_below before bound at n [] le = tt
early_below before bound at n (None ∷ keys) le = early_below before bound (at + 1) n keys (omega (arith, le))
early_below before bound at n (Some k ∷ keys) le =
    split (before k bound) (early_below before bound (at + 1) n keys (omega (arith, le)))
  where
    split : (b : Bool) → AllByRecursion (λ p. p < n) (early_slots before bound (at + 1) keys)
        → AllByRecursion (λ p. p < n) (cond b (at ∷ early_slots before bound (at + 1) keys)
        (early_slots before bound (at + 1) keys))
    split true rest = (omega (arith, le), rest)
    split false rest = rest

pub early_within : {T K : Type 0} (key : T → Option K) (before : K → K → Bool) (bound : K)
    (places : List (Option T)) → AllByRecursion (λ p. p < length places)
    (early_slots before bound 0 (map (key_in key) places))
early_within key before bound places =
    early_below before bound 0 (length places) (map (key_in key) places)
    (let same = length-map places (key_in key) in omega (arith, same))

-- where no row has the number, none is taken out
pub none_taken : {T : Type 0} (number : T → ℕ) (n : ℕ) (rows : List T)
    → find (λ r. number r == n) rows ≡ None → filter (λ r. not (number r == n)) rows ≡ rows
none_taken number n [] none = refl
none_taken {T} number n (row ∷ rows) none = split (number row == n) none (none_taken number n rows)
  where
    split : (b : Bool) → cond b (Some row) (find (λ r. number r == n) rows) ≡ None
        → (find (λ r. number r == n) rows ≡ None → filter (λ r. not (number r == n)) rows ≡ rows)
        → cond (not b) (row ∷ filter (λ r. not (number r == n)) rows)
        (filter (λ r. not (number r == n)) rows) ≡ row ∷ rows
    split true gone rest = absurd cc
    split false gone rest = ap (λ l. row ∷ l) (rest gone)

-- the row in the place of a number is the only one of it
pub only_row : {T : Type 0} (number : T → ℕ) (wanted place : ℕ) (places : List (Option T)) (o : Option T)
    → IsPlaceOf number places wanted place → o ≡ get_or places place None
    → MatchOption o (Unit {0}) (λ row. AllByRecursion (λ r. (number r == wanted) ≡ true → r ≡ row)
    (rows_in places))
only_row number wanted place places o at is =
    subst (λ q. MatchOption q (Unit {0}) (λ row. AllByRecursion (λ r. (number r == wanted) ≡ true → r ≡ row)
    (rows_in places))) (sym (is ∙ at.is)) at.only

-- as many early places as early numbers
pub early_length : {T K : Type 0} (number : T → ℕ) (key : T → Option K) (before : K → K → Bool) (bound : K)
    (places : List (Option T)) → length (early_slots before bound 0 (map (key_in key) places))
    ≡ length (early_numbers number key before bound (rows_in places))
early_length number key before bound places =
    sym (length-map (early_slots before bound 0 (map (key_in key) places)) (number_at number places))
    ∙ ap length (early_are number key before bound places)

-- what a search by the keys costs, by the rows that it finds
pub early_looks : {T K : Type 0} (number : T → ℕ) (key : T → Option K) (before : K → K → Bool) (bound : K)
    (places : List (Option T)) (keys : List (Option K)) (old new : ℕ) → keys ≡ map (key_in key) places
    → ((h : ℕ) → length keys ≤ 2 ^ h → new ≤ old + (2 * h * length (early_slots before bound 0 keys) + 1))
    → (h : ℕ) → length places ≤ 2 ^ h
    → new ≤ old + (2 * h * length (early_numbers number key before bound (rows_in places)) + 1)
early_looks number key before bound places keys old new is looks h le =
    subst (λ n. new ≤ old + (2 * h * n + 1)) (early_length number key before bound places)
    (subst (λ k. new ≤ old + (2 * h * length (early_slots before bound 0 k) + 1)) is
    (looks h (subst (λ n. n ≤ 2 ^ h) (sym (ap length is ∙ length-map places (key_in key))) le)))

-- the numbers of the places that a search by the keys finds
pub early_found : {T K : Type 0} (number : T → ℕ) (key : T → Option K) (before : K → K → Bool) (bound : K)
    (places : List (Option T)) (keys : List (Option K)) (found : List ℕ) → keys ≡ map (key_in key) places
    → found ≡ early_slots before bound 0 keys
    → map (number_at number places) found ≡ early_numbers number key before bound (rows_in places)
early_found number key before bound places keys found is by =
    ap (map (number_at number places)) (by ∙ ap (early_slots before bound 0) is)
    ∙ early_are number key before bound places

-- no keys
pub no_keys : {T K : Type 0} (key : T → Option K) (n : ℕ)
    → replicate n None ≡ map (key_in key) (replicate n None)
no_keys key zero = refl
no_keys key (suc n) = ap (λ l. None ∷ l) (no_keys key n)

pub no_keys_grown : {T K : Type 0} (key : T → Option K) (n : ℕ) (places : List (Option T))
    (keys : List (Option K))
    → keys ≡ [] ++ replicate (n - 0) None → places ≡ replicate n None → keys ≡ map (key_in key) places
no_keys_grown {T} {K} key n places keys is by = is ∙ ap (λ m. replicate m None) whole ∙ no_keys key n
    ∙ ap (map (key_in key)) (sym by)
  where
    whole : n - 0 ≡ n
    whole = omega arith

-- three keys one after the other
pub three_looks : (a b c n first second third fourth : ℕ) → second ≤ first + a * n → third ≤ second + b * n
    → fourth ≤ third + c * n → fourth ≤ first + (a + b + c) * n
three_looks a b c n first second third fourth one two three = omega (arith, one, two, three)

-- the trees after a change of one place
pub ranked_set : {T : Type 0} (load_of : T → Option LoadKey) (error_of sign_of : T → Option MomentKey)
    (places new : List (Option T)) (place : ℕ) (o : Option T) (loads new_loads : List (Option LoadKey))
    (errors new_errors signs new_signs : List (Option MomentKey))
    → AreRanked load_of error_of sign_of places loads errors signs → new ≡ set places place o
    → new_loads ≡ set loads place (key_in load_of o) → new_errors ≡ set errors place (key_in error_of o)
    → new_signs ≡ set signs place (key_in sign_of o)
    → AreRanked load_of error_of sign_of new new_loads new_errors new_signs
ranked_set {T} load_of error_of sign_of places new place o loads new_loads errors new_errors signs new_signs
    are is
    by_load by_error by_sign = record {
      by_load = one load_of loads new_loads are.by_load by_load;
      by_error = one error_of errors new_errors are.by_error by_error;
      by_sign = one sign_of signs new_signs are.by_sign by_sign;
    }
  where
    one : {K : Type 0} (key : T → Option K) (old keys : List (Option K)) → old ≡ map (key_in key) places
        → keys ≡ set old place (key_in key o) → keys ≡ map (key_in key) new
    one key old keys was does = does ∙ ap (λ k. set k place (key_in key o)) was
        ∙ sym (map-set (key_in key) places place o) ∙ ap (map (key_in key)) (sym is)

-- the looks of a change of one place, as the number of trees that it touches
pub put_looks : {T : Type 0} (load_of : T → Option LoadKey) (error_of sign_of : T → Option MomentKey)
    (places : List (Option T)) (loads : List (Option LoadKey)) (errors signs : List (Option MomentKey))
    (old new : Option T)
    (first second third fourth : ℕ) → AreRanked load_of error_of sign_of places loads errors signs
    → ((h : ℕ) → length loads ≤ 2 ^ h
    → second ≤ first + touches load_before (key_in load_of old) (key_in load_of new) * (2 * h + 1))
    → ((h : ℕ) → length errors ≤ 2 ^ h
    → third ≤ second + touches moment_before (key_in error_of old) (key_in error_of new) * (2 * h + 1))
    → ((h : ℕ) → length signs ≤ 2 ^ h
    → fourth ≤ third + touches moment_before (key_in sign_of old) (key_in sign_of new) * (2 * h + 1))
    → (h : ℕ) → length places ≤ 2 ^ h
    → fourth ≤ first + touched load_of error_of sign_of old new * (2 * h + 1)
put_looks {T} load_of error_of sign_of places loads errors signs old new first second third fourth are one
    two three h le =
    three_looks (touches load_before (key_in load_of old) (key_in load_of new))
    (touches moment_before (key_in error_of old) (key_in error_of new))
    (touches moment_before (key_in sign_of old) (key_in sign_of new)) (2 * h + 1) first second third fourth
    (one h (as_many load_of loads are.by_load)) (two h (as_many error_of errors are.by_error))
    (three h (as_many sign_of signs are.by_sign))
  where
    as_many : {K : Type 0} (key : T → Option K) (keys : List (Option K)) → keys ≡ map (key_in key) places
        → length keys ≤ 2 ^ h
    as_many key keys is = subst (λ n. n ≤ 2 ^ h) (sym (ap length is ∙ length-map places (key_in key))) le

-- rows one after the other

rows_more : {T : Type 0} (front : List (Option T)) (o : Option T)
    → rows_in (front ++ o ∷ []) ≡ rows_in front ++ option_to_list o
rows_more [] None = refl
rows_more [] (Some row) = refl
rows_more (None ∷ front) o = rows_more front o
rows_more (Some row ∷ front) o = ap (λ l. row ∷ l) (rows_more front o)

pub rows_take : {T : Type 0} (places : List (Option T)) (i : ℕ) → i < length places
    → rows_in (take (i + 1) places) ≡ rows_in (take i places) ++ option_to_list (get_or places i None)
rows_take places i lt = ap rows_in (take_more places i None lt)
    ∙ rows_more (take i places) (get_or places i None)

pub rows_few : {T : Type 0} (places : List (Option T)) (i : ℕ)
    → length (rows_in (take i places)) ≤ length (rows_in places)
rows_few [] zero = omega arith
rows_few [] (suc i) = omega arith
rows_few (o ∷ places) zero = omega arith
rows_few (None ∷ places) (suc i) = rows_few places i
rows_few (Some row ∷ places) (suc i) = let few = rows_few places i in omega (arith, few)

above_all : {T : Type 0} (number : T → ℕ) (n : ℕ) (places : List (Option T)) (i : ℕ) (row : T)
    → AllByRecursion (λ m. n < m) (map number (rows_in places)) → get_or places i None ≡ Some row
    → n < number row
above_all number n [] i row all is = let none : None ≡ Some row = is in absurd cc
above_all number n (None ∷ places) zero row all is = let none : None ≡ Some row = is in absurd cc
above_all number n (Some r ∷ places) zero row all is =
    let one : Some r ≡ Some row = is in
    let same : r ≡ row = cc in subst (λ q. n < number q) same all.0
above_all number n (None ∷ places) (suc i) row all is = above_all number n places i row all is
above_all number n (Some r ∷ places) (suc i) row all is = above_all number n places i row all.1 is

-- the numbers in front of a row are below its own
pub top_front : {T : Type 0} (number : T → ℕ) (places : List (Option T)) (i : ℕ) (row : T)
    → AreRising (map number (rows_in places)) → get_or places i None ≡ Some row
    → top (map number (rows_in (take i places))) ≤ number row
top_front number [] zero row rising is = omega arith
top_front number [] (suc i) row rising is = omega arith
top_front number (o ∷ places) zero row rising is = omega arith
top_front number (None ∷ places) (suc i) row rising is = top_front number places i row rising is
top_front number (Some r ∷ places) (suc i) row rising is =
    let lt : number r < number row = above_all number (number r) places i row rising.0 is in
    let rest : top (map number (rows_in (take i places))) ≤ number row =
    top_front number places i row rising.1 is in
    top_cons (number r) (map number (rows_in (take i places))) (number row) lt rest
  where
    top_cons : (n : ℕ) (ns : List ℕ) (m : ℕ) → n < m → top ns ≤ m → top (n ∷ ns) ≤ m
    top_cons n [] m lt le = omega (arith, lt)
    top_cons n (k ∷ ns) m lt le = le

pub top_all : {T : Type 0} (number : T → ℕ) (t : ℕ) (rows : List T) → AllByRecursion (λ r. number r < t) rows
    → top (map number rows) ≤ t
top_all number t [] all = omega arith
top_all number t (row ∷ []) all = let lt : number row < t = all.0 in omega (arith, lt)
top_all number t (row ∷ other ∷ rows) all = top_all number t (other ∷ rows) all.1

-- what stands at a place, whatever stands for what does not
pub in_range : {X : Type 0} (xs : List X) (i : ℕ) (a b : X) → i < length xs → get_or xs i a ≡ get_or xs i b
in_range [] i a b lt = absurd (omega (arith, lt))
in_range (x ∷ xs) zero a b lt = refl
in_range (x ∷ xs) (suc i) a b lt = in_range xs i a b (omega (arith, lt))

-- what has a number is above the front
pub above_front : {T : Type 0} (number : T → ℕ) (places : List (Option T)) (i : ℕ) (o : Option T)
    → AreRising (map number (rows_in places)) → o ≡ get_or places i None
    → IfSome o (λ r. top (map number (rows_in (take i places))) ≤ number r)
above_front number places i None rising is = tt
above_front number places i (Some row) rising is = top_front number places i row rising (sym is)

-- one row more of those
pub more_rows : {T : Type 0} (number : T → ℕ) (places : List (Option T)) (i : ℕ) (o : Option T)
    (rows new : List T) (numbers new_numbers : List ℕ) → i < length places → o ≡ get_or places i None
    → (rows ≡ rows_in (take i places)) × (numbers ≡ map number (rows_in (take i places)))
    → new ≡ rows ++ option_to_list o → new_numbers ≡ numbers ++ map number (option_to_list o)
    → (new ≡ rows_in (take (i + 1) places)) × (new_numbers ≡ map number (rows_in (take (i + 1) places)))
more_rows number places i o rows new numbers new_numbers lt is so_far by_row by_number =
    let more = rows_take places i lt in (
      by_row ∙ ap (λ l. l ++ option_to_list o) so_far.0
          ∙ ap (λ q. rows_in (take i places) ++ option_to_list q) is ∙ sym more,
      by_number ∙ ap (λ l. l ++ map number (option_to_list o)) so_far.1
          ∙ sym (map-append number (rows_in (take i places)) (option_to_list o))
          ∙ ap (map number) (ap (λ q. rows_in (take i places) ++ option_to_list q) is ∙ sym more),
    )

pub no_rows : (T : Type 0) (n : ℕ) → rows_in (replicate {A = Option T} n None) ≡ []
no_rows T zero = refl
no_rows T (suc n) = no_rows T n
