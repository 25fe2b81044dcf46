-- One place of the rows changes.
use Rattle.std.proofs.lemmas.Bool.{cases_lt, false≢true}
use Rattle.std.proofs.Common.{◌≡◌, ◌⊎◌, inl, inr, ℕ, zero, suc, ◌+◌, ◌<◌, ◌≤◌, List, [], ◌∷◌, ◌++◌, Bool}
use Rattle.std.proofs.Common.{true, false, not, map, filter, length, Option, Some, None, refl, ap, ◌∙◌, sym}
use Rattle.std.proofs.Common.{subst, arith, eq-eqb, eqb-true, get_or, set, replicate}
use Rattle.std.specs.Prelude.{◌==◌, find, if◌then◌else◌}
use Rattle.std.specs.List.{AllByRecursion}
use Rattle.std.specs.Prelude.{MatchOption, IsSome}
use Rattle.row_index.specs.Slots.{rows_in, AreRising, top, AreNumbered, IsNowhere, IsAt, IsPlaceOf}

-- a test on numbers that differ
apart : (m n : ℕ) → (m ≡ n → ⊥) → (m == n) ≡ false
apart m n differ = split (m == n) refl
  where
    split : (b : Bool) → (m == n) ≡ b → b ≡ false
    split true e = absurd (differ (eqb-true m n e))
    split false e = refl

same : (m n : ℕ) → m ≡ n → (m == n) ≡ true
same m n e = eq-eqb m n e

-- free places have no row
pub none_there : {T : Type 0} (places : List (Option T)) → AllByRecursion (λ o. o ≡ None) places
    → rows_in places ≡ []
none_there [] all = refl
none_there (None ∷ places) all = none_there places all.1
none_there (Some row ∷ places) all = let no : Some row ≡ None = all.0 in absurd cc

-- what stands in the places has the places' numbers
pub above : {T : Type 0} (number : T → ℕ) (n : ℕ) (ns : List ℕ) (places : List (Option T))
    → AreNumbered number ns places → AllByRecursion (λ k. n < k) ns
    → AllByRecursion (λ r. n < number r) (rows_in places)
above number n [] places are all =
    subst (AllByRecursion (λ r. n < number r)) (sym (none_there places are)) tt
above number n (m ∷ ns) [] are all = absurd are
above number n (m ∷ ns) (None ∷ places) are all = above number n ns places are all.1
above number n (m ∷ ns) (Some row ∷ places) are all =
    (subst (λ k. n < k) (sym are.0) all.0, above number n ns places are.1 all.1)

not_above : {T : Type 0} (number : T → ℕ) (n : ℕ) (rows : List T) → AllByRecursion (λ r. n < number r) rows
    → find (λ r. number r == n) rows ≡ None
not_above number n [] all = refl
not_above number n (row ∷ rows) all = let lt : n < number row = all.0 in
    rw (apart (number row) n (λ e. omega (arith, e, lt))) (not_above number n rows all.1)

at_above : (n : ℕ) (ns : List ℕ) (i : ℕ) → AllByRecursion (λ k. n < k) ns → i < length ns → n < get_or ns i 0
at_above n [] i all lt = absurd (omega (arith, lt))
at_above n (m ∷ ns) zero all lt = all.0
at_above n (m ∷ ns) (suc i) all lt = at_above n ns i all.1 (omega (arith, lt))

-- the row of a number is that of the number's place
pub found_at : {T : Type 0} (number : T → ℕ) (n : ℕ) (ns : List ℕ) (places : List (Option T)) (i : ℕ)
    → AreRising ns → AreNumbered number ns places → i < length ns → get_or ns i 0 ≡ n
    → find (λ r. number r == n) (rows_in places) ≡ get_or places i None
found_at number n [] places i rising are lt is = absurd (omega (arith, lt))
found_at number n (m ∷ ns) [] i rising are lt is = absurd are
found_at number n (m ∷ ns) (None ∷ places) zero rising are lt is =
    not_above number n (rows_in places)
    (above number n ns places are (subst (λ k. AllByRecursion (λ j. k < j) ns) is rising.0))
found_at number n (m ∷ ns) (Some row ∷ places) zero rising are lt is =
    rw (same (number row) n (are.0 ∙ is)) refl
found_at number n (m ∷ ns) (None ∷ places) (suc i) rising are lt is =
    found_at number n ns places i rising.1 are (omega (arith, lt)) is
found_at number n (m ∷ ns) (Some row ∷ places) (suc i) rising are lt is =
    let less : m < get_or ns i 0 = at_above m ns i rising.0 (omega (arith, lt)) in
    let own : number row ≡ m = are.0 in
    rw (apart (number row) n (λ e. omega (arith, e, own, less, is)))
    (found_at number n ns places i rising.1 are.1 (omega (arith, lt)) is)

-- a number that no place has is no row's
pub not_found : {T : Type 0} (number : T → ℕ) (n : ℕ) (ns : List ℕ) (places : List (Option T))
    → AreNumbered number ns places → IsNowhere ns n → find (λ r. number r == n) (rows_in places) ≡ None
not_found number n [] places are nowhere = rw (none_there places are) refl
not_found number n (m ∷ ns) [] are nowhere = absurd are
not_found number n (m ∷ ns) (None ∷ places) are nowhere =
    not_found number n ns places are (λ i lt. nowhere (suc i) (omega (arith, lt)))
not_found number n (m ∷ ns) (Some row ∷ places) are nowhere =
    rw (apart (number row) n (λ e. nowhere zero (omega arith) (sym are.0 ∙ e)))
    (not_found number n ns places are.1 (λ i lt. nowhere (suc i) (omega (arith, lt))))

others : {T : Type 0} (number : T → ℕ) (n : ℕ) (new : T) (rows : List T)
    → AllByRecursion (λ r. n < number r) rows → map (λ r. if number r == n then new else r) rows ≡ rows
others number n new [] all = refl
others number n new (row ∷ rows) all = let lt : n < number row = all.0 in
    rw (apart (number row) n (λ e. omega (arith, e, lt)))
    (ap (λ l. row ∷ l) (others number n new rows all.1))

-- another row in a place
pub rows-put : {T : Type 0} (number : T → ℕ) (n : ℕ) (new : T) (ns : List ℕ) (places : List (Option T))
    (i : ℕ) (old : T) → AreRising ns → AreNumbered number ns places → i < length ns → get_or ns i 0 ≡ n
    → get_or places i None ≡ Some old →
    rows_in (set places i (Some new)) ≡ map (λ r. if number r == n then new else r) (rows_in places)
rows-put number n new [] places i old rising are lt is there = absurd (omega (arith, lt))
rows-put number n new (m ∷ ns) [] i old rising are lt is there = absurd are
rows-put number n new (m ∷ ns) (None ∷ places) zero old rising are lt is there = let no : None ≡ Some old =
    there in absurd cc
rows-put number n new (m ∷ ns) (Some row ∷ places) zero old rising are lt is there =
    rw (same (number row) n (are.0 ∙ is))
    (ap (λ l. new ∷ l) (sym (others number n new (rows_in places)
    (above number n ns places are.1 (subst (λ k. AllByRecursion (λ j. k < j) ns) is rising.0)))))
rows-put number n new (m ∷ ns) (None ∷ places) (suc i) old rising are lt is there =
    rows-put number n new ns places i old rising.1 are (omega (arith, lt)) is there
rows-put number n new (m ∷ ns) (Some row ∷ places) (suc i) old rising are lt is there =
    let less : m < get_or ns i 0 = at_above m ns i rising.0 (omega (arith, lt)) in
    let own : number row ≡ m = are.0 in
    rw (apart (number row) n (λ e. omega (arith, e, own, less, is)))
    (ap (λ l. row ∷ l) (rows-put number n new ns places i old rising.1 are.1
    (omega (arith, lt)) is there))

pub numbered-put : {T : Type 0} (number : T → ℕ) (new : T) (ns : List ℕ) (places : List (Option T)) (i : ℕ)
    → AreNumbered number ns places → i < length ns → get_or ns i 0 ≡ number new
    → AreNumbered number ns (set places i (Some new))
numbered-put number new [] places i are lt is = absurd (omega (arith, lt))
numbered-put number new (m ∷ ns) [] i are lt is = absurd are
numbered-put number new (m ∷ ns) (None ∷ places) zero are lt is = (sym is, are)
numbered-put number new (m ∷ ns) (Some row ∷ places) zero are lt is = (sym is, are.1)
numbered-put number new (m ∷ ns) (None ∷ places) (suc i) are lt is =
    numbered-put number new ns places i are (omega (arith, lt)) is
numbered-put number new (m ∷ ns) (Some row ∷ places) (suc i) are lt is =
    (are.0, numbered-put number new ns places i are.1 (omega (arith, lt)) is)

kept : {T : Type 0} (number : T → ℕ) (n : ℕ) (rows : List T) → AllByRecursion (λ r. n < number r) rows
    → filter (λ r. not (number r == n)) rows ≡ rows
kept number n [] all = refl
kept number n (row ∷ rows) all = let lt : n < number row = all.0 in
    rw (apart (number row) n (λ e. omega (arith, e, lt))) (ap (λ l. row ∷ l) (kept number n rows all.1))

-- no row in a place
pub rows-take_out : {T : Type 0} (number : T → ℕ) (n : ℕ) (ns : List ℕ) (places : List (Option T)) (i : ℕ)
    → AreRising ns → AreNumbered number ns places → i < length ns → get_or ns i 0 ≡ n →
    rows_in (set places i None) ≡ filter (λ r. not (number r == n)) (rows_in places)
rows-take_out number n [] places i rising are lt is = absurd (omega (arith, lt))
rows-take_out number n (m ∷ ns) [] i rising are lt is = absurd are
rows-take_out number n (m ∷ ns) (None ∷ places) zero rising are lt is =
    sym (kept number n (rows_in places)
    (above number n ns places are (subst (λ k. AllByRecursion (λ j. k < j) ns) is rising.0)))
rows-take_out number n (m ∷ ns) (Some row ∷ places) zero rising are lt is =
    rw (same (number row) n (are.0 ∙ is))
    (sym (kept number n (rows_in places)
    (above number n ns places are.1 (subst (λ k. AllByRecursion (λ j. k < j) ns) is rising.0))))
rows-take_out number n (m ∷ ns) (None ∷ places) (suc i) rising are lt is =
    rows-take_out number n ns places i rising.1 are (omega (arith, lt)) is
rows-take_out number n (m ∷ ns) (Some row ∷ places) (suc i) rising are lt is =
    let less : m < get_or ns i 0 = at_above m ns i rising.0 (omega (arith, lt)) in
    let own : number row ≡ m = are.0 in
    rw (apart (number row) n (λ e. omega (arith, e, own, less, is)))
    (ap (λ l. row ∷ l) (rows-take_out number n ns places i rising.1 are.1 (omega (arith, lt)) is))

pub numbered-take_out : {T : Type 0} (number : T → ℕ) (ns : List ℕ) (places : List (Option T)) (i : ℕ)
    → AreNumbered number ns places → i < length ns → AreNumbered number ns (set places i None)
numbered-take_out number [] places i are lt = absurd (omega (arith, lt))
numbered-take_out number (m ∷ ns) [] i are lt = absurd are
numbered-take_out number (m ∷ ns) (None ∷ places) zero are lt = are
numbered-take_out number (m ∷ ns) (Some row ∷ places) zero are lt = are.1
numbered-take_out number (m ∷ ns) (None ∷ places) (suc i) are lt =
    numbered-take_out number ns places i are (omega (arith, lt))
numbered-take_out number (m ∷ ns) (Some row ∷ places) (suc i) are lt =
    (are.0, numbered-take_out number ns places i are.1 (omega (arith, lt)))

-- one row more, behind all others
pub rows-push : {T : Type 0} (number : T → ℕ) (new : T) (ns : List ℕ) (places : List (Option T))
    → AreNumbered number ns places → length ns < length places
    → rows_in (set places (length ns) (Some new)) ≡ rows_in places ++ new ∷ []
rows-push number new [] [] are lt = absurd (omega (arith, lt))
rows-push number new [] (None ∷ places) are lt = rw (none_there places are.1) refl
rows-push number new [] (Some row ∷ places) are lt = let no : Some row ≡ None = are.0 in absurd cc
rows-push number new (m ∷ ns) [] are lt = absurd are
rows-push number new (m ∷ ns) (None ∷ places) are lt = rows-push number new ns places are (omega (arith, lt))
rows-push number new (m ∷ ns) (Some row ∷ places) are lt =
    ap (λ l. row ∷ l) (rows-push number new ns places are.1 (omega (arith, lt)))

pub numbered-push : {T : Type 0} (number : T → ℕ) (new : T) (ns : List ℕ) (places : List (Option T))
    → AreNumbered number ns places → length ns < length places
    → AreNumbered number (ns ++ number new ∷ []) (set places (length ns) (Some new))
numbered-push number new [] [] are lt = absurd (omega (arith, lt))
numbered-push number new [] (o ∷ places) are lt = (refl, are.1)
numbered-push number new (m ∷ ns) [] are lt = absurd are
numbered-push number new (m ∷ ns) (None ∷ places) are lt =
    numbered-push number new ns places are (omega (arith, lt))
numbered-push number new (m ∷ ns) (Some row ∷ places) are lt =
    (are.0, numbered-push number new ns places are.1 (omega (arith, lt)))

-- the numbers behind the first are above it, so the top is too
below_top : (n : ℕ) (ns : List ℕ) → AreRising (n ∷ ns) → n < top (n ∷ ns)
below_top n [] rising = omega arith
below_top n (m ∷ ns) rising = let lt : n < m = rising.0.0 in let rest : m < top (m ∷ ns) =
    below_top m ns rising.1 in omega (arith, lt, rest)

all-push : (n m : ℕ) (ns : List ℕ) → AllByRecursion (λ k. n < k) ns → n < m
    → AllByRecursion (λ k. n < k) (ns ++ m ∷ [])
all-push n m [] all lt = (lt, tt)
all-push n m (k ∷ ns) all lt = (all.0, all-push n m ns all.1 lt)

top_of : (n : ℕ) (ns : List ℕ) → top ns ≤ top (n ∷ ns)
top_of n [] = omega arith
top_of n (m ∷ ns) = omega arith

pub rising-push : (ns : List ℕ) (m : ℕ) → AreRising ns → top ns ≤ m → AreRising (ns ++ m ∷ [])
rising-push [] m rising le = (tt, tt)
rising-push (n ∷ ns) m rising le =
    let lt : n < top (n ∷ ns) = below_top n ns rising in
    let rest : top ns ≤ top (n ∷ ns) = top_of n ns in
    (all-push n m ns rising.0 (omega (arith, lt, le)), rising-push ns m rising.1 (omega (arith, rest, le)))

pub top-push : (ns : List ℕ) (m : ℕ) → top (ns ++ m ∷ []) ≡ m + 1
top-push [] m = refl
top-push (n ∷ []) m = refl
top-push (n ∷ k ∷ ns) m = top-push (k ∷ ns) m

-- numbers that rise are not less at a later place
pub rising_at : (ns : List ℕ) → AreRising ns → (i j : ℕ) → i ≤ j → j < length ns
    → get_or ns i 0 ≤ get_or ns j 0
rising_at [] rising i j le lt = absurd (omega (arith, lt))
rising_at (n ∷ ns) rising zero zero le lt = omega arith
rising_at (n ∷ ns) rising zero (suc j) le lt = let more : n < get_or ns j 0 =
    at_above n ns j rising.0 (omega (arith, lt)) in omega (arith, more)
rising_at (n ∷ ns) rising (suc i) zero le lt = absurd (omega (arith, le))
rising_at (n ∷ ns) rising (suc i) (suc j) le lt =
    rising_at ns rising.1 i j (omega (arith, le)) (omega (arith, lt))

pub within : {T : Type 0} (number : T → ℕ) (ns : List ℕ) (places : List (Option T))
    → AreNumbered number ns places → length ns ≤ length places
within number [] places are = omega arith
within number (m ∷ ns) [] are = absurd are
within number (m ∷ ns) (None ∷ places) are = let le = within number ns places are in omega (arith, le)
within number (m ∷ ns) (Some row ∷ places) are = let le = within number ns places are.1 in omega (arith, le)

-- a place that has a row is one of the numbers'
pub among : {T : Type 0} (number : T → ℕ) (ns : List ℕ) (places : List (Option T)) (i : ℕ) (row : T)
    → AreNumbered number ns places → get_or places i None ≡ Some row
    → (i < length ns) × (get_or ns i 0 ≡ number row)
among number [] [] i row are there = let no : None ≡ Some row = there in absurd cc
among number [] (o ∷ places) zero row are there = let no : None ≡ Some row = sym are.0 ∙ there in absurd cc
among number [] (o ∷ places) (suc i) row are there = absurd (none_behind places i are.1 there)
  where
    none_behind : (os : List (Option _)) (k : ℕ) → AllByRecursion (λ o. o ≡ None) os
        → get_or os k None ≡ Some row → ⊥
    none_behind [] k all e = let no : None ≡ Some row = e in absurd cc
    none_behind (o ∷ os) zero all e = let no : None ≡ Some row = sym all.0 ∙ e in absurd cc
    none_behind (o ∷ os) (suc k) all e = none_behind os k all.1 e
among number (m ∷ ns) [] i row are there = absurd are
among number (m ∷ ns) (None ∷ places) zero row are there = let no : None ≡ Some row = there in absurd cc
among number (m ∷ ns) (Some r ∷ places) zero row are there = let e : Some r ≡ Some row = there in
    let same_row : r ≡ row = cc in (omega arith, sym are.0 ∙ ap number same_row)
among number (m ∷ ns) (None ∷ places) (suc i) row are there = let rest =
    among number ns places i row are there in (omega (arith, rest.0), rest.1)
among number (m ∷ ns) (Some r ∷ places) (suc i) row are there = let rest =
    among number ns places i row are.1 there in (omega (arith, rest.0), rest.1)

not_only : {T : Type 0} (number : T → ℕ) (n : ℕ) (row : T) (rows : List T)
    → AllByRecursion (λ r. n < number r) rows → AllByRecursion (λ r. (number r == n) ≡ true → r ≡ row) rows
not_only number n row [] all = tt
not_only number n row (r ∷ rows) all = let lt : n < number r = all.0 in
    ((λ t. absurd (differ lt (eqb-true (number r) n t))), not_only number n row rows all.1)
  where
    differ : n < number r → number r ≡ n → ⊥
    differ lt e = omega (arith, lt, e)

-- no other row has the number of a place's row
pub only_at : {T : Type 0} (number : T → ℕ) (n : ℕ) (ns : List ℕ) (places : List (Option T)) (i : ℕ)
    (row : T) → AreRising ns → AreNumbered number ns places → i < length ns → get_or ns i 0 ≡ n
    → get_or places i None ≡ Some row →
    AllByRecursion (λ r. (number r == n) ≡ true → r ≡ row) (rows_in places)
only_at number n [] places i row rising are lt is there = absurd (omega (arith, lt))
only_at number n (m ∷ ns) [] i row rising are lt is there = absurd are
only_at number n (m ∷ ns) (None ∷ places) zero row rising are lt is there = let none : None ≡ Some row =
    there in absurd cc
only_at number n (m ∷ ns) (Some r ∷ places) zero row rising are lt is there =
    let here : Some r ≡ Some row = there in
    let same_row : r ≡ row = cc in (
      (λ t. same_row),
      not_only number n row (rows_in places)
          (above number n ns places are.1 (subst (λ k. AllByRecursion (λ j. k < j) ns) is rising.0)),
    )
only_at number n (m ∷ ns) (None ∷ places) (suc i) row rising are lt is there =
    only_at number n ns places i row rising.1 are (omega (arith, lt)) is there
only_at number n (m ∷ ns) (Some r ∷ places) (suc i) row rising are lt is there =
    let less : m < get_or ns i 0 = at_above m ns i rising.0 (omega (arith, lt)) in
    let own : number r ≡ m = are.0 in (
      (λ t. let e : number r ≡ n = eqb-true (number r) n t in absurd (omega (arith, e, own, less, is))),
      only_at number n ns places i row rising.1 are.1 (omega (arith, lt)) is there,
    )

-- what is found by halving, and what stands there
pub place_is : {T : Type 0} (number : T → ℕ) (n : ℕ) (ns : List ℕ) (places : List (Option T)) (place : ℕ)
    (o : Option T) (r : Option ℕ) → AreRising ns → AreNumbered number ns places → IsAt ns n place
    → o ≡ get_or places place None →
    MatchOption r (o ≡ None) (λ p. (p ≡ place) × IsSome o)
    → MatchOption r (find (λ r. number r == n) (rows_in places) ≡ None) (IsPlaceOf number places n)
place_is number n ns places place o None rising are at is none =
    found_at number n ns places place rising are at.0 at.1 ∙ sym is ∙ none
place_is number n ns places place None (Some p) rising are at is some = absurd (false≢true some.1)
place_is number n ns places place (Some row) (Some p) rising are at is some =
    subst (IsPlaceOf number places n) (sym some.0) (record {
      row = row;
      within = let le = within number ns places are in let lt = at.0 in omega (arith, le, lt);
      is = sym is;
      found = found_at number n ns places place rising are at.0 at.1 ∙ sym is;
      numbered = sym (among number ns places place row are (sym is)).1 ∙ at.1;
      only = only_at number n ns places place row rising are at.0 at.1 (sym is);
    })

-- what stands in a place
pub row_is : {T : Type 0} (number : T → ℕ) (ns : List ℕ) (places : List (Option T)) (place : ℕ)
    (o : Option T) → AreRising ns → AreNumbered number ns places → o ≡ get_or places place None
    → MatchOption o (Unit {0}) (λ row. IsPlaceOf number places (number row) place)
row_is number ns places place None rising are is = tt
row_is number ns places place (Some row) rising are is =
    let at = among number ns places place row are (sym is) in record {
      row = row;
      within = let le = within number ns places are in let lt = at.0 in omega (arith, le, lt);
      is = sym is;
      found = found_at number (number row) ns places place rising are at.0 at.1 ∙ sym is;
      numbered = refl;
      only = only_at number (number row) ns places place row rising are at.0 at.1 (sym is);
    }

-- a number between those below it and those above it is none of them
pub between_none : (ns : List ℕ) (n at i : ℕ) → ((k : ℕ) → k < at → get_or ns k 0 < n)
    → ((k : ℕ) → at ≤ k → k < length ns → n < get_or ns k 0) → i < length ns → get_or ns i 0 ≡ n → ⊥
between_none ns n at i low high lt is = split (cases_lt i at)
  where
    split : (i < at) ⊎ (at ≤ i) → ⊥
    split (inl below) = let less = low i below in omega (arith, less, is)
    split (inr above) = let more = high i above lt in omega (arith, more, is)

-- how many rows there are

pub fewer : {T : Type 0} (places : List (Option T)) (i : ℕ) (row : T) → get_or places i None ≡ Some row
    → length (rows_in (set places i None)) + 1 ≡ length (rows_in places)
fewer [] i row is = let no : None ≡ Some row = is in absurd cc
fewer (None ∷ places) zero row is = let no : None ≡ Some row = is in absurd cc
fewer (Some r ∷ places) zero row is = omega arith
fewer (None ∷ places) (suc i) row is = fewer places i row is
fewer (Some r ∷ places) (suc i) row is = let less = fewer places i row is in omega (arith, less)

pub no_more : {T : Type 0} (number : T → ℕ) (ns : List ℕ) (places : List (Option T))
    → AreNumbered number ns places
    → length (rows_in places) ≤ length ns
no_more number [] places are = let none : length (rows_in places) ≡ 0 = ap length (none_there places are) in
    omega (arith, none)
no_more number (n ∷ ns) [] are = absurd are
no_more number (n ∷ ns) (None ∷ places) are = let le = no_more number ns places are in omega (arith, le)
no_more number (n ∷ ns) (Some row ∷ places) are = let le = no_more number ns places are.1 in
    omega (arith, le)

pub none_counted : (T : Type 0) (n : ℕ) → 0 ≡ length (rows_in (replicate {A = Option T} n None))
none_counted T zero = refl
none_counted T (suc n) = none_counted T n

pub none_listed : (T : Type 0) (n : ℕ) → AllByRecursion (λ (o : Option T). o ≡ None) (replicate n None)
none_listed T zero = tt
none_listed T (suc n) = (refl, none_listed T n)

-- the order of the rows

all_above : {T : Type 0} (number : T → ℕ) (n : ℕ) (rows : List T) → AllByRecursion (λ r. n < number r) rows
    → AllByRecursion (λ m. n < m) (map number rows)
all_above number n [] all = tt
all_above number n (row ∷ rows) all = (all.0, all_above number n rows all.1)

pub rows_rise : {T : Type 0} (number : T → ℕ) (ns : List ℕ) (places : List (Option T)) → AreRising ns
    → AreNumbered number ns places → AreRising (map number (rows_in places))
rows_rise number [] places rising are = rw (none_there places are) tt
rows_rise number (n ∷ ns) [] rising are = absurd are
rows_rise number (n ∷ ns) (None ∷ places) rising are = rows_rise number ns places rising.1 are
rows_rise number (n ∷ ns) (Some row ∷ places) rising are = (
  all_above number (number row) (rows_in places)
      (above number (number row) ns places are.1
      (subst (λ k. AllByRecursion (λ m. k < m) ns) (sym are.0) rising.0)),
  rows_rise number ns places rising.1 are.1,
)

less_all : {T : Type 0} (number : T → ℕ) (m n : ℕ) (rows : List T) → m ≤ n
    → AllByRecursion (λ r. number r < m) rows
    → AllByRecursion (λ r. number r < n) rows
less_all number m n [] le all = tt
less_all number m n (row ∷ rows) le all = let lt : number row < m = all.0 in
    (omega (arith, lt, le), less_all number m n rows le all.1)

pub rows_below : {T : Type 0} (number : T → ℕ) (ns : List ℕ) (places : List (Option T)) → AreRising ns
    → AreNumbered number ns places → AllByRecursion (λ r. number r < top ns) (rows_in places)
rows_below number [] places rising are = rw (none_there places are) tt
rows_below number (n ∷ ns) [] rising are = absurd are
rows_below number (n ∷ ns) (None ∷ places) rising are =
    less_all number (top ns) (top (n ∷ ns)) (rows_in places) (top_of n ns)
    (rows_below number ns places rising.1 are)
rows_below number (n ∷ ns) (Some row ∷ places) rising are = (
  subst (λ k. k < top (n ∷ ns)) (sym are.0) (below_top n ns rising),
  less_all number (top ns) (top (n ∷ ns)) (rows_in places) (top_of n ns)
      (rows_below number ns places rising.1 are.1),
)
