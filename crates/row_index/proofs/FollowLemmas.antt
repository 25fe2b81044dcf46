-- A row is found by how far its id is from the first.
use Rattle.std.proofs.Common.{◌≡◌, ℕ, zero, suc, ◌+◌, ◌-◌, ◌%◌, ◌^◌, ◌<◌, ◌≤◌, List, [], ◌∷◌, ◌++◌, Bool}
use Rattle.std.proofs.Common.{true, false}
use Rattle.std.proofs.Common.{length, Option, Some, None, refl, ap, ◌∙◌, sym, arith}
use Rattle.std.proofs.Common.{eqb-true, get_or, set}
use Rattle.std.specs.Prelude.{◌==◌, MatchOption}
use Rattle.std.proofs.lemmas.List.{get_or_default}
use Rattle.std.specs.List.{AllByRecursion}
use Rattle.row_index.specs.Following.{AreFollowing, IsApart, IsPlace, IsNowhere, HasNone, IsRowOf}
use Rattle.row_index.specs.Following.{IsPlaceOf}

-- how far an id is from the first
pub apart_from : (first id : ℕ) → first < 2 ^ 64 → id < 2 ^ 64
    → IsApart first id ((id + 2 ^ 64 - first) % 2 ^ 64)
apart_from first id small less = (omega (arith, small, less), omega (arith, small, less))

pub id_fits : (first far id : ℕ) → IsApart first id far → id < 2 ^ 64
id_fits first far id at = let is = at.0 in omega (arith, is)

apart : (m n : ℕ) → (m ≡ n → ⊥) → (m == n) ≡ false
apart m n differ = split (m == n) refl
  where
    split : (b : Bool) → (m == n) ≡ b → b ≡ false
    split true e = absurd (differ (eqb-true m n e))
    split false e = refl

-- ids that are less than 2^64 apart differ
differ : (n far : ℕ) → 0 < far → far < 2 ^ 64 → n % 2 ^ 64 ≡ (n + far) % 2 ^ 64 → ⊥
differ n far some few same = omega (arith, some, few, same)

moved : (n far id : ℕ) → (n + suc far) % 2 ^ 64 ≡ id → ((n + 1) + far) % 2 ^ 64 ≡ id
moved n far id is = ap (λ k. k % 2 ^ 64) (sum n far) ∙ is
  where
    sum : (a b : ℕ) → (a + 1) + b ≡ a + suc b
    sum a b = omega arith

other_head : {T : Type 0} (id_of : T → ℕ) (n far id : ℕ) (row : T) → id_of row ≡ n % 2 ^ 64
    → IsApart n id (suc far) → (id_of row == id) ≡ false
other_head id_of n far id row own at =
    apart (id_of row) id (λ e. differ n (suc far) (omega arith) at.1 (sym own ∙ e ∙ sym at.0))

-- where the id is behind all rows, none has it
pub nowhere : {T : Type 0} (id_of : T → ℕ) (n far id : ℕ) (rows : List T) → AreFollowing id_of n rows
    → IsApart n id far → length rows ≤ far → HasNone id_of rows id
nowhere id_of n far id [] are at le = tt
nowhere id_of n zero id (row ∷ rows) are at le = absurd (omega (arith, le))
nowhere id_of n (suc far) id (row ∷ rows) are at le = (
  other_head id_of n far id row are.0 at,
  nowhere id_of (n + 1) far id rows are.1 (moved n far id at.0, omega (arith, at.1)) (omega (arith, le)),
)

-- behind the row of the id all ids are others, as far as there are fewer than 2^64
behind : {T : Type 0} (id_of : T → ℕ) (n far id : ℕ) (rows : List T) → AreFollowing id_of n rows
    → (id + far) % 2 ^ 64 ≡ n % 2 ^ 64 → id < 2 ^ 64 → 0 < far → far + length rows ≤ 2 ^ 64
    → AllByRecursion (λ r. (id_of r == id) ≡ false) rows
behind id_of n far id [] are at small some few = tt
behind id_of n far id (row ∷ rows) are at small some few = (
  apart (id_of row) id (λ e. clash (id_of row) n far id are.0 at small some (less few) e),
  behind id_of (n + 1) (far + 1) id rows are.1 (next id far n at) small (omega (arith, some))
      (omega (arith, few)),
)
  where
    less : far + length (row ∷ rows) ≤ 2 ^ 64 → far < 2 ^ 64
    less few = omega (arith, few)

    clash : (own n far id : ℕ) → own ≡ n % 2 ^ 64 → (id + far) % 2 ^ 64 ≡ n % 2 ^ 64 → id < 2 ^ 64 → 0 < far
        → far < 2 ^ 64
        → own ≡ id → ⊥
    clash own n far id is at small some less e = omega (arith, is, at, small, some, less, e)

    next : (id far n : ℕ) → (id + far) % 2 ^ 64 ≡ n % 2 ^ 64 → (id + (far + 1)) % 2 ^ 64 ≡ (n + 1) % 2 ^ 64
    next id far n at = omega (arith, at)

after : (n id : ℕ) → (n + 0) % 2 ^ 64 ≡ id → (id + 1) % 2 ^ 64 ≡ (n + 1) % 2 ^ 64
after n id is = omega (arith, is)

none_added : (k : ℕ) → k ≡ k + 0
none_added k = omega arith

-- the row so far from the first has the id, and no other
pub alone : {T : Type 0} (id_of : T → ℕ) (n far id : ℕ) (rows : List T) (row : T) → AreFollowing id_of n rows
    → IsApart n id far → far < length rows → length rows ≤ 2 ^ 64 → row ≡ get_or rows far row
    → (whole : IsRowOf id_of rows id row) × (length whole.front ≡ far)
alone id_of n far id [] row are at lt few is = absurd (omega (arith, lt))
alone id_of n zero id (first ∷ rows) row are at lt few is =
    let own : id_of first ≡ id = are.0 ∙ ap (λ k. k % 2 ^ 64) (none_added n) ∙ at.0 in
    let small : id < 2 ^ 64 = id_fits n zero id at in (
      record {
        front = [];
        rest = rows;
        are = ap (λ r. r ∷ rows) (sym is);
        own = ap id_of is ∙ own;
        before = tt;
        behind = behind id_of (n + 1) 1 id rows are.1 (after n id at.0) small (omega arith)
            (omega (arith, few));
      },
      refl,
    )
alone id_of n (suc far) id (first ∷ rows) row are at lt few is =
    let rest = alone id_of (n + 1) far id rows row are.1 (moved n far id at.0, omega (arith, at.1))
    (omega (arith, lt)) (omega (arith, few)) is in (
      record {
        front = first ∷ rest.0.front;
        rest = rest.0.rest;
        are = ap (λ l. first ∷ l) rest.0.are;
        own = rest.0.own;
        before = (other_head id_of n far id first are.0 at, rest.0.before);
        behind = rest.0.behind;
      },
      ap suc rest.1,
    )

-- a row of the same id in a place
pub following_put : {T : Type 0} (id_of : T → ℕ) (n place : ℕ) (new : T) (rows : List T)
    → AreFollowing id_of n rows
    → id_of (get_or rows place new) ≡ id_of new → AreFollowing id_of n (set rows place new)
following_put id_of n place new [] are same = tt
following_put id_of n zero new (row ∷ rows) are same = (sym same ∙ are.0, are.1)
following_put id_of n (suc place) new (row ∷ rows) are same =
    (are.0, following_put id_of (n + 1) place new rows are.1 same)

-- one row more
pub following_push : {T : Type 0} (id_of : T → ℕ) (n : ℕ) (new : T) (rows : List T)
    → AreFollowing id_of n rows
    → id_of new ≡ (n + length rows) % 2 ^ 64 → AreFollowing id_of n (rows ++ new ∷ [])
following_push id_of n new [] are is = (is ∙ ap (λ k. k % 2 ^ 64) (none n), tt)
  where
    none : (k : ℕ) → k + 0 ≡ k
    none k = omega arith
following_push id_of n new (row ∷ rows) are is =
    (are.0, following_push id_of (n + 1) new rows are.1 (is ∙ ap (λ k. k % 2 ^ 64) (sum n (length rows))))
  where
    sum : (a b : ℕ) → a + suc b ≡ (a + 1) + b
    sum a b = omega arith

-- what a place says, it says of the row in it
pub placed : {T : Type 0} (id_of : T → ℕ) (n id : ℕ) (rows : List T) (o : Option ℕ)
    → AreFollowing id_of n rows
    → length rows ≤ 2 ^ 64 → MatchOption o (IsNowhere (length rows) n id) (IsPlace (length rows) n id)
    → MatchOption o (HasNone id_of rows id) (IsPlaceOf id_of rows id)
placed id_of n id rows None are few at = nowhere id_of n at.0 id rows are at.2 at.1
placed {T} id_of n id [] (Some place) are few at = absurd (omega (arith, at.0))
placed {T} id_of n id (first ∷ rows) (Some place) are few at =
    let row : T = get_or (first ∷ rows) place first in
    let whole = alone id_of n place id (first ∷ rows) row are at.1 at.0 few
    (get_or_default (first ∷ rows) place first row at.0) in
    record { row = row; whole = whole.0; at = whole.1 }
