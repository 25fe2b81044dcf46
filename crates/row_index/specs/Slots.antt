-- Rows in places, by rising numbers.
use Rattle.std.specs.Prelude.{true, ◌≡◌, ◌≢◌, ◌<◌, ◌≤◌, ◌+◌, ◌==◌, ℕ, List, [], ◌∷◌, length, Option, Some}
use Rattle.std.specs.Prelude.{None, find, slice_index_or}
use Rattle.std.specs.List.{AllByRecursion}

-- What contracts see: the places, each with a row or none, and the numbers of the rows that were pushed
-- into the first of them.
pub record Slotted (T : Type 0) : Type 0 where
  pub places : List (Option T)
  pub numbers : List ℕ

-- the rows of the places that have one, in order
abbrev pub rows_in : {T : Type 0} → List (Option T) → List T
rows_in [] = []
rows_in (None ∷ places) = rows_in places
rows_in (Some row ∷ places) = row ∷ rows_in places

-- each number is less than every one behind it
abbrev pub AreRising : List ℕ → Type 0
AreRising [] = Unit {0}
AreRising (n ∷ ns) = AllByRecursion (λ m. n < m) ns × AreRising ns

-- the least number above all of those that rise
abbrev pub top : List ℕ → ℕ
top [] = 0
top (n ∷ []) = n + 1
top (n ∷ m ∷ ns) = top (m ∷ ns)

-- each row has the number of its place, and the places behind the numbers are free
abbrev pub AreNumbered : {T : Type 0} → (T → ℕ) → List ℕ → List (Option T) → Type 0
AreNumbered number [] places = AllByRecursion (λ o. o ≡ None) places
AreNumbered number (n ∷ ns) [] = ⊥
AreNumbered number (n ∷ ns) (None ∷ places) = AreNumbered number ns places
AreNumbered number (n ∷ ns) (Some row ∷ places) = (number row ≡ n) × AreNumbered number ns places

-- The numbers rise and are those of the rows, there is room for the number of each place, and the rows are
-- counted.
pub record AreSlots {T : Type 0} (number : T → ℕ) (numbers : List ℕ) (places : List (Option T))
    (len capacity count : ℕ) : Type 0 where
  pub rising : AreRising numbers
  pub numbered : AreNumbered number numbers places
  pub room : len ≤ capacity
  pub counted : count ≡ length (rows_in places)

-- the number is none of those
abbrev pub IsNowhere : List ℕ → ℕ → Type 0
IsNowhere numbers number = (i : ℕ) → i < length numbers → slice_index_or numbers i 0 ≢ number

-- the number is that at the place
abbrev pub IsAt : List ℕ → ℕ → ℕ → Type 0
IsAt numbers number place = (place < length numbers) × (slice_index_or numbers place 0 ≡ number)

-- The place has the row of that number, which is the only one of it.
pub record IsPlaceOf {T : Type 0} (number : T → ℕ) (places : List (Option T))
    (wanted place : ℕ) : Type 0 where
  pub row : T
  pub within : place < length places
  pub is : slice_index_or places place None ≡ Some row
  pub found : find (λ r. number r == wanted) (rows_in places) ≡ Some row
  pub numbered : number row ≡ wanted
  pub only : AllByRecursion (λ r. (number r == wanted) ≡ true → r ≡ row) (rows_in places)
