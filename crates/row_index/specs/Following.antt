-- Rows whose ids follow one another modulo 2^64.
use Rattle.std.specs.Prelude.{◌≡◌, ◌≤◌, ◌<◌, ◌+◌, ◌%◌, ◌^◌, ◌==◌, ℕ, List, [], ◌∷◌, ◌++◌, Bool, false, length}
use Rattle.std.specs.List.{AllByRecursion}

-- What contracts see: the id of the first row, the rows, and whether there is room for one more.
pub record Followed (T : Type 0) : Type 0 where
  pub first : ℕ
  pub rows : List T
  pub has_room : Bool

-- each row has the id after that of the row before it
abbrev pub AreFollowing : {T : Type 0} → (T → ℕ) → ℕ → List T → Type 0
AreFollowing id n [] = Unit {0}
AreFollowing id n (row ∷ rows) = (id row ≡ n % 2 ^ 64) × AreFollowing id (n + 1) rows

-- so far from the first is the id
abbrev pub IsApart : ℕ → ℕ → ℕ → Type 0
IsApart n id far = ((n + far) % 2 ^ 64 ≡ id) × (far < 2 ^ 64)

-- the id is so far from the first, among so many rows
abbrev pub IsPlace : ℕ → ℕ → ℕ → ℕ → Type 0
IsPlace count first id place = (place < count) × IsApart first id place

-- the id is behind so many rows
abbrev pub IsNowhere : ℕ → ℕ → ℕ → Type 0
IsNowhere count first id = (far : ℕ) × (count ≤ far) × IsApart first id far

-- no row has the id
abbrev pub HasNone : {T : Type 0} → (T → ℕ) → List T → ℕ → Type 0
HasNone id_of rows wanted = AllByRecursion (λ r. (id_of r == wanted) ≡ false) rows

-- The row has the id, and none before or behind it.
pub record IsRowOf {T : Type 0} (id_of : T → ℕ) (rows : List T) (wanted : ℕ) (row : T) : Type 0 where
  pub front : List T
  pub rest : List T
  pub are : rows ≡ front ++ row ∷ rest
  pub own : id_of row ≡ wanted
  pub before : HasNone id_of front wanted
  pub behind : HasNone id_of rest wanted

-- The same, of the row in that place.
pub record IsPlaceOf {T : Type 0} (id_of : T → ℕ) (rows : List T) (wanted place : ℕ) : Type 0 where
  pub row : T
  pub whole : IsRowOf id_of rows wanted row
  pub at : length whole.front ≡ place
