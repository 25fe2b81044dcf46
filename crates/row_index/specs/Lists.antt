-- A list for each number.
use Rattle.std.specs.Prelude.{◌≡◌, ◌<◌, ◌==◌, ℕ, List, [], ◌∷◌, Option, Some, None, if◌then◌else◌}

-- What contracts see: the lists with their numbers, and the number whose list has room for one more, if one
-- is known to have it.
pub record Listed : Type 0 where
  pub lists : List (ℕ × List ℕ)
  pub ready : Option ℕ

-- the list of a number, among those: the first, or none
abbrev pub list_at : List (ℕ × List ℕ) → ℕ → List ℕ
list_at [] n = []
list_at (l ∷ ls) n = if n == l.0 then l.1 else list_at ls n

-- the items of what was found, or none
abbrev pub items_in : {V : Type 0} → (V → List ℕ) → Option V → List ℕ
items_in items None = []
items_in items (Some v) = items v

-- the list of each number but one is as it was, and that of this one is this
abbrev pub Puts : List (ℕ × List ℕ) → List (ℕ × List ℕ) → ℕ → List ℕ → Type 0
Puts old new number list = (n : ℕ) → list_at new n ≡ (if number == n then list else list_at old n)

-- the list of each number is as it was
abbrev pub AreAlike : List (ℕ × List ℕ) → List (ℕ × List ℕ) → Type 0
AreAlike old new = (n : ℕ) → list_at new n ≡ list_at old n

-- something was found, and has room
abbrev pub HasRoomIn : {V : Type 0} → (V → Type 0) → Option V → Type 0
HasRoomIn HasRoom None = ⊥
HasRoomIn HasRoom (Some v) = HasRoom v

-- where a number is known to have it, its list has room, and the list may be taken out and put in again
abbrev pub IsReady : {V : Type 0} → (V → Type 0) → (ℕ → Option V) → ℕ → Option ℕ → Type 0
IsReady HasRoom found spare None = Unit {0}
IsReady HasRoom found spare (Some n) = (0 < spare) × HasRoomIn HasRoom (found n)
