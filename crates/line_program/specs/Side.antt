-- An input or an output, as a moment finds it.
use Rattle.std.specs.Prelude.{ℕ, List, Option}

-- what an input has left, or what an output holds, where that is told, and the count of faults
pub record Side : Type 0 where
  pub content : Option (List ℕ)
  pub faults : ℕ

-- a side, by what it tells
abbrev pub side : {A : Type 0} → (A → Option (List ℕ)) → (A → ℕ) → A → Side
side content faults a = record { content = content a; faults = faults a }
