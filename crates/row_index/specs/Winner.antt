-- Which slot has the least key, and which slots have keys before a bound.
use Rattle.std.specs.Prelude.{◌≡◌, ℕ, ◌+◌, Bool, false, List, [], ◌∷◌, Option, Some, None, slice_index_or}
use Rattle.std.specs.Prelude.{if◌then◌else◌}

module _ {K : Type 0} where
  -- no slot has a key
  abbrev pub HasNone : List (Option K) → Type 0
  HasNone keys = (slot : ℕ) → slice_index_or keys slot None ≡ None

  -- no two slots have one key
  abbrev pub Differ : List (Option K) → Type 0
  Differ keys = (a b : ℕ) (key : K) → slice_index_or keys a None ≡ Some key
      → slice_index_or keys b None ≡ Some key → a ≡ b

-- the slot has a key, and no slot's key goes before it
pub record IsLeast {K : Type 0} (before : K → K → Bool) (keys : List (Option K)) (slot : ℕ) : Type 0 where
  pub key : K
  pub is : slice_index_or keys slot None ≡ Some key
  pub none_before : (other : ℕ) (k : K) → slice_index_or keys other None ≡ Some k → before k key ≡ false

-- the slots whose keys go before the bound, rising, where the first of the keys is that of the slot `at`
abbrev pub early_slots : {K : Type 0} → (K → K → Bool) → K → ℕ → List (Option K) → List ℕ
early_slots before bound at [] = []
early_slots before bound at (None ∷ keys) = early_slots before bound (at + 1) keys
early_slots before bound at (Some key ∷ keys) =
    if before key bound then at ∷ early_slots before bound (at + 1) keys else early_slots before bound
    (at + 1) keys
