-- The ids that were used, as stretches of numbers, each kept as its last number at its first.
use Rattle.std.specs.Prelude.{◌≡◌, ◌⊎◌, ℕ, ◌+◌, ◌-◌, ◌^◌, ◌<◌, ◌≤◌, List, [], ◌∷◌, Option, Some, None}
use Rattle.std.specs.List.{AllByRecursion}
use Rattle.std.specs.Ordering.{nat_cmp}
use Rattle.std.specs.BTreeMap.{BTreeMap, get}
use Rattle.lives_script.specs.Ids.{Ids, IsRange, IsIn}

-- the number is one from the first to the last
pub record IsBetween (first last n : ℕ) : Type 0 where
  pub from : first ≤ n
  pub to : n ≤ last

-- The ends of a range: its last id; or the greatest number, and where it wraps its last id from 0 on.
abbrev pub AreEnds : Ids → ℕ → Option ℕ → Type 0
AreEnds r last None = (last + 1 ≡ r.from + r.count) × (last < 2 ^ 64)
AreEnds r last (Some end) = (last ≡ 2 ^ 64 - 1) × (end + 1 + 2 ^ 64 ≡ r.from + r.count)

-- the id is in one of the stretches
pub record Covers (m : BTreeMap ℕ ℕ) (id : ℕ) : Type 0 where
  pub first : ℕ
  pub last : ℕ
  pub kept : get nat_cmp m first ≡ Some last
  pub between : IsBetween first last id

-- each stretch ends before the next begins
pub record AreOrdered (m : BTreeMap ℕ ℕ) : Type 0 where
  pub some : (first last : ℕ) → get nat_cmp m first ≡ Some last → first ≤ last
  pub apart : (first last next end : ℕ) → get nat_cmp m first ≡ Some last → get nat_cmp m next ≡ Some end
      → first < next → last < next

-- m has one stretch more, from the first to the last, than before
pub record IsAdded (first last : ℕ) (before m : BTreeMap ℕ ℕ) : Type 0 where
  pub ordered : AreOrdered m
  pub old : (id : ℕ) → Covers before id → Covers m id
  pub new : (id : ℕ) → IsBetween first last id → Covers m id
  pub only : (id : ℕ) → Covers m id → Covers before id ⊎ IsBetween first last id

-- the id is in one of the ranges
abbrev pub IsInSome : ℕ → List Ids → Type 0
IsInSome id [] = ⊥
IsInSome id (r ∷ rs) = IsIn id r ⊎ IsInSome id rs

-- the stretches have the ids of these ranges, and no others
pub record Keeps (m : BTreeMap ℕ ℕ) (rs : List Ids) : Type 0 where
  pub ordered : AreOrdered m
  pub ranges : AllByRecursion IsRange rs
  pub all : (id : ℕ) → IsInSome id rs → Covers m id
  pub only : (id : ℕ) → Covers m id → IsInSome id rs
