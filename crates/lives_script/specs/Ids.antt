-- Ranges of ids, which wrap at 2^64.
use Rattle.std.specs.Prelude.{◌≡◌, ◌⊎◌, ℕ, ◌+◌, ◌-◌, ◌%◌, ◌^◌, ◌<◌, ◌≤◌, ◌||◌, nat_lt, Bool, List, [], ◌∷◌}
use Rattle.std.specs.List.{AllByRecursion}

-- a range: its first id, and how many it has
pub record Ids : Type 0 where
  pub from : ℕ
  pub count : ℕ

-- it has one id at least, and its numbers are below 2^64
pub record IsRange (r : Ids) : Type 0 where
  pub from_fits : r.from < 2 ^ 64
  pub some : 1 ≤ r.count
  pub count_fits : r.count < 2 ^ 64

-- the id is one of from, from + 1 and so on, as many as the range has, where 0 stands behind 2^64 - 1
abbrev pub IsIn : ℕ → Ids → Type 0
IsIn id r = (k : ℕ) × (k < r.count) × (id ≡ (r.from + k) % 2 ^ 64)

-- some id is in both
abbrev pub Meet : Ids → Ids → Type 0
Meet r s = (id : ℕ) × IsIn id r × IsIn id s

-- one of the ranges meets this one
abbrev pub MeetSome : List Ids → Ids → Type 0
MeetSome [] s = ⊥
MeetSome (r ∷ rs) s = Meet r s ⊎ MeetSome rs s

-- no two of the ranges meet
abbrev pub AreApartIds : List Ids → Type 0
AreApartIds [] = Unit {0}
AreApartIds (r ∷ rs) = AllByRecursion (λ s. Meet r s → ⊥) rs × AreApartIds rs

-- how many ids stand from the first number up to the second
abbrev pub ahead : ℕ → ℕ → ℕ
ahead from to = (to + 2 ^ 64 - from) % 2 ^ 64

-- whether two ranges meet, by their numbers: one has the first id of the other
abbrev pub meets : Ids → Ids → Bool
meets r s = nat_lt (ahead r.from s.from) r.count || nat_lt (ahead s.from r.from) s.count
