-- The first row by a key, and how many trees a change touches.
use Rattle.std.specs.Prelude.{◌≡◌, ◌+◌, ◌&&◌, ◌==◌, ℕ, List, map, filter, find, Bool, true, false, not}
use Rattle.std.specs.Prelude.{Option, Some, None, if◌then◌else◌, slice_index_or}
use Rattle.std.specs.List.{AllByRecursion}
use Rattle.row_index.specs.declared.keys.LoadKey.{LoadKey}
use Rattle.row_index.specs.declared.keys.MomentKey.{MomentKey}
use Rattle.row_index.specs.Keys.{load_before, moment_before}

-- the key of a place's row, if it has one
abbrev pub key_in : {T K : Type 0} → (T → Option K) → Option T → Option K
key_in key None = None
key_in key (Some row) = key row

-- the keys of the places, of each tree
pub record AreRanked {T : Type 0} (load_of : T → Option LoadKey) (error_of sign_of : T → Option MomentKey)
    (places : List (Option T)) (loads : List (Option LoadKey))
    (errors signs : List (Option MomentKey)) : Type 0 where
  pub by_load : loads ≡ map (key_in load_of) places
  pub by_error : errors ≡ map (key_in error_of) places
  pub by_sign : signs ≡ map (key_in sign_of) places

-- no row has a key
abbrev pub HaveNoKey : {T K : Type 0} → (T → Option K) → List T → Type 0
HaveNoKey key rows = AllByRecursion (λ r. key r ≡ None) rows

-- The row is the one of its number among the rows, and no row's key goes before its own.
pub record IsFirstBy {T K : Type 0} (number : T → ℕ) (key : T → Option K) (before : K → K → Bool)
    (rows : List T) (row : T) : Type 0 where
  pub own : K
  pub is : key row ≡ Some own
  pub listed : find (λ r. number r == number row) rows ≡ Some row
  pub none_before : AllByRecursion (λ r. (k : K) → key r ≡ Some k → before k own ≡ false) rows

-- whether the key, if there is one, goes before the bound
abbrev pub is_early : {K : Type 0} → (K → K → Bool) → K → Option K → Bool
is_early before bound None = false
is_early before bound (Some k) = before k bound

-- the numbers of the rows whose key goes before the bound, rising
abbrev pub early_numbers : {T K : Type 0} → (T → ℕ) → (T → Option K) → (K → K → Bool) → K → List T → List ℕ
early_numbers number key before bound rows = map number (filter (λ r. is_early before bound (key r)) rows)

-- whether the key stays: there is none before and after, or neither of the two goes before the other
abbrev pub key_stays : {K : Type 0} → (K → K → Bool) → Option K → Option K → Bool
key_stays before None None = true
key_stays before None (Some new) = false
key_stays before (Some old) None = false
key_stays before (Some old) (Some new) = not (before old new) && not (before new old)

-- how often a change of one key touches its tree: once, unless the key stays
abbrev pub touches : {K : Type 0} → (K → K → Bool) → Option K → Option K → ℕ
touches before old new = if key_stays before old new then 0 else 1

-- the number of the row in a place, or 0
abbrev pub number_in : {T : Type 0} → (T → ℕ) → Option T → ℕ
number_in number None = 0
number_in number (Some row) = number row

-- the same, by the place
abbrev pub number_at : {T : Type 0} → (T → ℕ) → List (Option T) → ℕ → ℕ
number_at number places place = number_in number (slice_index_or places place None)

-- how many trees a change of one place touches
abbrev pub touched : {T : Type 0} → (T → Option LoadKey) → (T → Option MomentKey) → (T → Option MomentKey)
    → Option T → Option T → ℕ
touched load_of error_of sign_of old new = touches load_before (key_in load_of old) (key_in load_of new)
    + touches moment_before (key_in error_of old) (key_in error_of new)
    + touches moment_before (key_in sign_of old) (key_in sign_of new)
