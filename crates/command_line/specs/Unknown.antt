-- The least key of a table that none of the known ones is.
use Rattle.std.specs.Prelude.{◌≡◌, ℕ, List, Bool, true, false, ◌||◌, if◌then◌else◌, Option, Some, None}
use Rattle.std.specs.Cmp.Lexicographic.{slice_cmp}
use Rattle.std.specs.List.{list_any}
use Rattle.std.specs.Ordering.{nat_cmp, is_gt}
use Rattle.std.specs.Str.{bytes_eq}
use Rattle.toml.specs.Data.{Members, no_members, member}

-- whether a key is one of these
abbrev pub is_known : List (List ℕ) → List ℕ → Bool
is_known known key = list_any (λ name. bytes_eq name key) known

-- the lesser of a key and another, if there is one, in byte order
abbrev pub lesser : List ℕ → Option (List ℕ) → List ℕ
lesser key None = key
lesser key (Some other) = if is_gt (slice_cmp nat_cmp key other) then other else key

-- the least unknown key, with one key more
abbrev pub least_with : List (List ℕ) → Option (List ℕ) → List ℕ → Option (List ℕ)
least_with known least key = if is_known known key then least else Some (lesser key least)

abbrev pub least_from : List (List ℕ) → Option (List ℕ) → Members → Option (List ℕ)
least_from known least no_members = least
least_from known least (member key value rest) = least_from known (least_with known least key) rest

-- the least key, in byte order, that is none of these, in whatever order they stand
abbrev pub least_unknown : List (List ℕ) → Members → Option (List ℕ)
least_unknown known table = least_from known None table

-- ---- what that is

abbrev pub has_key : List ℕ → Members → Bool
has_key key no_members = false
has_key key (member other value rest) = bytes_eq key other || has_key key rest

-- a key of the table that is none of these
abbrev pub IsUnknown : List (List ℕ) → Members → List ℕ → Type 0
IsUnknown known table key = (has_key key table ≡ true) × (is_known known key ≡ false)

-- It is an unknown key, and no greater than any other, in byte order; or there is none.
abbrev pub IsLeast : List (List ℕ) → Members → Option (List ℕ) → Type 0
IsLeast known table None = (key : List ℕ) → IsUnknown known table key → ⊥
IsLeast known table (Some least) = IsUnknown known table least
    × ((key : List ℕ) → IsUnknown known table key → is_gt (slice_cmp nat_cmp least key) ≡ false)
