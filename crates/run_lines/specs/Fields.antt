-- The fields of a printed line, each read from one word, in its one spelling.
use Rattle.std.specs.Prelude.{ℕ, ◌==◌, ◌&&◌, nat_eq, Bool, true, false, if◌then◌else◌, List, [], ◌∷◌}
use Rattle.std.specs.Prelude.{length, map, position, take, drop, Option, Some, None, codes}
use Rattle.std.specs.Option.{option_map}
use Rattle.std.specs.List.{list_all, onto_first}
use Rattle.std.specs.Cmp.Lexicographic.{pointwise}
use Rattle.dist_types.specs.Addr.{◌>>=◌, addr_text}
use Rattle.dist_types.specs.Toolchain.{is_lower_hex}
use Rattle.dist_types.specs.declared.addr.Addr.{Addr}
use Rattle.dist_types.specs.declared.ids.JobId.{JobId}
use Rattle.dist_types.specs.declared.results.JobState.{JobState}
use Rattle.dist_types.specs.declared.results.JobState.TheVariants.{Pending, Ready, Started, Complete}
use Rattle.farm_script.specs.Words.{parted, last}
use Rattle.farm_script.specs.Fields.{addr_at, number_at, hex_at}
use Rattle.farm_entries.specs.Printed.{hex_text}

-- a value, where the text is the one that is printed of it
abbrev pub exactly : {A : Type 0} → (A → List ℕ) → List ℕ → A → Option A
exactly text t x = if pointwise nat_eq (text x) t then Some x else None

-- an address, as it is printed
unfoldable pub exact_at : List ℕ → Option Addr
exact_at t = addr_at t >>= exactly addr_text t

-- bytes in hex, as they are printed
unfoldable pub lower_at : List ℕ → Option (List ℕ)
lower_at t = hex_at t >>= exactly hex_text t

-- what stands between commas
unfoldable pub parts : List ℕ → List (List ℕ)
parts [] = [] ∷ []
parts (b ∷ bs) = if b == 44 then [] ∷ parts bs else onto_first b (parts bs)

-- the first part, and what stands behind the comma behind it, where there is one
abbrev pub next_part : List ℕ → List ℕ × Option (List ℕ)
next_part t = parted t (position (λ b. b == 44) t)

-- the value of the first part, and what stands behind the comma behind it, where there is one
abbrev pub item_part : {A : Type 0} → (List ℕ → Option A) → List ℕ → Option (A × Option (List ℕ))
item_part read t = option_map (λ x. (x, (next_part t).1)) (read (next_part t).0)

-- the values that parts say
unfoldable pub items_of : {A : Type 0} → (List ℕ → Option A) → List (List ℕ) → Option (List A)
items_of read [] = Some []
items_of read (p ∷ ps) = do
  x ← read p
  xs ← items_of read ps
  Some (x ∷ xs)

-- the values behind a comma, where there is one
abbrev pub items_behind : {A : Type 0} → (List ℕ → Option A) → Option (List ℕ) → Option (List A)
items_behind read None = Some []
items_behind read (Some t) = items_of read (parts t)

-- values joined by commas, or a dash for none
abbrev pub items_at : {A : Type 0} → (List ℕ → Option A) → List ℕ → Option (List A)
items_at read t = if pointwise nat_eq t (codes "-") then Some [] else items_behind read (Some t)

-- numbers joined by commas, or a dash for none
abbrev pub numbers_at : List ℕ → Option (List ℕ)
numbers_at t = items_at number_at t

-- the job of a number
abbrev pub job_of : ℕ → JobId
job_of n = record { 0 = n }

-- the same for the numbers of jobs
abbrev pub jobs_at : List ℕ → Option (List JobId)
jobs_at t = option_map (map job_of) (numbers_at t)

-- a number, or a dash for none
abbrev pub maybe_at : List ℕ → Option (Option ℕ)
maybe_at t = if pointwise nat_eq t (codes "-") then Some None else option_map Some (number_at t)

-- the name of a job's state
abbrev pub state_at : List ℕ → Option JobState
state_at t =
    if pointwise nat_eq t (codes "pending") then Some Pending
    else if pointwise nat_eq t (codes "ready") then Some Ready
    else if pointwise nat_eq t (codes "started") then Some Started
    else if pointwise nat_eq t (codes "complete") then Some Complete
    else None

-- one of two words
abbrev pub either_at : List ℕ → List ℕ → List ℕ → Option Bool
either_at first second t = if pointwise nat_eq t first then Some true
    else if pointwise nat_eq t second then Some false else None

-- how far a job is
abbrev pub stage_at : List ℕ → Option (Option JobState)
stage_at t = if pointwise nat_eq t (codes "reserved") then Some None else option_map Some (state_at t)

-- 64 hex digits in lower case
abbrev pub id_at : List ℕ → Option (List ℕ)
id_at t = if (length t == 64) && list_all is_lower_hex t then Some t else None

-- ids joined by commas, or a dash for none
abbrev pub ids_at : List ℕ → Option (List (List ℕ))
ids_at t = items_at id_at t

-- an id of an archive, a colon and its size
unfoldable pub archive_at : List ℕ → Option (List ℕ × ℕ)
archive_at t = do
  tc ← id_at (take 64 t)
  size ← last (codes ":") number_at (drop 64 t)
  Some (tc, size)

-- archives joined by commas, or a dash for none
abbrev pub archives_at : List ℕ → Option (List (List ℕ × ℕ))
archives_at t = items_at archive_at t
