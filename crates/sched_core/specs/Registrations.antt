-- The keys by which registrations are found, and what contracts see of them.
use Rattle.std.specs.Prelude.{◌≡◌, ℕ, ◌+◌, ◌*◌, ◌≤◌, List, [], length, map, Bool, false, Option, Some, None}
use Rattle.std.specs.Prelude.{◌∷◌, ◌<◌, ◌==◌, ◌^◌, drop, find, slice_index_or, sum_by, if◌then◌else◌}
use Rattle.dist_types.specs.declared.addr.Addr.{Addr}
use Rattle.dist_types.specs.Addr.{same_addr}
use Rattle.row_index.specs.Slots.{rows_in}
use Rattle.core_rules.specs.declared.rows.ServerRow.{ServerRow}
use Rattle.sched_core.specs.declared.change.Change.{Change}
use Rattle.sched_core.specs.declared.change.Change.TheVariants.{Lower, Raise, Forgive, Note, See, LowerAndSee}
use Rattle.sched_core.specs.declared.change.Change.TheVariants.{Draining}
use Rattle.core_rules.specs.declared.entry.CoreKind.{CoreKind}
use Rattle.core_rules.specs.declared.entry.CoreKind.TheVariants.{Reserve}
use Rattle.core_rules.specs.declared.entry.Reserved.{Reserved}
use Rattle.core_rules.specs.declared.entry.Reserved.TheVariants.{Job}
use Rattle.std.specs.List.{AllByRecursion}
use Rattle.std.specs.Option.{option_map}
use Rattle.row_index.specs.Lookup.{value_at}
use Rattle.core_rules.specs.Laws.{AreRising, AreDifferent}
use Rattle.core_rules.specs.Prune.{is_expired, at_address}
use Rattle.core_rules.specs.Pick.{HasCpus}

-- How many places there are, the least number above all registrations that were put into them, and whether a
-- place is left behind the last.
pub record Places : Type 0 where
  pub count : ℕ
  pub top : ℕ
  pub has_left : Bool

-- What contracts see: the rows by rising number, and the places that they stand in.
pub record PlacedRows : Type 0 where
  pub rows : List ServerRow
  pub places : Places

-- no row, in no place
abbrev pub no_rows : PlacedRows
no_rows = record { rows = []; places = record { count = 0; top = 0; has_left = false } }

-- The place has a row, the first of all.
pub record IsFirstFull (places : List (Option ServerRow)) (place : ℕ) : Type 0 where
  pub row : ServerRow
  pub within : place < length places
  pub is : slice_index_or places place None ≡ Some row
  pub rest : rows_in places ≡ row ∷ rows_in (drop (place + 1) places)

-- the row, where its last sign is not too long ago
abbrev pub heard_part : ℕ → Option ServerRow → Option ServerRow
heard_part now None = None
heard_part now (Some row) = if is_expired now row then None else Some row

-- the processors of a row, or 0
abbrev pub cpus_in : Option ServerRow → ℕ
cpus_in None = 0
cpus_in (Some row) = row.cpus

-- the processors of the registration of that number, or 0
abbrev pub cpus_at : List ServerRow → ℕ → ℕ
cpus_at rows reg = cpus_in (find (λ r. r.reg == reg) rows)

-- how many trees a change of a row touches at most
abbrev pub trees_of : Change → ℕ
trees_of Lower = 1
trees_of Raise = 1
trees_of Forgive = 2
trees_of (Note moment) = 2
trees_of (See moment) = 1
trees_of (LowerAndSee moment) = 2
trees_of (Draining on) = 1

-- the registrations whose errors a reserve forgives
abbrev pub forgiven_in : Reserved → List ℕ
forgiven_in (Job job reg forgiven) = forgiven
forgiven_in other = []

-- how many looks a reserve takes at the trees as it changes the rows, where they have at most 2^h places
abbrev pub reserve_looks : Reserved → ℕ → ℕ
reserve_looks (Job job reg forgiven) h = (2 * length forgiven + 1) * (2 * h + 1)
reserve_looks other h = 0

-- and as it decides what becomes of it
abbrev pub decide_looks : Reserved → ℕ → ℕ
decide_looks (Job job reg forgiven) h = 2 * h * length forgiven + 3
decide_looks other h = 2

-- what a reserve takes no more looks than; of other entries nothing is said
abbrev pub AreFew : CoreKind → ℕ → ℕ → ℕ → Type 0
AreFew (Reserve reserved) h before after = after ≤ before + reserve_looks reserved h
AreFew other h before after = Unit {0}

-- Rows of different registrations: their numbers rise, their addresses differ, and each has processors.
pub record AreSoundRows (rows : List ServerRow) : Type 0 where
  pub rising : AreRising (map (λ r. r.reg) rows)
  pub apart : AreDifferent (map (λ r. r.server) rows)
  pub cpus : AllByRecursion HasCpus rows

-- the number of the registration at an address
abbrev pub number_at : Addr → List ServerRow → Option ℕ
number_at server rows = option_map (λ r. r.reg) (at_address server rows)

-- its processors are a word
abbrev pub HasWordOfCpus : ServerRow → Type 0
HasWordOfCpus r = r.cpus < 2 ^ 64

-- What is kept beside sound rows: at each address the number of the registration there, and the sum of all
-- processors.
pub record AreIndexed (rows : List ServerRow) (entries : List (Addr × ℕ)) (total : ℕ) : Type 0 where
  pub sound : AreSoundRows rows
  pub at : (server : Addr) → value_at same_addr server entries ≡ number_at server rows
  pub sum : total ≡ sum_by (λ r. r.cpus) rows
  pub words : AllByRecursion HasWordOfCpus rows
