-- What an opening lists.
use Rattle.std.specs.Prelude.{◌≡◌, ℕ, ◌≤◌, Bool, ◌&&◌, nat_le, nat_eq, List, [], ◌∷◌, ◌++◌, filter, drop}
use Rattle.std.specs.Prelude.{true, length, Option, Some, None, if◌then◌else◌}
use Rattle.std.specs.List.{AllByRecursion, IsDistinct, starts_with}
use Rattle.std.specs.Map.{keys_of}
use Rattle.std.specs.Str.{bytes_eq}
use Rattle.folders.specs.Held.{Held, Holds}
use Rattle.folders.specs.Files.{Files, file_at, found_behind}
use Rattle.folders.specs.declared.folder.Found.{Found}
use Rattle.listed_files.specs.Key.{is_key}
use Rattle.listed_files.specs.Entries.{Entries, total, trim}

-- what follows the root in a path
abbrev pub stripped : List ℕ → List ℕ → Option (List ℕ)
stripped root path = if starts_with nat_eq path root then Some (drop (length root) path) else None

abbrev pub with_key : Option (List ℕ) → ℕ → Entries → Entries
with_key (Some key) size entries = (key, size) ∷ entries
with_key None size entries = entries

-- what follows the root in each path, with the size of its file
abbrev pub keyed : List ℕ → List Found → Entries
keyed root [] = []
keyed root (f ∷ fs) = with_key (stripped root f.path) f.size (keyed root fs)

-- the same of all files
abbrev pub listing : List ℕ → Files → Entries
listing root files = keyed root (found_behind root files)

-- where files are told their paths differ, and under the root they are those of the list, in its order
abbrev pub Shows : List ℕ → Held → Entries → Type 0
Shows root held entries = Holds held (λ files. IsDistinct bytes_eq (keys_of files)
    × (listing root files ≡ entries))

-- it is a key, and its file is within the capacity
abbrev pub is_kept : ℕ → List ℕ × ℕ → Bool
is_kept capacity e = is_key e.0 && nat_le e.1 capacity

-- those found that an opening keeps
abbrev pub kept : List ℕ → ℕ → List Found → Entries
kept root capacity found = filter (is_kept capacity) (keyed root found)

-- The list that an opening makes of the files: those under the root that are kept, and of these the longest
-- end that fits.
abbrev pub opened : List ℕ → ℕ → Files → Entries
opened root capacity files = trim capacity (kept root capacity (found_behind root files))

-- each file that is kept is as it was
abbrev pub KeepsKept : List ℕ → ℕ → Files → Files → Type 0
KeepsKept root capacity old new = (k bytes : List ℕ) → is_kept capacity (k, length bytes) ≡ true
    → file_at old (root ++ k) ≡ Some bytes → file_at new (root ++ k) ≡ Some bytes

-- the file of each key that an opening lists of the old files is as it was
abbrev pub KeepsOpened : List ℕ → ℕ → Files → Files → Type 0
KeepsOpened root capacity old new =
    AllByRecursion (λ e. file_at new (root ++ e.0) ≡ file_at old (root ++ e.0)) (opened root capacity old)

-- The files under the root are those of the list, in its order, but for such as are no key's.
abbrev pub InStep : List ℕ → Files → Entries → Type 0
InStep root files entries = filter (λ e. is_key e.0) (listing root files) ≡ entries

-- a list that is in step with the files and fits is what an opening lists
abbrev pub Reopens : Type 0
Reopens = (root : List ℕ) (capacity : ℕ) (files : Files) (entries : Entries) → InStep root files entries
    → total entries ≤ capacity → opened root capacity files ≡ entries
