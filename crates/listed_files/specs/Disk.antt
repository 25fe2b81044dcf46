-- What stands on a disk behind its list, and what each step leaves.
use Rattle.std.specs.Prelude.{◌≡◌, ℕ, ◌<◌, ◌^◌, nat_le, if◌then◌else◌, false, true, List, [], ◌∷◌, ◌++◌}
use Rattle.std.specs.Prelude.{◌⊎◌, Some}
use Rattle.std.specs.List.{AllByRecursion}
use Rattle.std.specs.Map.{remove_entry}
use Rattle.std.specs.Str.{bytes_eq}
use Rattle.folders.specs.Files.{Files, file_at, size_at, put, without, moved}
use Rattle.folders.specs.Held.{Held, Holds, Became, BecameBy}
use Rattle.listed_files.specs.Key.{is_key, temp_name, insert_name}
use Rattle.listed_files.specs.Entries.{Entries, Listed, total, trim, IsEnd}

-- the files that a folder tells became so, or exactly what this makes of them
abbrev pub Turns : (Files → Files → Type 0) → Held → Held → Type 0
Turns part old new = Became part old.files new.files

abbrev pub TurnsBy : (Files → Files) → Held → Held → Type 0
TurnsBy done old new = BecameBy done old.files new.files

-- each entry has a file of its size
abbrev pub Backed : List ℕ → Files → Entries → Type 0
Backed root files entries = AllByRecursion (λ e. size_at files (root ++ e.0) ≡ Some e.1) entries

-- each entry's key is one
abbrev pub AllKeys : Entries → Type 0
AllKeys entries = AllByRecursion (λ e. is_key e.0 ≡ true) entries

-- Every listed key is one, and has a file of its size where files are told.
pub record Stands (root : List ℕ) (held : Held) (entries : Entries) : Type 0 where
  pub keys : AllKeys entries
  pub backed : Holds held (λ files. Backed root files entries)

-- no entry has its file at this path
abbrev pub Avoids : List ℕ → List ℕ → Entries → Type 0
Avoids root path entries = AllByRecursion (λ e. bytes_eq (root ++ e.0) path ≡ false) entries

-- the file at each path that is no entry's is as it was
abbrev pub ButListed : List ℕ → Entries → Files → Files → Type 0
ButListed root entries old new = (q : List ℕ) → Avoids root q entries → file_at new q ≡ file_at old q

-- the file at each path but these two, and that is no entry's, is as it was
abbrev pub ButThese : List ℕ → List ℕ → List ℕ → Entries → Files → Files → Type 0
ButThese root from path entries old new = (q : List ℕ) → bytes_eq from q ≡ false → bytes_eq path q ≡ false
    → Avoids root q entries → file_at new q ≡ file_at old q

-- it lies under a root, and is the path of no key's file
abbrev pub IsKeyless : List ℕ → List ℕ → Type 0
IsKeyless root path = (name : List ℕ) × (is_key name ≡ false) × (path ≡ root ++ name)

-- it is the path of a reservation's temporary file under a root
abbrev pub IsTemp : List ℕ → List ℕ → Type 0
IsTemp root path = (n : ℕ) × (n < 2 ^ 64) × (path ≡ root ++ temp_name n)

-- the file of each of these entries is as it was
abbrev pub Keeps : List ℕ → Entries → Files → Files → Type 0
Keeps root entries old new = AllByRecursion (λ e. file_at new (root ++ e.0) ≡ file_at old (root ++ e.0))
    entries

-- it is the path of an insert's temporary file under a root
abbrev pub IsInsertTemp : List ℕ → List ℕ → Type 0
IsInsertTemp root path = (n : ℕ) × (n < 2 ^ 64) × (path ≡ root ++ insert_name n)

-- it is no path of a reservation's temporary file under a root
abbrev pub IsNoTemp : List ℕ → List ℕ → Type 0
IsNoTemp root q = ¬ (IsTemp root q)

-- it is no path of an insert's temporary file under a root, and not this one
abbrev pub IsBeside : List ℕ → List ℕ → List ℕ → Type 0
IsBeside root path q = (¬ (IsInsertTemp root q)) × (bytes_eq path q ≡ false)

-- the temporary file of each insert but that of this number is as it was
abbrev pub ButInsert : List ℕ → ℕ → Files → Files → Type 0
ButInsert root number old new = (n : ℕ) → ¬ (n ≡ number) → n < 2 ^ 64
    → file_at new (root ++ insert_name n) ≡ file_at old (root ++ insert_name n)

-- that of each of a lower number is as it was
abbrev pub KeepsSpoiled : List ℕ → ℕ → Files → Files → Type 0
KeepsSpoiled root spoiled old new = (n : ℕ) → n < spoiled → n < 2 ^ 64
    → file_at new (root ++ insert_name n) ≡ file_at old (root ++ insert_name n)

-- Entries went from the front, and only where those left were past the limit. What is left stands, and no
-- other file changed.
pub record Drops (root : List ℕ) (limit : ℕ) (old new : Listed) (before after : Held) : Type 0 where
  pub capacity : new.capacity ≡ old.capacity
  pub rest : IsEnd new.entries old.entries
  pub needed : trim limit new.entries ≡ trim limit old.entries
  pub stands : Stands root after new.entries
  pub others : Became (ButListed root old.entries) before.files after.files
  pub kept : Became (Keeps root new.entries) before.files after.files

-- the entries without a key
abbrev pub without_key : List ℕ → Entries → Entries
without_key key entries = remove_entry (bytes_eq key) entries

-- the entries besides a key that stay where that is stored, within a limit
abbrev pub staying : List ℕ → ℕ → Entries → Entries
staying key limit entries = trim limit (without_key key entries)

-- the entries once a key is stored with a size, the others within a limit
abbrev pub stored : List ℕ → ℕ → ℕ → Entries → Entries
stored key size limit entries = staying key limit entries ++ (key, size) ∷ []

-- What a failed insert leaves: the list as it was, or the key out and then some of the least recent, none
-- more than had to go.
abbrev pub Left : List ℕ → ℕ → Entries → Entries → Type 0
Left key limit old new = (new ≡ old)
    ⊎ (IsEnd new (without_key key old) × (trim limit new ≡ trim limit (without_key key old)))

-- the entries that go from the front so that the others fit a limit
abbrev pub dropped : ℕ → Entries → Entries
dropped limit [] = []
dropped limit (e ∷ es) = if nat_le (total (e ∷ es)) limit then [] else e ∷ dropped limit es

-- without the files of these entries
abbrev pub without_each : List ℕ → Entries → Files → Files
without_each root [] files = files
without_each root (e ∷ es) files = without_each root es (without (root ++ e.0) files)

-- with the files of these entries gone, and the file of one path at another
abbrev pub files_placed : List ℕ → List ℕ → List ℕ → Entries → Files → Files
files_placed root from path gone files = moved from path (without_each root gone files)

-- the same, where bytes are written under that one path first
abbrev pub files_stored : List ℕ → List ℕ → List ℕ → List ℕ → Entries → Files → Files
files_stored root from path bytes gone files = files_placed root from path gone (put from bytes files)

-- the files once an entry is announced: its temporary file is there with no byte, and those of these entries
-- are gone
abbrev pub files_prepared : List ℕ → List ℕ → Entries → Files → Files
files_prepared root temp gone files = without_each root gone (put temp [] files)
