-- What a folder tells of itself, and what a call leaves.
use Rattle.std.specs.Prelude.{◌≡◌, ℕ, ◌≤◌, List, Option, Some, None, Result, Ok, Err}
use Rattle.std.specs.Option.{option_map}
use Rattle.dist_types.specs.Cause.{Rose}
use Rattle.folders.specs.Files.{Files, file_at}
use Rattle.dist_types.specs.declared.folder_fault.FolderFault.{FolderFault}
use Rattle.dist_types.specs.declared.folder_fault.FolderFault.TheVariants.{Missing, Failed, Memory}

-- the files, where a folder tells them, and how often it failed
pub record Held : Type 0 where
  pub files : Option Files
  pub faults : ℕ

-- what holds of the files, where they are told
abbrev pub Holds : Held → (Files → Type 0) → Type 0
Holds held P = (files : Files) → held.files ≡ Some files → P files

-- there is no file at the path
abbrev pub Lacks : List ℕ → Files → Type 0
Lacks path files = file_at files path ≡ None

-- such a call always finds what it wants
abbrev pub Never : Files → Type 0
Never files = ⊥

-- the files became so, and are told where they were
abbrev pub Became : (Files → Files → Type 0) → Option Files → Option Files → Type 0
Became part None new = new ≡ None
Became part (Some old) new = (files : Files) × (new ≡ Some files) × part old files

-- A call does this where it succeeds, and its files were not lacking. Missing says that they were, and leaves
-- all. Failed and Memory leave a part of what the call does; Failed comes only where the count rose, and
-- Memory leaves it.
abbrev pub Changes : {T : Type 0} → (Files → Type 0) → (Files → Files) → (Files → Files → Type 0)
    → Result T FolderFault → Held → Held → Type 0
Changes lacking done part (Ok x) old new =
    (new ≡ record { files = option_map done old.files; faults = old.faults })
    × Holds old (λ files. ¬ (lacking files))
Changes lacking done part (Err Missing) old new = (new ≡ old) × Holds old lacking
Changes lacking done part (Err Failed) old new =
    Became part old.files new.files × Rose old.faults new.faults × (old.faults ≤ new.faults)
Changes lacking done part (Err Memory) old new = Became part old.files new.files × (new.faults ≡ old.faults)

-- why a call that always finds what it wants failed: never because a file is missing
abbrev pub IsFault : FolderFault → Type 0
IsFault Missing = ⊥
IsFault Failed = Unit {0}
IsFault Memory = Unit {0}

-- the files became exactly what this makes of them
abbrev pub BecameBy : (Files → Files) → Option Files → Option Files → Type 0
BecameBy done old new = new ≡ option_map done old
