-- Archives that are configured for compilers.
use Rattle.std.specs.Prelude.{◌≡◌, ℕ, List, [], ◌∷◌, ◌++◌, if◌then◌else◌, Option, Some, None}
use Rattle.std.specs.Prelude.{Result, Ok, Err, String, string_bytes}
use Rattle.std.specs.Str.{bytes_eq}
use Rattle.std.specs.declared.alloc.Global.{Global}
use Rattle.folders.specs.Files.{file_at, Same}
use Rattle.folders.specs.Held.{Holds, Became}
use Rattle.toolchain_cache.specs.Archives.{id_of}
use Rattle.dist_types.specs.declared.cache_error.Error.TheVariants.{Io}
use Rattle.dist_types.specs.declared.folder_fault.FolderFault.TheVariants.{Memory as OutOfMemory}
use Rattle.dist_types.specs.declared.fault.Memory.{Memory as OutOfMem}
use Rattle.disk_cache.specs.declared.config.CustomToolchain.{CustomToolchain}
use Rattle.disk_cache.specs.declared.custom.Custom.{Custom}
use Rattle.disk_cache.specs.declared.custom.Taken.{Taken}
use Rattle.dist_types.specs.declared.toolchain_error.ToolchainError.{ToolchainError}
use Rattle.dist_types.specs.declared.toolchain_error.ToolchainError.TheVariants.{Cache, Memory}
use Rattle.disk_cache.specs.Toolchains.{Toolchains, with_state, with_held, ReadFails}

-- what was taken for a compiler
abbrev pub taken_of : List ℕ → List Taken → Option Taken
taken_of path [] = None
taken_of path (t ∷ ts) = if bytes_eq path t.compiler then Some t else taken_of path ts

-- the later of two
abbrev pub later_of : Option Taken → Option Taken → Option Taken
later_of earlier None = earlier
later_of earlier (Some t) = Some t

abbrev pub if_id : List ℕ → Taken → Option Taken
if_id id t = if bytes_eq id t.id then Some t else None

-- the last of this id that was taken
abbrev pub last_taken : List ℕ → List Taken → Option Taken
last_taken id [] = None
last_taken id (t ∷ ts) = later_of (if_id id t) (last_taken id ts)

-- what was taken of an archive for a compiler
abbrev pub taking : List ℕ → List ℕ → List ℕ → Taken
taking path id archive = record { compiler = path; id = id; archive = archive }

-- what is told of a configured archive: its id, the compiler's path in it, and its name
abbrev pub custom_as : List ℕ → CustomToolchain → Custom
custom_as id c = record { id = id; inside = c.compiler_executable; archive = c.archive }

-- an id, the compiler's path in its archive, and the archive's name
abbrev pub custom_seen : (List ℕ × String Global × String Global) → Custom
custom_seen x = record { id = x.0; inside = string_bytes x.1; archive = string_bytes x.2 }

abbrev pub custom_told : Result (List ℕ × String Global × String Global) ToolchainError
    → Result Custom ToolchainError
custom_told (Ok x) = Ok (custom_seen x)
custom_told (Err e) = Err e

abbrev pub customs_seen : Option (Result (List ℕ × String Global × String Global) ToolchainError)
    → Option (Result Custom ToolchainError)
customs_seen None = None
customs_seen (Some answer) = Some (custom_told answer)

-- a copy of the archive that is configured, where one is, unless memory ran out
abbrev pub IsCustom : Option CustomToolchain → Option (Result CustomToolchain OutOfMem) → Type 0
IsCustom None None = Unit {0}
IsCustom None (Some copy) = ⊥
IsCustom (Some c) None = ⊥
IsCustom (Some c) (Some (Ok copy)) = copy ≡ c
IsCustom (Some c) (Some (Err e)) = Unit {0}

-- why a configured archive was not read; nothing but the folder's state changes, and want of memory leaves
-- the count of faults as it was
abbrev pub Unread : List ℕ → ToolchainError → Toolchains → Toolchains → Type 0
Unread archive (Cache (Io OutOfMemory)) old new = ⊥
Unread archive (Cache (Io fault)) old new = ReadFails archive fault old.held new.held
    × (new ≡ with_held old new.held)
Unread archive Memory old new = Became Same old.held.files new.held.files × (new ≡ with_held old new.held)
    × (new.held.faults ≡ old.held.faults)
Unread archive other old new = ⊥

-- A configured archive was read, and its SHA-256 taken.
pub record IsTaken (path : List ℕ) (c : CustomToolchain) (answer : Custom)
    (old new : Toolchains) : Type 0 where
  pub bytes : List ℕ
  pub content : Holds old.held (λ files. file_at files c.archive ≡ Some bytes)
  pub gives : answer ≡ custom_as (id_of bytes) c
  pub changes : new ≡ with_state old old.archives old.weak
      (old.taken ++ taking path (id_of bytes) c.archive ∷ []) old.held

-- What a configured archive is for a compiler: where its SHA-256 was taken that is given and nothing is read,
-- and else the archive is read.
abbrev pub Takes : Option Taken → List ℕ → CustomToolchain → Result Custom ToolchainError → Toolchains
    → Toolchains → Type 0
Takes (Some t) path c (Ok answer) old new = (answer ≡ custom_as t.id c) × (new ≡ old)
Takes (Some t) path c (Err e) old new = (e ≡ Memory) × (new ≡ old)
Takes None path c (Ok answer) old new = IsTaken path c answer old new
Takes None path c (Err e) old new = Unread c.archive e old new

-- What is told of the archive that is configured for a compiler: nothing exactly where none is.
abbrev pub TellsCustom : Option CustomToolchain → List ℕ → Option (Result Custom ToolchainError) → Toolchains
    → Toolchains → Type 0
TellsCustom None path None old new = new ≡ old
TellsCustom None path (Some answer) old new = ⊥
TellsCustom (Some c) path None old new = ⊥
TellsCustom (Some c) path (Some answer) old new = Takes (taken_of path old.taken) path c answer old new
