-- What writing and reading the file of the weak map leaves, and why it fails.
use Rattle.std.specs.Prelude.{◌≡◌, ◌⊎◌, ◌≤◌, ℕ, false, List, [], Some, None}
use Rattle.std.specs.Str.{bytes_eq}
use Rattle.dist_types.specs.Cause.{Rose}
use Rattle.folders.specs.Files.{Files, file_at}
use Rattle.folders.specs.Held.{Held, Holds}
use Rattle.lru_disk_cache.specs.Store.{IoCause}
use Rattle.dist_types.specs.declared.cache_error.Error.TheVariants.{Io}
use Rattle.dist_types.specs.declared.folder_fault.FolderFault.{FolderFault}
use Rattle.dist_types.specs.declared.folder_fault.FolderFault.TheVariants.{Missing, Failed}
use Rattle.dist_types.specs.declared.folder_fault.FolderFault.TheVariants.{Memory as OutOfMemory}
use Rattle.dist_types.specs.declared.toolchain_error.ToolchainError.{ToolchainError}
use Rattle.dist_types.specs.declared.toolchain_error.ToolchainError.TheVariants.{Cache, BadWeakMap, Memory}
use Rattle.disk_cache.specs.Names.{weak_path}
use Rattle.disk_cache.specs.WeakMaps.{weak_map_at}

-- the file at each path but these two is as it was
abbrev pub ButTwo : List ℕ → List ℕ → Files → Files → Type 0
ButTwo one two old new = (q : List ℕ) → bytes_eq one q ≡ false → bytes_eq two q ≡ false
    → file_at new q ≡ file_at old q

-- the file of the weak map is as it was, or an empty weak map
abbrev pub OldOrEmpty : List ℕ → Files → Files → Type 0
OldOrEmpty dir old new =
    (file_at new (weak_path dir) ≡ file_at old (weak_path dir)) ⊎ (weak_map_at dir new ≡ Some [])

-- the file of the weak map is as it was, or there was none and it is an empty weak map
abbrev pub OldOrBegun : List ℕ → Files → Files → Type 0
OldOrBegun dir old new = (file_at new (weak_path dir) ≡ file_at old (weak_path dir))
    ⊎ ((file_at old (weak_path dir) ≡ None) × (weak_map_at dir new ≡ Some []))

-- why a file was not saved: Failed only where the count rose, Missing only where files are not told; the
-- count never falls, and want of memory leaves it
abbrev pub SaveFails : FolderFault → Held → Held → Type 0
SaveFails Missing old new = (old.files ≡ None) × (old.faults ≤ new.faults)
SaveFails Failed old new = Rose old.faults new.faults × (old.faults ≤ new.faults)
SaveFails OutOfMemory old new = new.faults ≡ old.faults

-- why a weak map was not begun
abbrev pub BeginFails : ToolchainError → Held → Held → Type 0
BeginFails (Cache (Io fault)) old new = IoCause fault old new × (old.faults ≤ new.faults)
BeginFails Memory old new = new.faults ≡ old.faults
BeginFails other old new = ⊥

-- why a weak map was not loaded
abbrev pub LoadFails : List ℕ → ToolchainError → Held → Held → Type 0
LoadFails dir (Cache (Io fault)) old new = IoCause fault old new × (old.faults ≤ new.faults)
LoadFails dir BadWeakMap old new = Holds old (λ files. weak_map_at dir files ≡ None)
    × (old.faults ≤ new.faults)
LoadFails dir Memory old new = new.faults ≡ old.faults
LoadFails dir other old new = ⊥
