-- What a client keeps of its toolchains, and why a call of it failed.
use Rattle.std.specs.Prelude.{◌≡◌, ℕ, List, Some, IsSome}
use Rattle.disk_cache.specs.WeakMaps.{Weak, weak_map_at}
use Rattle.folders.specs.Files.{Same}
use Rattle.folders.specs.Held.{Held, Holds, Became, Lacks}
use Rattle.toolchain_cache.specs.Archives.{Archives, IsArchiveStore}
use Rattle.dist_types.specs.CacheError.{error_of}
use Rattle.dist_types.specs.declared.cache_error.Error.{Error}
use Rattle.dist_types.specs.declared.cache_error.Error.TheVariants.{Memory as NoMemory}
use Rattle.dist_types.specs.declared.folder_fault.FolderFault.{FolderFault}
use Rattle.dist_types.specs.declared.folder_fault.FolderFault.TheVariants.{Missing, Failed}
use Rattle.dist_types.specs.declared.folder_fault.FolderFault.TheVariants.{Memory as OutOfMemory}
use Rattle.dist_types.specs.Cause.{Rose}
use Rattle.disk_cache.specs.declared.config.DistToolchainConfig.{DistToolchainConfig}
use Rattle.disk_cache.specs.declared.custom.Taken.{Taken}
use Rattle.dist_types.specs.declared.toolchain_error.ToolchainError.{ToolchainError}
use Rattle.dist_types.specs.declared.toolchain_error.ToolchainError.TheVariants.{Cache, Memory}
use Rattle.disk_cache.specs.Names.{cache_path}

-- The path that a client's files lie below; its cache of archives, by its capacity and its list; the weak
-- map; what is configured for compilers; the configured archives whose SHA-256 was taken, in the order of
-- taking; what the folder tells; and how many inserts of archives failed.
pub record Toolchains : Type 0 where
  pub dir : List ℕ
  pub capacity : ℕ
  pub archives : Archives
  pub weak : Weak
  pub configs : List DistToolchainConfig
  pub taken : List Taken
  pub held : Held
  pub spoiled : ℕ

-- What holds of it, whatever failed so far: each listed archive has a file of its size whose SHA-256 is its
-- id, and the file of the weak map is an object of texts, or is not there, where files are told. So no later
-- opening answers BadWeakMap.
pub record IsClient (t : Toolchains) : Type 0 where
  pub stands : IsArchiveStore (cache_path t.dir) t.capacity t.archives t.held
  pub reads : Holds t.held (λ files. IsSome (weak_map_at t.dir files))

-- the file of the weak map says what is recorded
abbrev pub IsWritten : Toolchains → Type 0
IsWritten t = Holds t.held (λ files. weak_map_at t.dir files ≡ Some t.weak)

-- a client's, with other archives, another weak map, other archives taken, and what its folder tells then
abbrev pub with_state : Toolchains → Archives → Weak → List Taken → Held → Toolchains
with_state t archives weak taken held =
    record {
      dir = t.dir;
      capacity = t.capacity;
      archives = archives;
      weak = weak;
      configs = t.configs;
      taken = taken;
      held = held;
      spoiled = t.spoiled;
    }

-- the same, where so many inserts failed
abbrev pub with_spoiled : Toolchains → ℕ → Toolchains
with_spoiled t spoiled = record t { spoiled = spoiled }

-- only the folder's state may differ
abbrev pub with_held : Toolchains → Held → Toolchains
with_held t held = with_state t t.archives t.weak t.taken held

-- ---- faults

-- a refusal of the cache, as the client's toolchains tell it
abbrev pub toolchain_error : Error → ToolchainError
toolchain_error NoMemory = Memory
toolchain_error e = Cache e

-- a fault of the folder, as they tell it
abbrev pub fault_error : FolderFault → ToolchainError
fault_error fault = toolchain_error (error_of fault)

-- Why a file beside the archives was not read, and that nothing changed: Missing where there is none, Failed
-- only where the count rose.
abbrev pub ReadFails : List ℕ → FolderFault → Held → Held → Type 0
ReadFails path Missing old new = (new ≡ old) × Holds old (Lacks path)
ReadFails path Failed old new = Became Same old.files new.files × Rose old.faults new.faults
ReadFails path OutOfMemory old new = Became Same old.files new.files
