-- What an opening of a client's toolchains finds, and why it fails.
use Rattle.std.specs.Prelude.{◌≡◌, ℕ, false, List, ◌++◌, None, Some, IsSome, Err}
use Rattle.std.specs.List.{list_any}
use Rattle.std.specs.Str.{bytes_eq}
use Rattle.folders.specs.Files.{Files, file_at, front}
use Rattle.folders.specs.Held.{Held, Holds}
use Rattle.toolchain_cache.specs.Archives.{Archives, archives_in, archive_path}
use Rattle.lru_disk_cache.specs.Store.{IoCause}
use Rattle.dist_types.specs.declared.cache_error.Error.TheVariants.{Io}
use Rattle.disk_cache.specs.declared.config.DistToolchainConfig.{DistToolchainConfig}
use Rattle.dist_types.specs.declared.toolchain_error.ToolchainError.{ToolchainError}
use Rattle.dist_types.specs.declared.toolchain_error.ToolchainError.TheVariants.{Cache, BadWeakMap}
use Rattle.dist_types.specs.declared.toolchain_error.ToolchainError.TheVariants.{DuplicateConfig}
use Rattle.dist_types.specs.declared.toolchain_error.ToolchainError.TheVariants.{ConflictConfig, Memory}
use Rattle.disk_cache.specs.Configs.{config_verdict}
use Rattle.disk_cache.specs.Names.{IsBeside, cache_path, temp_dir, temp_path, weak_path}
use Rattle.disk_cache.specs.Saving.{OldOrBegun}
use Rattle.disk_cache.specs.WeakMaps.{weak_map_at}

-- no file stands below a directory
abbrev pub IsEmpty : List ℕ → Files → Type 0
IsEmpty under files = (k : List ℕ) → file_at files (front under ++ k) ≡ None

-- no file stands below a path but those of these archives
abbrev pub HasOnly : List ℕ → Archives → Files → Type 0
HasOnly path archives files = (k : List ℕ)
    → list_any (λ a. bytes_eq (front path ++ k) (archive_path path a.0)) archives ≡ false
    → file_at files (front path ++ k) ≡ None

-- no path below one is below the other
abbrev pub AreApart : List ℕ → List ℕ → Type 0
AreApart path under = (k : List ℕ) → IsBeside path (front under ++ k)

-- the archives of a cache are as they were
abbrev pub SameArchives : List ℕ → Files → Files → Type 0
SameArchives path old new = archives_in path new ≡ archives_in path old

-- the files are as they were, but for the client's own
abbrev pub ButOwn : List ℕ → Files → Files → Type 0
ButOwn dir old new =
    (q : List ℕ) → IsBeside (cache_path dir) q → IsBeside (temp_dir dir) q
    → bytes_eq (weak_path dir) q ≡ false → file_at new q ≡ file_at old q

-- What a refused opening leaves of the files. Those of the cache, and those of what was still being written
-- but the weak map's, are removed or as they were. The weak map's is as it was, or there was none and nothing
-- is recorded in it. Each other is as it was.
pub record LeftOpen (dir : List ℕ) (old new : Files) : Type 0 where
  pub others : ButOwn dir old new
  pub removed : (q bytes : List ℕ) → bytes_eq (temp_path dir) q ≡ false → bytes_eq (weak_path dir) q ≡ false
      → file_at new q ≡ Some bytes → file_at old q ≡ Some bytes
  pub weak : OldOrBegun dir old new

-- what is configured is refused, behind a weak map that was read
abbrev pub RefusesConfigs : ToolchainError → List ℕ → List DistToolchainConfig → Held → Type 0
RefusesConfigs e dir configs old =
    (config_verdict configs ≡ Err e) × Holds old (λ files. IsSome (weak_map_at dir files))

-- Why an opening failed. A fault of the folder and want of memory hide what comes behind them; want of memory
-- leaves the count of faults as it was.
abbrev pub OpeningFails : ToolchainError → List ℕ → List DistToolchainConfig → Held → Held → Type 0
OpeningFails (Cache (Io fault)) dir configs old new = IoCause fault old new
OpeningFails BadWeakMap dir configs old new = Holds old (λ files. weak_map_at dir files ≡ None)
OpeningFails DuplicateConfig dir configs old new = RefusesConfigs DuplicateConfig dir configs old
OpeningFails ConflictConfig dir configs old new = RefusesConfigs ConflictConfig dir configs old
OpeningFails Memory dir configs old new = new.faults ≡ old.faults
OpeningFails other dir configs old new = ⊥
