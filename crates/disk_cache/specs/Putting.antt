-- Finding a toolchain, and putting one.
use Rattle.std.specs.Prelude.{◌≡◌, ◌⊎◌, ℕ, List, [], length, Option, Some, None, option_map, IsSome, Result}
use Rattle.std.specs.Prelude.{Ok, Err, OnOk, String, Vec, string_bytes}
use Rattle.std.specs.Map.{lookup}
use Rattle.std.specs.Str.{bytes_eq}
use Rattle.std.specs.declared.alloc.Global.{Global}
use Rattle.dist_types.specs.Cause.{Rose}
use Rattle.path_pkg.specs.Append.{Appends}
use Rattle.folders.specs.Files.{file_at}
use Rattle.folders.specs.Held.{Holds, Became}
use Rattle.toolchain_cache.specs.Archives.{id_of, archive_path}
use Rattle.toolchain_cache.specs.Archiving.{with_archive, StoreFails}
use Rattle.listed_files.specs.Entries.{promoted_key}
use Rattle.lru_disk_cache.specs.Store.{IoCause}
use Rattle.listed_files.specs.Calls.{Uncounted}
use Rattle.lru_disk_cache.specs.Spoiling.{MaySpoil}
use Rattle.dist_types.specs.declared.cache_error.Error.{Error}
use Rattle.dist_types.specs.declared.cache_error.Error.TheVariants.{Io, FileNotInCache}
use Rattle.dist_types.specs.declared.folder_fault.FolderFault.TheVariants.{Missing}
use Rattle.disk_cache.specs.declared.config.DistToolchainConfig.{DistToolchainConfig}
use Rattle.disk_cache.specs.declared.config.DistToolchainConfig.TheVariants.{PathOverride, NoDist}
use Rattle.disk_cache.specs.declared.config.CustomToolchain.{CustomToolchain}
use Rattle.disk_cache.specs.declared.custom.Custom.{Custom}
use Rattle.disk_cache.specs.declared.custom.Placed.{Placed}
use Rattle.disk_cache.specs.declared.custom.Placed.TheVariants.{Alone, Configured}
use Rattle.disk_cache.specs.declared.custom.Taken.{Taken}
use Rattle.dist_types.specs.declared.toolchain_error.ToolchainError.{ToolchainError}
use Rattle.dist_types.specs.declared.toolchain_error.ToolchainError.TheVariants.{Cache, Disabled}
use Rattle.dist_types.specs.declared.toolchain_error.ToolchainError.TheVariants.{PackagerFailed, Memory}
use Rattle.disk_cache.specs.Configs.{config_of}
use Rattle.disk_cache.specs.Custom.{Takes, Unread, taken_of, last_taken}
use Rattle.disk_cache.specs.InStep.{KeepsStep}
use Rattle.disk_cache.specs.Names.{cache_path}
use Rattle.disk_cache.specs.Toolchains.{Toolchains, with_state, with_held, with_spoiled, toolchain_error}
use Rattle.disk_cache.specs.WeakMaps.{recorded_id, with_recorded, weak_map_at}

-- ---- answers, seen without what they are kept in

abbrev pub bytes_seen : Result (Vec ℕ Global) ToolchainError → Result (List ℕ) ToolchainError
bytes_seen (Ok v) = Ok v.items
bytes_seen (Err e) = Err e

abbrev pub archives_seen : Result (Option (Vec ℕ Global)) ToolchainError
    → Result (Option (List ℕ)) ToolchainError
archives_seen (Ok o) = Ok (option_map (λ v. v.items) o)
archives_seen (Err e) = Err e

abbrev pub placed_as : (List ℕ × Option (String Global × String Global)) → Placed
placed_as (id, None) = Alone id
placed_as (id, Some (inside, archive)) =
    Configured (record { id = id; inside = string_bytes inside; archive = string_bytes archive })

abbrev pub placed_seen : Result (List ℕ × Option (String Global × String Global)) ToolchainError
    → Result Placed ToolchainError
placed_seen (Ok x) = Ok (placed_as x)
placed_seen (Err e) = Err e

-- ---- get_toolchain

-- The archive of an id was listed, and became the most recent; where files are told these are its bytes.
pub record IsFound (id bytes : List ℕ) (old new : Toolchains) : Type 0 where
  pub listed : IsSome (lookup (bytes_eq id) old.archives)
  pub content : Holds old.held (λ files. file_at files (archive_path (cache_path old.dir) id) ≡ Some bytes)
  pub digest : Holds old.held (λ files. id_of bytes ≡ id)
  pub changes : new ≡ with_state old (promoted_key id old.archives) old.weak old.taken new.held
  pub steady : new.held.faults ≡ old.held.faults

-- the list is as it was, or the archive became the most recent
abbrev pub KeptOrFound : List ℕ → Toolchains → Toolchains → Type 0
KeptOrFound id old new =
    (new ≡ with_held old new.held)
    ⊎ (new ≡ with_state old (promoted_key id old.archives) old.weak old.taken new.held)

-- Why a listed archive was not read: it became the most recent all the same, or memory ran out, which is told
-- of no archive that is not listed.
abbrev pub Unfound : List ℕ → ToolchainError → Toolchains → Toolchains → Type 0
Unfound id (Cache (Io fault)) old new =
    IoCause fault old.held new.held
    × (new ≡ with_state old (promoted_key id old.archives) old.weak old.taken new.held)
Unfound id Memory old new =
    KeptOrFound id old new × IsSome (lookup (bytes_eq id) old.archives)
    × (new.held.faults ≡ old.held.faults)
Unfound id other old new = ⊥

-- the archive of an id in the cache, which keeps the list in step: none exactly where it is not listed
abbrev pub FindsArchive : List ℕ → Result (Option (List ℕ)) ToolchainError → Toolchains → Toolchains → Type 0
FindsArchive id (Ok None) old new = (lookup (bytes_eq id) old.archives ≡ None) × (new ≡ old)
FindsArchive id (Ok (Some bytes)) old new = IsFound id bytes old new × KeepsStep old new
FindsArchive id (Err e) old new = Unfound id e old new

-- what a refused look into the cache comes to: none where the archive is not listed
abbrev pub found_of : Error → Result (Option (List ℕ)) ToolchainError
found_of FileNotInCache = Ok None
found_of e = Err (toolchain_error e)

-- a configured archive is read as it is
abbrev pub ReadsCustom : List ℕ → Result (Option (List ℕ)) ToolchainError → Toolchains → Toolchains → Type 0
ReadsCustom archive (Ok None) old new = ⊥
ReadsCustom archive (Ok (Some bytes)) old new =
    Holds old.held (λ files. file_at files archive ≡ Some bytes) × (new ≡ old)
ReadsCustom archive (Err e) old new = Unread archive e old new

-- The archive of an id: the configured one of this id that was taken last, else that in the cache.
abbrev pub GetsArchive : Option Taken → List ℕ → Result (Option (List ℕ)) ToolchainError → Toolchains
    → Toolchains → Type 0
GetsArchive (Some t) id answer old new = ReadsCustom t.archive answer old new
GetsArchive None id answer old new = FindsArchive id answer old new

abbrev pub Gets : List ℕ → Result (Option (List ℕ)) ToolchainError → Toolchains → Toolchains → Type 0
Gets id answer old new = GetsArchive (last_taken id old.taken) id answer old new

-- ---- put_toolchain

-- The archive of a recorded id is to be packaged: it is not listed, or, where files are not told, its file is
-- missing.
abbrev pub IsToPackage : List ℕ → Toolchains → Toolchains → Type 0
IsToPackage id old new =
    ((lookup (bytes_eq id) old.archives ≡ None) × (new ≡ old))
    ⊎ ((old.held.files ≡ None)
    × (new ≡ with_state old (promoted_key id old.archives) old.weak old.taken new.held))

-- what a refused look for a recorded archive comes to: none where it is to be packaged
abbrev pub looked_of : Error → Result (Option (List ℕ)) ToolchainError
looked_of FileNotInCache = Ok None
looked_of (Io Missing) = Ok None
looked_of e = Err (toolchain_error e)

-- why a recorded archive was not read; a missing one is packaged
abbrev pub Unlooked : List ℕ → ToolchainError → Toolchains → Toolchains → Type 0
Unlooked id (Cache (Io Missing)) old new = ⊥
Unlooked id e old new = Unfound id e old new

-- The third case: the recorded id whose archive is listed and is read without a fault; none where one is to
-- be packaged.
abbrev pub LooksUp : Option (List ℕ) → Result (Option (List ℕ)) ToolchainError → Toolchains → Toolchains
    → Type 0
LooksUp None (Ok None) old new = new ≡ old
LooksUp None (Ok (Some id)) old new = ⊥
LooksUp None (Err e) old new = ⊥
LooksUp (Some id) (Ok None) old new = IsToPackage id old new
LooksUp (Some id) (Ok (Some found)) old new = (found ≡ id) × ((bytes : List ℕ) × IsFound id bytes old new)
    × KeepsStep old new
LooksUp (Some id) (Err e) old new = Unlooked id e old new

-- the file of the weak map is as it was, or says that an id is recorded under a key
abbrev pub KeptOrRecorded : List ℕ → List ℕ → Toolchains → Toolchains → Type 0
KeptOrRecorded key id old new = Became (λ f g. (weak_map_at old.dir g ≡ weak_map_at old.dir f)
    ⊎ (weak_map_at old.dir g ≡ Some (with_recorded key id old.weak))) old.held.files new.held.files

-- An id is recorded under a weak key, and the file says it.
pub record IsRecorded (key id : List ℕ) (old new : Toolchains) : Type 0 where
  pub changes : new ≡ with_state old old.archives (with_recorded key id old.weak) old.taken new.held
  pub written : Holds new.held (λ files. weak_map_at old.dir files ≡ Some (with_recorded key id old.weak))
  pub steady : new.held.faults ≡ old.held.faults

-- Why it was not: the key stays unrecorded, and the file says the old or the new.
abbrev pub Unrecorded : List ℕ → List ℕ → ToolchainError → Toolchains → Toolchains → Type 0
Unrecorded key id (Cache (Io fault)) old new =
    IoCause fault old.held new.held × KeptOrRecorded key id old new × (new ≡ with_held old new.held)
Unrecorded key id Memory old new =
    KeptOrRecorded key id old new × (new ≡ with_held old new.held) × (new.held.faults ≡ old.held.faults)
Unrecorded key id other old new = ⊥

abbrev pub Records : List ℕ → List ℕ → Result (Unit {0}) ToolchainError → Toolchains → Toolchains → Type 0
Records key id (Ok done) old new = IsRecorded key id old new
Records key id (Err e) old new = Unrecorded key id e old new

-- Bytes were stored under their SHA-256, as the most recent archive.
pub record IsStored (bytes : List ℕ) (old new : Toolchains) : Type 0 where
  pub changes : new ≡ with_state old (with_archive old.capacity (id_of bytes) (length bytes) old.archives)
      old.weak old.taken new.held
  pub content : Holds new.held
      (λ files. file_at files (archive_path (cache_path old.dir) (id_of bytes)) ≡ Some bytes)
  pub steady : new.held.faults ≡ old.held.faults

-- They were not, for this error of the cache, which counts an insert that failed, where it is no refusal;
-- want of memory leaves the count of faults as it was.
pub record IsUnstored (bytes : List ℕ) (e : Error) (old new : Toolchains) : Type 0 where
  pub fails : StoreFails old.capacity (id_of bytes) bytes e old.archives new.archives old.held new.held
  pub changes : new ≡ with_spoiled (with_state old new.archives old.weak old.taken new.held) new.spoiled
  pub uncounted : Uncounted e old.held new.held
  pub spoils : MaySpoil e old.spoiled new.spoiled old.held new.held

abbrev pub Stores : List ℕ → Result (List ℕ) Error → Toolchains → Toolchains → Type 0
Stores bytes (Ok id) old new = (id ≡ id_of bytes) × IsStored bytes old new
Stores bytes (Err e) old new = IsUnstored bytes e old new

-- What a packager packed, which was called once, as `Called` says: its bytes; PackagerFailed only where its
-- count of refusals rose, which else is as it was.
abbrev pub Packs : Type 0 → Option (List ℕ) → ℕ → ℕ → Result (List ℕ) ToolchainError → Type 0
Packs Called told before after (Ok bytes) = Appends told [] bytes × (after ≡ before) × Called
Packs Called told before after (Err PackagerFailed) = Rose before after × Called
Packs Called told before after (Err Memory) = (after ≡ before) × Called
Packs Called told before after (Err other) = ⊥

-- the id, where it was recorded
abbrev pub id_if : List ℕ → Result (Unit {0}) ToolchainError → Result (List ℕ) ToolchainError
id_if id (Ok done) = Ok id
id_if id (Err e) = Err e

-- an archive was stored: its id is recorded under the key, and told, which keeps the list in step
pub record RecordsStored (key id : List ℕ) (answer : Result (List ℕ) ToolchainError)
    (old new : Toolchains) : Type 0 where
  pub outcome : Result (Unit {0}) ToolchainError
  pub records : Records key id outcome old new
  pub gives : answer ≡ id_if id outcome
  pub in_step : OnOk outcome (KeepsStep old new)

-- what follows a store: a refusal is told, and leaves the key unrecorded
abbrev pub AfterStore : List ℕ → Result (List ℕ) Error → Result (List ℕ) ToolchainError → Toolchains
    → Toolchains → Type 0
AfterStore key (Ok id) answer old new = RecordsStored key id answer old new
AfterStore key (Err e) answer old new = (answer ≡ Err (toolchain_error e)) × (new ≡ old)

-- bytes that were packed are stored under their SHA-256, which keeps the list in step, and this is recorded
-- under the key
pub record IsStocked (key bytes : List ℕ) (answer : Result (List ℕ) ToolchainError)
    (old new : Toolchains) : Type 0 where
  pub stored : Result (List ℕ) Error
  pub between : Toolchains
  pub stores : Stores bytes stored old between
  pub in_step : OnOk stored (KeepsStep old between)
  pub follows : AfterStore key stored answer between new

abbrev pub AfterPack : List ℕ → Result (List ℕ) ToolchainError → Result (List ℕ) ToolchainError → Toolchains
    → Toolchains → Type 0
AfterPack key (Ok bytes) answer old new = IsStocked key bytes answer old new
AfterPack key (Err e) answer old new = (answer ≡ Err e) × (new ≡ old)

-- The fourth case: the packager packs, and what it packed is stored and recorded.
pub record Packages (Called : Type 0) (told : Option (List ℕ)) (before after : ℕ) (key : List ℕ)
    (answer : Result (List ℕ) ToolchainError) (old new : Toolchains) : Type 0 where
  pub packed : Result (List ℕ) ToolchainError
  pub packs : Packs Called told before after packed
  pub follows : AfterPack key packed answer old new

abbrev pub placed_alone : Result (List ℕ) ToolchainError → Result Placed ToolchainError
placed_alone (Ok id) = Ok (Alone id)
placed_alone (Err e) = Err e

abbrev pub placed_custom : Result Custom ToolchainError → Result Placed ToolchainError
placed_custom (Ok custom) = Ok (Configured custom)
placed_custom (Err e) = Err e

-- the second case: the archive that is configured
pub record PutsCustom (path : List ℕ) (c : CustomToolchain) (answer : Result Placed ToolchainError)
    (old new : Toolchains) : Type 0 where
  pub custom : Result Custom ToolchainError
  pub takes : Takes (taken_of path old.taken) path c custom old new
  pub gives : answer ≡ placed_custom custom

-- the fourth case, behind a look for what is recorded
pub record PutsPackage (Called : Type 0) (told : Option (List ℕ)) (before after : ℕ) (key : List ℕ)
    (answer : Result Placed ToolchainError) (old new : Toolchains) : Type 0 where
  pub packaged : Result (List ℕ) ToolchainError
  pub packages : Packages Called told before after key packaged old new
  pub gives : answer ≡ placed_alone packaged

-- what follows the look for what is recorded; the packager is called where nothing is
abbrev pub AfterLook : Type 0 → Type 0 → Option (List ℕ) → ℕ → ℕ → List ℕ
    → Result (Option (List ℕ)) ToolchainError → Result Placed ToolchainError → Toolchains → Toolchains
    → Type 0
AfterLook Uncalled Called told before after key (Ok None) answer old new =
    PutsPackage Called told before after key answer old new
AfterLook Uncalled Called told before after key (Ok (Some id)) answer old new = (answer ≡ Ok (Alone id))
    × (new ≡ old) × Uncalled
AfterLook Uncalled Called told before after key (Err e) answer old new = (answer ≡ Err e) × (new ≡ old)
    × Uncalled

-- the third and the fourth case
pub record LooksThenPackages (Uncalled Called : Type 0) (told : Option (List ℕ)) (before after : ℕ)
    (key : List ℕ) (answer : Result Placed ToolchainError) (old new : Toolchains) : Type 0 where
  pub looked : Result (Option (List ℕ)) ToolchainError
  pub between : Toolchains
  pub looks : LooksUp (recorded_id key old.weak) looked old between
  pub follows : AfterLook Uncalled Called told before after key looked answer between new

-- The four cases, in their order, by what is configured for the compiler: that no archive is wanted is
-- Disabled; a configured archive is told; else what is recorded under the weak key, and else what is
-- packaged. `Uncalled` says that the packager was not called, `Called` that it was called once.
abbrev pub PutsBy : Type 0 → Type 0 → Option (List ℕ) → ℕ → ℕ → Option DistToolchainConfig → List ℕ
    → List ℕ → Result Placed ToolchainError → Toolchains → Toolchains → Type 0
PutsBy Uncalled Called told before after (Some (NoDist c)) path key answer old new = (answer ≡ Err Disabled)
    × (new ≡ old) × Uncalled
PutsBy Uncalled Called told before after (Some (PathOverride c archive inside)) path key answer old new =
    PutsCustom path (record { archive = archive; compiler_executable = inside }) answer old new × Uncalled
PutsBy Uncalled Called told before after None path key answer old new =
    LooksThenPackages Uncalled Called told before after key answer old new

abbrev pub Puts : Type 0 → Type 0 → Option (List ℕ) → ℕ → ℕ → List ℕ → List ℕ
    → Result Placed ToolchainError → Toolchains → Toolchains → Type 0
Puts Uncalled Called told before after path key answer old new =
    PutsBy Uncalled Called told before after (config_of path old.configs) path key answer old new
