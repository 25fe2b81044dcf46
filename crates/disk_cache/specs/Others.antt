-- What a call leaves of the files that it is not about.
use Rattle.std.specs.Prelude.{◌≡◌, ◌≤◌, ◌⊎◌, List, ℕ, Some}
use Rattle.folders.specs.Files.{Files, front}
use Rattle.folders.specs.Held.{Became}
use Rattle.folders.specs.Changed.{ButUnder}
use Rattle.listed_files.specs.Disk.{KeepsSpoiled}
use Rattle.disk_cache.specs.Names.{cache_path}
use Rattle.disk_cache.specs.Opening.{ButOwn}
use Rattle.disk_cache.specs.Toolchains.{Toolchains}
use Rattle.disk_cache.specs.WeakMaps.{weak_map_at, with_recorded}

-- the files are as they were, but for those of the cache of archives
abbrev pub ButArchives : List ℕ → Files → Files → Type 0
ButArchives dir old new = ButUnder (front (cache_path dir)) old new

-- What failed inserts of archives left stays as it was, and is no less.
pub record KeepsFailed (old new : Toolchains) : Type 0 where
  pub count : old.spoiled ≤ new.spoiled
  pub files : Became (KeepsSpoiled (front (cache_path old.dir)) old.spoiled) old.held.files new.held.files

-- The path and what is recorded are the same, and no file differs but those of the cache of archives: not the
-- weak map's either, nor what a failed insert left.
pub record KeepsBeside (old new : Toolchains) : Type 0 where
  pub dir : new.dir ≡ old.dir
  pub weak : new.weak ≡ old.weak
  pub files : Became (ButArchives old.dir) old.held.files new.held.files
  pub failed : KeepsFailed old new

-- the file of the weak map is as it was, or says that an id is recorded under this key
abbrev pub OldOrRecorded : List ℕ → Toolchains → Files → Files → Type 0
OldOrRecorded key old f g =
    (weak_map_at old.dir g ≡ weak_map_at old.dir f)
    ⊎ ((id : List ℕ) × (weak_map_at old.dir g ≡ Some (with_recorded key id old.weak)))

-- The path is the same, no file differs but the client's own, and that of the weak map is as it was or says
-- that an id is recorded under this key.
pub record KeepsOthers (key : List ℕ) (old new : Toolchains) : Type 0 where
  pub dir : new.dir ≡ old.dir
  pub files : Became (ButOwn old.dir) old.held.files new.held.files
  pub weak : Became (OldOrRecorded key old) old.held.files new.held.files
  pub failed : KeepsFailed old new
