-- Archives kept as keys with sizes.
use Rattle.std.specs.Prelude.{◌≡◌, ℕ, true, List, [], ◌++◌, Some, drop, map}
use Rattle.std.specs.List.{AllByRecursion}
use Rattle.std.specs.Option.{option_map}
use Rattle.folders.specs.Files.{Files, file_at, front}
use Rattle.folders.specs.Held.{Held, Holds}
use Rattle.listed_files.specs.Entries.{Entries}
use Rattle.lru_disk_cache.specs.Store.{Disk}
use Rattle.toolchain_cache.specs.Archives.{Archives, is_id, archive_key, archive_of}

-- the id that the key of an archive ends with
abbrev pub id_in : List ℕ → List ℕ
id_in key = drop 4 key

-- the archives of keys
abbrev pub unkeyed : Entries → Archives
unkeyed entries = map (λ e. (id_in e.0, e.1)) entries

-- the keys of archives
abbrev pub with_keys : Archives → Entries
with_keys archives = map (λ a. (archive_key a.0, a.1)) archives

-- it is the key of an archive
pub record IsArchiveKey (key : List ℕ) : Type 0 where
  pub path : key ≡ archive_key (id_in key)
  pub id : is_id (id_in key) ≡ true

-- each key is one of an archive
abbrev pub AllArchiveKeys : Entries → Type 0
AllArchiveKeys entries = AllByRecursion (λ e. IsArchiveKey e.0) entries

-- each key has a file of its size, whose SHA-256 is its id
abbrev pub AllHold : List ℕ → Files → Entries → Type 0
AllHold root files entries =
    AllByRecursion (λ e. option_map archive_of (file_at files (root ++ e.0)) ≡ Some (id_in e.0, e.1)) entries

-- A disk whose keys are those of archives, each with a file whose SHA-256 is its id where files are told, and
-- with no reservation.
pub record IsKeyed (held : Held) (d : Disk) : Type 0 where
  pub keys : AllArchiveKeys d.entries
  pub root : d.root ≡ front d.path
  pub none : d.pending ≡ []
  pub hold : Holds held (λ files. AllHold d.root files d.entries)
