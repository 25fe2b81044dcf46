-- What a cache of archives tells of itself, and what a look-up and a store leave of it.
use Rattle.std.specs.Prelude.{◌≡◌, ◌≤◌, List, ℕ, length, Some, Result, Ok, IsSome, IfOk, IfErr, OnOk, true}
use Rattle.std.specs.Map.{lookup}
use Rattle.std.specs.Str.{bytes_eq}
use Rattle.folders.specs.Changed.{ButUnder}
use Rattle.folders.specs.Files.{file_at, front}
use Rattle.folders.specs.Held.{Held, Holds, Became}
use Rattle.listed_files.specs.Entries.{promoted_key}
use Rattle.listed_files.specs.Calls.{Uncounted}
use Rattle.dist_types.specs.declared.cache_error.Error.{Error}
use Rattle.toolchain_cache.specs.Archives.{ArchiveStore, IsArchiveStore, IsInStep, id_of, archive_path}
use Rattle.toolchain_cache.specs.Archiving.{archive_verdict, with_archive, FindFails, StoreFails}
use Rattle.build_server.specs.Books.{is_listed}

-- a cache of archives, with what its folder tells
abbrev pub Cache : Type 0
Cache = ArchiveStore Held

abbrev pub told_of : {F : Type 0} → (F → Held) → ArchiveStore F → Cache
told_of held s = record {
  path = s.path;
  capacity = s.capacity;
  archives = s.archives;
  folder = held s.folder;
  spoiled = s.spoiled;
}

-- what no call changes: the capacity, the path, and each file outside of the archives' directory, where files
-- are told; the folder's count of faults never falls, and whatever failed, each listed archive has its file
pub record Stays (old new : Cache) : Type 0 where
  pub capacity : new.capacity ≡ old.capacity
  pub path : new.path ≡ old.path
  pub others : Became (ButUnder (front old.path)) old.folder.files new.folder.files
  pub later : old.folder.faults ≤ new.folder.faults
  pub stands : IsArchiveStore new.path new.capacity new.archives new.folder

-- An archive was looked for: it is most recent where it was read, and else this is why not. Where files are
-- told, the SHA-256 of what was read is the id.
pub record Looks (id : List ℕ) (found : Result (List ℕ) Error) (old new : Cache) : Type 0 where
  pub stood : IsArchiveStore old.path old.capacity old.archives old.folder
  pub archives : OnOk found (new.archives ≡ promoted_key id old.archives)
  pub listed : OnOk found (IsSome (lookup (bytes_eq id) old.archives))
  pub content : IfOk found
      (λ bytes. Holds old.folder (λ files. file_at files (archive_path old.path id) ≡ Some bytes))
  pub digest : IfOk found (λ bytes. Holds old.folder (λ files. id_of bytes ≡ id))
  pub fails : IfErr found (λ e. FindFails id e old.archives new.archives old.folder new.folder)
  pub step : OnOk found
      (IsInStep old.path old.folder old.archives → IsInStep new.path new.folder new.archives)
  pub steady : OnOk found (new.folder.faults ≡ old.folder.faults)
  pub uncounted : IfErr found (λ e. Uncounted e old.folder new.folder)
  pub stays : Stays old new

-- Bytes were stored as the archive of an id: they are most recent where they were admitted and written, and
-- else this is why not, and what it leaves.
pub record Stores {T : Type 0} (id bytes : List ℕ) (stored : Result T Error) (old new : Cache) : Type 0 where
  pub admits : OnOk stored (archive_verdict old.capacity id bytes ≡ Ok (tt {0}))
  pub archives : OnOk stored (new.archives ≡ with_archive old.capacity id (length bytes) old.archives)
  pub content : OnOk stored
      (Holds new.folder (λ files. file_at files (archive_path old.path id) ≡ Some bytes))
  pub fails : IfErr stored
      (λ e. StoreFails old.capacity id bytes e old.archives new.archives old.folder new.folder)
  pub step : OnOk stored
      (IsInStep old.path old.folder old.archives → IsInStep new.path new.folder new.archives)
  pub steady : OnOk stored (new.folder.faults ≡ old.folder.faults)
  pub uncounted : IfErr stored (λ e. Uncounted e old.folder new.folder)
  pub stays : Stays old new

-- nothing is listed that was not before
abbrev pub ListsNoMore : Cache → Cache → Type 0
ListsNoMore old new = (id : List ℕ) → is_listed id new.archives ≡ true → is_listed id old.archives ≡ true
