-- What calls of a cache of archives leave of the files below its path.
use Rattle.std.specs.Prelude.{◌≡◌, ℕ, ◌-◌, List}
use Rattle.std.specs.List.{AllByRecursion}
use Rattle.folders.specs.Files.{Files, file_at, front}
use Rattle.folders.specs.Held.{Held, BecameBy}
use Rattle.listed_files.specs.Disk.{IsInsertTemp, staying, files_stored}
use Rattle.toolchain_cache.specs.Archives.{Archives, archive_path, opened_archives}
use Rattle.toolchain_cache.specs.Keyed.{with_keys}

-- the file of each of these archives is as it was
abbrev pub KeepsArchives : List ℕ → Archives → Files → Files → Type 0
KeepsArchives path archives old new =
    AllByRecursion (λ a. file_at new (archive_path path a.0) ≡ file_at old (archive_path path a.0)) archives

-- the file of each archive that an opening lists of the old files is as it was
abbrev pub KeepsListed : List ℕ → ℕ → Files → Files → Type 0
KeepsListed path capacity old new = KeepsArchives path (opened_archives path capacity old) old new

-- the archives besides one that stay where it is stored with a size, within a capacity
abbrev pub staying_for : ℕ → List ℕ → ℕ → Archives → Archives
staying_for capacity id size archives = staying id (capacity - size) archives

-- Bytes are written to a temporary file, the files of the archives that are dropped are gone, and what was
-- written stands as the file of an archive.
abbrev pub archive_placed : List ℕ → List ℕ → List ℕ → List ℕ → Archives → Files → Files
archive_placed path temp id bytes gone files =
    files_stored (front path) temp (archive_path path id) bytes (with_keys gone) files

-- that is what the files became, by way of some temporary file of the cache
abbrev pub PlacesArchive : List ℕ → List ℕ → List ℕ → Archives → Held → Held → Type 0
PlacesArchive path id bytes gone old new = (temp : List ℕ) × IsInsertTemp (front path) temp
    × BecameBy (archive_placed path temp id bytes gone) old.files new.files
