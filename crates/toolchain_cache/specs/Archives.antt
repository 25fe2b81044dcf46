-- Archives by the SHA-256 of their content: which file is one, and what a cache of them shows.
use Rattle.std.specs.Prelude.{◌≡◌, ℕ, ◌≤◌, Bool, true, ◌==◌, ◌&&◌, nat_le, List, ◌∷◌, ◌++◌, length, take}
use Rattle.std.specs.Prelude.{drop, map, filter, filter_map, Option, Some, None, if◌then◌else◌}
use Rattle.std.specs.List.{list_all, AllByRecursion, IsDistinct}
use Rattle.std.specs.Map.{keys_of}
use Rattle.std.specs.Option.{option_map}
use Rattle.std.specs.Str.{bytes_eq}
use Rattle.hex.specs.Hex.{encode_lower}
use Rattle.sha2.specs.Sha256.{sha256}
use Rattle.dist_types.specs.Toolchain.{is_lower_hex}
use Rattle.folders.specs.Files.{Files, file_at, front, is_behind}
use Rattle.folders.specs.Held.{Held, Holds}
use Rattle.listed_files.specs.Entries.{Entries, total, trim}

-- the id and the size of each archive
abbrev pub Archives : Type 0
Archives = Entries

-- the SHA-256 (FIPS 180-4) of bytes, in lower-case hex
unfoldable pub id_of : List ℕ → List ℕ
id_of bytes = encode_lower (sha256 bytes)

-- an id: 64 lower-case hex digits
abbrev pub is_id : List ℕ → Bool
is_id id = (length id == 64) && list_all is_lower_hex id

-- the key of an archive: its first digit, `/`, its second digit, `/` and its id
unfoldable pub archive_key : List ℕ → List ℕ
archive_key id = take 1 id ++ 47 ∷ take 1 (drop 1 id) ++ 47 ∷ id

-- the path of the file of an archive, in the cache at a path
abbrev pub archive_path : List ℕ → List ℕ → List ℕ
archive_path path id = front path ++ archive_key id

-- the archive that bytes are: their id and their number
abbrev pub archive_of : List ℕ → List ℕ × ℕ
archive_of bytes = (id_of bytes, length bytes)

-- the archive that the file of an id holds
abbrev pub archive_at : List ℕ → Files → List ℕ → Option (List ℕ × ℕ)
archive_at path files id = option_map archive_of (file_at files (archive_path path id))

-- each of these archives has a file of its size, whose SHA-256 is its id
abbrev pub AllVerified : List ℕ → Files → Archives → Type 0
AllVerified path files archives = AllByRecursion (λ a. archive_at path files a.0 ≡ Some a) archives

-- the archive that a file is, in the cache at a path: it stands where its SHA-256 says
abbrev pub archive_in : List ℕ → List ℕ × List ℕ → Option (List ℕ × ℕ)
archive_in path f = if bytes_eq f.0 (archive_path path (id_of f.1)) then Some (archive_of f.1) else None

-- the archives among the files, least recent first
abbrev pub archives_in : List ℕ → Files → Archives
archives_in path files = filter_map (archive_in path) files

-- those of them that are within the capacity
abbrev pub sound_archives : List ℕ → ℕ → Files → Archives
sound_archives path capacity files = filter (λ a. nat_le a.1 capacity) (archives_in path files)

-- The archives that an opening lists of the files: those within the capacity, and of these the longest end
-- that fits.
abbrev pub opened_archives : List ℕ → ℕ → Files → Archives
opened_archives path capacity files = trim capacity (sound_archives path capacity files)

-- The archives among the files, where they are told, are those listed, in their order.
abbrev pub IsInStep : List ℕ → Held → Archives → Type 0
IsInStep path held archives = Holds held (λ files. archives_in path files ≡ archives)

-- the paths of the files below a path, least recent first
abbrev pub paths_under : List ℕ → Files → List (List ℕ)
paths_under path files = map (λ f. f.0) (filter (λ f. is_behind (front path) f.0) files)

-- the path of a cache, its capacity, its archives, least recent first, its folder, and how many inserts
-- failed
pub record ArchiveStore (F : Type 0) : Type 0 where
  pub path : List ℕ
  pub capacity : ℕ
  pub archives : Archives
  pub folder : F
  pub spoiled : ℕ

-- What holds of a cache of archives over a folder, whatever failed so far: the ids are ids and differ, the
-- sizes fit the capacity, and each archive has a file of its size whose SHA-256 is its id, where files are
-- told.
pub record IsArchiveStore (path : List ℕ) (capacity : ℕ) (archives : Archives) (held : Held) : Type 0 where
  pub ids : AllByRecursion (λ a. is_id a.0 ≡ true) archives
  pub distinct : IsDistinct bytes_eq (keys_of archives)
  pub fits : total archives ≤ capacity
  pub verified : Holds held (λ files. AllVerified path files archives)
