-- Which files an opening of a cache of archives leaves.
use Rattle.std.specs.Prelude.{◌≡◌, ℕ, Bool, true, ◌&&◌, nat_le, if◌then◌else◌, List, [], ◌∷◌, ◌++◌}
use Rattle.std.specs.Prelude.{length, filter, Some, None}
use Rattle.std.specs.List.{list_all, IsDistinct}
use Rattle.std.specs.Map.{keys_of}
use Rattle.std.specs.Str.{bytes_eq}
use Rattle.folders.specs.Files.{Files, file_at, is_behind}
use Rattle.folders.specs.Held.{Held}
use Rattle.folders.specs.declared.folder.Found.{Found}
use Rattle.listed_files.specs.Entries.{Entries}
use Rattle.listed_files.specs.Disk.{without_key}
use Rattle.toolchain_cache.specs.Archives.{is_id, id_of, archive_key}
use Rattle.folders.specs.Changed.{ButUnder}
use Rattle.toolchain_cache.specs.Keyed.{id_in}

-- a file, as it is found
abbrev pub found_of : List ℕ × List ℕ → Found
found_of f = record { path = f.0; size = length f.1 }

-- the files whose paths begin so
abbrev pub under : List ℕ → Files → Files
under root files = filter (λ f. is_behind root f.0) files

-- it is within the capacity, and stands where its SHA-256 says
abbrev pub is_sound : List ℕ → ℕ → List ℕ × List ℕ → Bool
is_sound root capacity f = nat_le (length f.1) capacity && bytes_eq f.0 (root ++ archive_key (id_of f.1))

-- of the files under a root those are left that are sound, in their order, all others stay, and all paths
-- differ
abbrev pub Cleaned : List ℕ → ℕ → Files → Files → Type 0
Cleaned root capacity old new =
    IsDistinct bytes_eq (keys_of new) × (under root new ≡ filter (is_sound root capacity) (under root old))
    × ButUnder root old new

-- each sound file is as it was
abbrev pub KeepsSound : List ℕ → ℕ → Files → Files → Type 0
KeepsSound root capacity old new = (q bytes : List ℕ) → is_sound root capacity (q, bytes) ≡ true
    → file_at old q ≡ Some bytes → file_at new q ≡ Some bytes

-- the same of what is judged by a file as it was found
abbrev pub SparesSound : List ℕ → ℕ → Found → Files → Files → Type 0
SparesSound root capacity file old new = (bytes : List ℕ) → file_at old file.path ≡ Some bytes
    → file.size ≡ length bytes → KeepsSound root capacity old new

-- whether a key is one of an archive
abbrev pub is_archive_key : List ℕ → Bool
is_archive_key key = is_id (id_in key) && bytes_eq key (archive_key (id_in key))

-- whether all are
abbrev pub are_archive_keys : Entries → Bool
are_archive_keys entries = list_all (λ e. is_archive_key e.0) entries

-- a key, where it is no archive's
abbrev pub other_key : List ℕ → List (List ℕ)
other_key key = if is_archive_key key then [] else key ∷ []

-- the keys that are no archive's, in their order
abbrev pub other_keys : Entries → List (List ℕ)
other_keys [] = []
other_keys (e ∷ es) = other_key e.0 ++ other_keys es

-- what is listed without these keys
abbrev pub without_keys : List (List ℕ) → Entries → Entries
without_keys [] es = es
without_keys (k ∷ ks) es = without_keys ks (without_key k es)

-- neither of two folders tells its files
abbrev pub NoneTold : Held → Held → Type 0
NoneTold old new = (old.files ≡ None) × (new.files ≡ None)
