-- The files of a folder, least recent first, and what calls make of them.
use Rattle.std.specs.Prelude.{◌≡◌, ℕ, Bool, not, ◌⊎◌, List, [], ◌∷◌, ◌++◌, length, take, map, filter, nat_eq}
use Rattle.std.specs.Prelude.{Option, Some, None}
use Rattle.std.specs.List.{starts_with}
use Rattle.std.specs.Map.{lookup}
use Rattle.std.specs.Option.{option_map}
use Rattle.std.specs.Str.{bytes_eq}
use Rattle.folders.specs.declared.folder.Found.{Found}

-- path and content of each file
abbrev pub Files : Type 0
Files = List (List ℕ × List ℕ)

-- the content of the file at a path
abbrev pub file_at : Files → List ℕ → Option (List ℕ)
file_at files path = lookup (bytes_eq path) files

-- how long the file at a path is
abbrev pub size_at : Files → List ℕ → Option ℕ
size_at files path = option_map length (file_at files path)

-- without the file at a path
abbrev pub without : List ℕ → Files → Files
without path files = filter (λ f. not (bytes_eq path f.0)) files

-- with a file at a path, as the most recent
abbrev pub put : List ℕ → List ℕ → Files → Files
put path bytes files = without path files ++ (path, bytes) ∷ []

-- with what stood at a path put at another, or as they were where nothing stood there
abbrev pub put_found : Option (List ℕ) → List ℕ → Files → Files → Files
put_found (Some bytes) path old rest = put path bytes rest
put_found None path old rest = old

-- the file of one path stands at another, as the most recent
abbrev pub moved : List ℕ → List ℕ → Files → Files
moved from to files = put_found (file_at files from) to files (without from files)

-- the file at a path is the most recent
abbrev pub touched : List ℕ → Files → Files
touched path files = put_found (file_at files path) path files files

-- the file at a path has these bytes at its end, and is the most recent
abbrev pub appended : List ℕ → List ℕ → Files → Files
appended path bytes files = put_found (option_map (λ old. old ++ bytes) (file_at files path)) path files files

-- what the path of each file below a directory begins with; that of the whole folder is empty
abbrev pub front : List ℕ → List ℕ
front [] = []
front (b ∷ bs) = (b ∷ bs) ++ 47 ∷ []

-- whether a path begins so
abbrev pub is_behind : List ℕ → List ℕ → Bool
is_behind begun path = starts_with nat_eq path begun

-- the paths that begin so, each with its file's size
abbrev pub found_behind : List ℕ → Files → List Found
found_behind begun files = map (λ f. record { path = f.0; size = length f.1 })
    (filter (λ f. is_behind begun f.0) files)

-- the files below a directory, each with its size
abbrev pub found_under : List ℕ → Files → List Found
found_under under files = found_behind (front under) files

-- what a fault may leave of a write: the files as they were, or a front of the bytes written
abbrev pub PartWritten : List ℕ → List ℕ → Files → Files → Type 0
PartWritten path bytes old new = (new ≡ old) ⊎ ((n : ℕ) × (new ≡ put path (take n bytes) old))

-- what a fault may leave of bytes that were to be added: the files as they were, or a front of them added
abbrev pub PartAppended : List ℕ → List ℕ → Files → Files → Type 0
PartAppended path bytes old new = (new ≡ old) ⊎ ((n : ℕ) × (new ≡ appended path (take n bytes) old))

-- what a fault may leave of another call: it was done or not
abbrev pub DoneOrNot : (Files → Files) → Files → Files → Type 0
DoneOrNot done old new = (new ≡ old) ⊎ (new ≡ done old)

-- what a fault leaves of a call that changes nothing
abbrev pub Same : Files → Files → Type 0
Same old new = new ≡ old
