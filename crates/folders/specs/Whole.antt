-- What stands where a file is to be put, whether that succeeds or not: never a part of it.
use Rattle.std.specs.Prelude.{◌≡◌, ℕ, ◌⊎◌, List, Some, None}
use Rattle.folders.specs.Files.{Files, file_at}

-- the file at a path is as it was, or has all these bytes
abbrev pub OldOr : List ℕ → List ℕ → Files → Files → Type 0
OldOr path bytes old new = (file_at new path ≡ file_at old path) ⊎ (file_at new path ≡ Some bytes)

-- the files at two paths are as they were, or that of the first stands whole at the second, and is gone there
abbrev pub OldOrMoved : List ℕ → List ℕ → Files → Files → Type 0
OldOrMoved from path old new =
    ((file_at new path ≡ file_at old path) × (file_at new from ≡ file_at old from))
    ⊎ ((bytes : List ℕ) × (file_at old from ≡ Some bytes) × (file_at new path ≡ Some bytes)
    × (file_at new from ≡ None))

-- the file at a path is as it was, or has all of some bytes that were written
abbrev pub OldOrWritten : (List ℕ → Type 0) → List ℕ → Files → Files → Type 0
OldOrWritten wrote path old new = (file_at new path ≡ file_at old path)
    ⊎ ((bytes : List ℕ) × wrote bytes × (file_at new path ≡ Some bytes))
