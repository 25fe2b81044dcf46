-- Which texts are keys.
use Rattle.std.specs.Prelude.{ℕ, Bool, not, ◌&&◌, ◌==◌, List, [], ◌∷◌, ◌++◌, codes, nat_eq}
use Rattle.std.specs.Fmt.{decimal}
use Rattle.std.specs.List.{list_all, slice_split, starts_with}
use Rattle.folders.specs.Plain.{is_plain}

-- the last of some parts, which stand behind another
abbrev pub last_behind : List ℕ → List (List ℕ) → List ℕ
last_behind part [] = part
last_behind part (p ∷ ps) = last_behind p ps

-- a temporary file's name begins so
unfoldable pub is_temporary : List ℕ → Bool
is_temporary name = starts_with nat_eq name (codes ".sccachetmp")

-- whether these parts, with a `/` between each two, are a key
abbrev pub are_key : List (List ℕ) → Bool
are_key parts = list_all is_plain parts && not (is_temporary (last_behind [] parts))

-- A relative path of plain parts, the last of which is not the name of a temporary file.
unfoldable pub is_key : List ℕ → Bool
is_key text = are_key (slice_split (λ b. b == 47) text)

-- the name of the temporary file of a reservation, by its number
unfoldable pub temp_name : ℕ → List ℕ
temp_name number = codes ".sccachetmp" ++ decimal number

-- the name of the temporary file of an insert, by the number of faults of inserts before it
unfoldable pub insert_name : ℕ → List ℕ
insert_name number = codes ".sccachetmp-" ++ decimal number

-- whether the last part of a path is the name of a temporary file
abbrev pub names_temporary : List ℕ → Bool
names_temporary path = is_temporary (last_behind [] (slice_split (λ b. b == 47) path))
