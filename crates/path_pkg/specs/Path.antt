-- Paths as texts and as parts.
use Rattle.std.specs.Prelude.{ℕ, List, [], ◌∷◌, ◌++◌, Bool, false, ◌==◌, if◌then◌else◌, Option, Some, None}
use Rattle.std.specs.List.{slice_split, flat_map, filter_map}
use Rattle.std.specs.Str.{bytes_eq}
use Rattle.path_pkg.specs.declared.path.Step.{Step}
use Rattle.path_pkg.specs.declared.path.Step.TheVariants.{Up, Name}

-- whether a path begins with `/`
abbrev pub is_absolute : List ℕ → Bool
is_absolute [] = false
is_absolute (b ∷ rest) = b == 47

-- parts with a `/` between each two
abbrev pub joined : List (List ℕ) → List ℕ
joined [] = []
joined (part ∷ parts) = part ++ flat_map (λ p. 47 ∷ p) parts

-- the text of a path
abbrev pub path_text : Bool → List (List ℕ) → List ℕ
path_text absolute parts = (if absolute then 47 ∷ [] else []) ++ joined parts

-- the step that a piece between two `/` stands for: none for an empty one and for `.`
abbrev pub step_in : List ℕ → Option Step
step_in piece =
    if bytes_eq piece [] then None
    else if bytes_eq piece (46 ∷ []) then None
    else if bytes_eq piece (46 ∷ 46 ∷ []) then Some Up
    else Some (Name piece)

-- the steps of a path
unfoldable pub steps_of : List ℕ → List Step
steps_of text = filter_map step_in (slice_split (λ b. b == 47) text)
