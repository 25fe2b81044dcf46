-- What a path made simple is like.
use Rattle.std.specs.Prelude.{◌≡◌, ℕ, ◌+◌, ◌<◌, List, [], ◌∷◌, length, take, Bool, true, false, not, ◌&&◌}
use Rattle.std.specs.Prelude.{◌==◌}
use Rattle.std.specs.List.{list_all}
use Rattle.std.specs.Str.{bytes_eq}
use Rattle.path_pkg.specs.Told.{Nodes}
use Rattle.path_pkg.specs.Path.{path_text}
use Rattle.path_pkg.specs.Tree.{is_link}

-- whether a byte is no `/`
abbrev pub is_inner : ℕ → Bool
is_inner b = not (b == 47)

-- whether a part is a name: not empty, not `.`, not `..`, and without `/`
abbrev pub is_name : List ℕ → Bool
is_name part =
    not (bytes_eq part []) &&
    (not (bytes_eq part (46 ∷ [])) && (not (bytes_eq part (46 ∷ 46 ∷ [])) && list_all is_inner part))

-- names with a `/` between each two, behind a `/` or not
pub record IsSimple (text : List ℕ) : Type 0 where
  pub absolute : Bool
  pub parts : List (List ℕ)
  pub names : list_all is_name parts ≡ true
  pub written : text ≡ path_text absolute parts

-- no link stands at these parts, nor at the first ones of them
abbrev pub HasNoLink : Nodes → Bool → List (List ℕ) → Type 0
HasNoLink t absolute parts = (n : ℕ) → n < length parts
    → is_link t (path_text absolute (take (n + 1) parts)) ≡ false

-- a simple path with no link on it
pub record IsFreeOfLinks (t : Nodes) (text : List ℕ) : Type 0 where
  pub simple : IsSimple text
  pub free : HasNoLink t simple.absolute simple.parts
