-- How far along a path one is.
use Rattle.std.specs.Prelude.{ℕ, ◌-◌, List, [], ◌∷◌, ◌++◌, length, take, Bool, true, if◌then◌else◌}
use Rattle.path_pkg.specs.Path.{is_absolute, path_text}

-- the path so far, and the links that were replaced on it, each with what stands in its place
pub record Spot : Type 0 where
  pub absolute : Bool
  pub parts : List (List ℕ)
  pub links : List (List ℕ × List ℕ)

-- the text of the path so far
abbrev pub spot_text : Spot → List ℕ
spot_text s = path_text s.absolute s.parts

-- without the last part
abbrev pub above : Spot → Spot
above s = record s { parts = take (length s.parts - 1) s.parts }

-- with one part more
abbrev pub below : Spot → List ℕ → Spot
below s name = record s { parts = s.parts ++ name ∷ [] }

-- with the link at a path noted, which led here
abbrev pub noted : Spot → List ℕ → Spot
noted s path = record s { links = s.links ++ (path, spot_text s) ∷ [] }

-- where the target of a link in this directory is taken from
abbrev pub beside : Spot → List ℕ → Spot
beside s target = if is_absolute target then record s { absolute = true; parts = [] } else s

-- where a path is taken from
abbrev pub start : List ℕ → Spot
start path = record { absolute = is_absolute path; parts = []; links = [] }
