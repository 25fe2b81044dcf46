-- Paths made simple.
use Rattle.std.specs.Prelude.{ℕ, zero, suc, List, [], ◌∷◌, ◌++◌, Bool, ◌&&◌, if◌then◌else◌, Result, Ok, Err}
use Rattle.std.specs.Option.{unwrap_or}
use Rattle.path_pkg.specs.Told.{Nodes}
use Rattle.path_pkg.specs.Path.{steps_of}
use Rattle.path_pkg.specs.Tree.{is_link, link_at}
use Rattle.path_pkg.specs.declared.path.Step.{Step}
use Rattle.path_pkg.specs.declared.path.Step.TheVariants.{Up, Name, Linked}
use Rattle.path_pkg.specs.declared.fault.PackError.{PackError}
use Rattle.path_pkg.specs.declared.fault.PackError.TheVariants.{LinkInParent, TooManyLinks}
use Rattle.path_pkg.specs.Spot.{Spot, spot_text, above, below, noted, beside, start}

-- whether one is at a link that is to be replaced
abbrev pub is_met : Nodes → Bool → Spot → Bool
is_met t recording s = recording && is_link t (spot_text s)

-- the target of the link where one is
abbrev pub link_target : Nodes → Spot → List ℕ
link_target t s = unwrap_or (link_at t (spot_text s)) []

-- The steps, taken from a spot on. Without recording, a link is a part as any other, and one below which `..`
-- stands is refused. With recording, a link is replaced by its target, taken from beside it, and the pair is
-- noted once the target is simple; from there on `follow` goes on.
unfoldable pub taken_by : (Spot → List Step → Result Spot PackError) → Nodes → Bool → Spot → List Step
    → Result Spot PackError
taken_by follow t recording s [] = Ok s
taken_by follow t recording s (Up ∷ rest) =
    if is_link t (spot_text s) then Err LinkInParent else taken_by follow t recording (above s) rest
taken_by follow t recording s (Name name ∷ rest) =
    if is_met t recording (below s name)
    then follow (beside s (link_target t (below s name)))
    (steps_of (link_target t (below s name)) ++ Linked (spot_text (below s name)) ∷ rest)
    else taken_by follow t recording (below s name) rest
taken_by follow t recording s (Linked path ∷ rest) = taken_by follow t recording (noted s path) rest

-- the steps, where at most so many links are replaced
unfoldable pub taken : ℕ → Nodes → Bool → Spot → List Step → Result Spot PackError
taken zero t recording = taken_by (λ s rest. Err TooManyLinks) t recording
taken (suc n) t recording = taken_by (taken n t recording) t recording

-- a path made simple, with at most forty links replaced
unfoldable pub simplified : Bool → Nodes → List ℕ → Result Spot PackError
simplified recording t path = taken 40 t recording (start path) (steps_of path)

-- the text of what a path was made
abbrev pub text_of : Result Spot PackError → Result (List ℕ) PackError
text_of (Ok s) = Ok (spot_text s)
text_of (Err e) = Err e

-- the text of a path made simple
unfoldable pub simple_path : Bool → Nodes → List ℕ → Result (List ℕ) PackError
simple_path recording t path = text_of (simplified recording t path)
