-- Where a line may stand, by what the lines before it say.
use Rattle.std.specs.Prelude.{◌==◌, ◌≤◌, ◌&&◌, ◌||◌, Bool, false, not, List, [], ◌∷◌, Option, Some, None}
use Rattle.std.specs.List.{filter_map, list_any}
use Rattle.farm_script.specs.Place as farm
use Rattle.farm_script.specs.Place.{is_nil}
use Rattle.farm_script.specs.declared.event.Event.{Event}
use Rattle.farm_script.specs.declared.lines.SetupLine.{SetupLine}
use Rattle.farm_script.specs.declared.lines.SetupLine.TheVariants.{Version2, Scheduler, Server, Builder}
use Rattle.farm_script.specs.declared.lines.Line as farm_line
use Rattle.farm_script.specs.declared.lines.Line.TheVariants as farm_lines
use Rattle.lives_script.specs.Ids.{Ids, meets}
use Rattle.lives_script.specs.declared.line.Line.{Line}
use Rattle.lives_script.specs.declared.line.Line.TheVariants as lines
use Rattle.lives_script.specs.declared.script.Life.{Life}

-- what the line says of how the farm is set up, if it does, as in a farm's script
abbrev pub setup_in : Line → Option farm_line.Line
setup_in lines.Skip = None
setup_in (lines.Setup s) = Some (farm_lines.Setup s)
setup_in (lines.Life from count) = None
setup_in (lines.Event e) = None

-- the range of ids of the life that the line begins, if it begins one
abbrev pub ids_in : Line → Option Ids
ids_in lines.Skip = None
ids_in (lines.Setup s) = None
ids_in (lines.Life from count) = Some (record { from = from; count = count })
ids_in (lines.Event e) = None

-- the range of ids of a life
abbrev pub ids_of : Life → Ids
ids_of life = record { from = life.from; count = life.count }

-- what happens before the next life begins
abbrev pub events_in : List Line → List Event
events_in [] = []
events_in (lines.Skip ∷ ls) = events_in ls
events_in (lines.Setup s ∷ ls) = events_in ls
events_in (lines.Life from count ∷ ls) = []
events_in (lines.Event e ∷ ls) = e ∷ events_in ls

-- the lives, each with what happens behind its line and before the next life's
abbrev pub lives_in : List Line → List Life
lives_in [] = []
lives_in (lines.Skip ∷ ls) = lives_in ls
lives_in (lines.Setup s ∷ ls) = lives_in ls
lives_in (lines.Life from count ∷ ls) = record { from = from; count = count; events = events_in ls } ∷ lives_in ls
lives_in (lines.Event e ∷ ls) = lives_in ls

-- what decides where a line may stand: how the farm is set up, and the ranges of the lives
pub record Before : Type 0 where
  pub setup : farm.Before
  pub lives : List Ids

-- the same, of the lines before
abbrev pub before_of : List Line → Before
before_of said = record {
  setup = farm.before_of (filter_map setup_in said);
  lives = filter_map ids_in said;
}

-- a scheduler with other ids than none: each life says its own
abbrev pub has_ids : SetupLine → Bool
has_ids Version2 = false
has_ids (Scheduler s) = not (s.base == 0 && s.count == 0)
has_ids (Server s) = false
has_ids (Builder addr answer) = false

-- First stands how the farm is set up, in the order of a farm's script, with a scheduler whose base and count are
-- 0. Behind the scheduler stand the lives, and what happens stands behind a life's line.
abbrev pub misplaced : Before → Line → Bool
misplaced b lines.Skip = false
misplaced b (lines.Setup s) = not (is_nil b.lives) || has_ids s || farm.misplaced b.setup (farm_lines.Setup s)
misplaced b (lines.Life from count) = is_nil b.setup.schedulers
misplaced b (lines.Event e) = is_nil b.lives

-- a server at the address of the scheduler or of another server
abbrev pub duplicate : Before → Line → Bool
duplicate b lines.Skip = false
duplicate b (lines.Setup s) = farm.duplicate b.setup (farm_lines.Setup s)
duplicate b (lines.Life from count) = false
duplicate b (lines.Event e) = false

-- a life whose range meets that of an earlier one
abbrev pub overlapping : Before → Line → Bool
overlapping b lines.Skip = false
overlapping b (lines.Setup s) = false
overlapping b (lines.Life from count) = list_any (λ r. meets r (record { from = from; count = count })) b.lives
overlapping b (lines.Event e) = false

-- a life has one id at least
abbrev pub HasRange : Line → Type 0
HasRange lines.Skip = Unit {0}
HasRange (lines.Setup s) = Unit {0}
HasRange (lines.Life from count) = 1 ≤ count
HasRange (lines.Event e) = Unit {0}
