-- A script, read line by line: the setup and the lives, or the first faulty line with its cause.
use Rattle.std.specs.Prelude.{◌≡◌, ℕ, List, [], ◌∷◌, ◌++◌, map, Option, Some, None}
use Rattle.std.specs.Prelude.{option_to_list, Result, Ok, Err}
use Rattle.std.specs.Option.{option_map}
use Rattle.line_program.specs.Lines.{Judge, judged_within, lines_in}
use Rattle.line_program.specs.Reader.{Reader, judge_by}
use Rattle.line_program.specs.declared.fault.FarmFault.{FarmFault}
use Rattle.line_program.specs.declared.fault.FarmFault.TheVariants as fault
use Rattle.farm_script.specs.Script as farm
use Rattle.farm_script.specs.declared.lines.Scopes.TheVariants.{Refused, Taken}
use Rattle.farm_script.specs.declared.lines.Line.TheVariants as farm_lines
use Rattle.farm_script.specs.declared.event.Event.{Event}
use Rattle.farm_script.specs.declared.setup.SetupScheduler.{SetupScheduler}
use Rattle.farm_script.specs.declared.setup.Setup.{Setup}
use Rattle.lives_script.specs.Line.{line_at}
use Rattle.lives_script.specs.Used.{Keeps}
use Rattle.lives_script.specs.Place.{Before, ids_of, misplaced, duplicate, overlapping}
use Rattle.lives_script.specs.declared.line.Line.{Line}
use Rattle.lives_script.specs.declared.line.Line.TheVariants as lines
use Rattle.lives_script.specs.declared.script.Life.{Life}
use Rattle.lives_script.specs.declared.script.Script.{Script}
use Rattle.lives_script.specs.declared.script.Reading.{Reading}

-- what was read so far: how the farm is set up, the lives that are over, and the last one, whose events go on
pub record Read : Type 0 where
  pub setup : farm.Read
  pub over : List Life
  pub last : Option Life

-- the same, of the Rust struct
abbrev pub read_of : Reading → Read
read_of r = record { setup = farm.read_of r.setup; over = r.over.items; last = r.last }

-- the lives that were read
abbrev pub lives_of : Read → List Life
lives_of r = r.over ++ option_to_list r.last

-- what of it decides where a line may stand
abbrev pub before : Read → Before
before r = record { setup = farm.before r.setup; lives = map ids_of (lives_of r) }

-- a life is over only where another began
abbrev pub IsLastKept : Read → Type 0
IsLastKept r = r.last ≡ None → r.over ≡ []

-- the ids that are used are those of the lives
pub record IsKept (r : Reading) : Type 0 where
  pub lives : IsLastKept (read_of r)
  pub ids : Keeps r.used.lasts (map ids_of (lives_of (read_of r)))

-- a life in which one thing more happens
abbrev pub with_event : Event → Life → Life
with_event e life = record life { events = life.events ++ e ∷ [] }

-- what was read, with what one more line says
abbrev pub with_line : Read → Line → Read
with_line r lines.Skip = r
with_line r (lines.Setup s) = record r { setup = farm.with_line r.setup (farm_lines.Setup s) }
with_line r (lines.Life from count) = record {
  setup = r.setup;
  over = lives_of r;
  last = Some (record { from = from; count = count; events = [] });
}
with_line r (lines.Event e) = record r { last = option_map (with_event e) r.last }

-- how a line is judged over what was read
abbrev pub line_reader : Reader Line Read
line_reader = record {
  line_at = line_at Refused;
  scoped_at = line_at Taken;
  misplaced = λ r l. misplaced (before r) l;
  duplicate = λ r l. duplicate (before r) l;
  overlapping = λ r l. overlapping (before r) l;
  with_line = with_line;
}

-- what was read, with a line of this text more, or why it is faulty
abbrev pub judge : Judge Read
judge = judge_by line_reader

-- the same of a line with its end, which is within the limits
abbrev pub take_line : ℕ → ℕ → Read → List ℕ → Result Read FarmFault
take_line number room r piece = judged_within judge number room r piece

-- the rules, the scheduler, the servers and the lives make a script
abbrev pub made_of : Read → SetupScheduler → Life → Script
made_of r s life = record {
  setup = record { rules = r.setup.rules; scheduler = s; servers = r.setup.servers };
  lives = r.over ++ life ∷ [];
}

-- at the end there are a scheduler and a life, or the number after the last line is told
abbrev pub finished_with : ℕ → Read → Option SetupScheduler → Option Life → Result Script FarmFault
finished_with number r o None = Err (fault.BadLine number)
finished_with number r None (Some life) = Err (fault.BadLine number)
finished_with number r (Some s) (Some life) = Ok (made_of r s life)

-- the same, of what was read
abbrev pub finished : ℕ → Read → Result Script FarmFault
finished number r = finished_with number r r.setup.scheduler r.last

-- at the start
abbrev pub nothing_read : Read
nothing_read = record { setup = farm.nothing_read; over = []; last = None }

-- the setup and the lives of an input, or its first faulty line with its cause
abbrev pub script : List ℕ → Result Script FarmFault
script bytes = lines_in judge finished nothing_read bytes
