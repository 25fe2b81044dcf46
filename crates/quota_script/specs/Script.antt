-- A script, read line by line: the number of the first job, the clients and what happens, or the first faulty line.
use Rattle.std.specs.Prelude.{ℕ, false, List, [], ◌∷◌, ◌++◌, Option, Some, None}
use Rattle.std.specs.Prelude.{option_to_list, Result, Ok, Err}
use Rattle.line_program.specs.Lines.{Judge, judged_within, lines_in}
use Rattle.line_program.specs.Reader.{Reader, judge_by}
use Rattle.line_program.specs.declared.fault.FarmFault.{FarmFault}
use Rattle.line_program.specs.declared.fault.FarmFault.TheVariants.{BadLine}
use Rattle.farm_script.specs.declared.lines.Scopes.TheVariants.{Refused, Taken}
use Rattle.quota_script.specs.Line.{line_at}
use Rattle.quota_script.specs.Place.{Client, Before, names_of, misplaced}
use Rattle.quota_script.specs.declared.event.Event.{Event}
use Rattle.quota_script.specs.declared.line.Line.{Line}
use Rattle.quota_script.specs.declared.line.Line.TheVariants as lines
use Rattle.quota_script.specs.declared.script.Reading.{Reading}
use Rattle.quota_script.specs.declared.script.Script.{Script}

-- what was read so far
pub record Read : Type 0 where
  pub base : Option ℕ
  pub clients : List Client
  pub events : List Event

-- the same, of the Rust struct
abbrev pub read_of : Reading → Read
read_of r = record { base = r.base; clients = r.clients; events = r.events.items }

-- what a script says: the number of the first job, the clients, and what happens
pub record Said : Type 0 where
  pub base : ℕ
  pub clients : List Client
  pub events : List Event

-- the same, of the Rust struct
abbrev pub said_of : Script → Said
said_of s = record { base = s.base; clients = s.clients; events = s.events }

-- what of it decides where a line may stand
abbrev pub before : Read → Before
before r = record { base = option_to_list r.base; names = names_of r.clients; events = r.events }

-- what was read, with what one more line says
abbrev pub with_line : Read → Line → Read
with_line r lines.Skip = r
with_line r (lines.Ids base) = record { base = Some base; clients = r.clients; events = r.events }
with_line r (lines.Client name limit) =
    record { base = r.base; clients = r.clients ++ (name, limit) ∷ []; events = r.events }
with_line r (lines.Event e) = record { base = r.base; clients = r.clients; events = r.events ++ e ∷ [] }

-- how a line is judged over what was read
abbrev pub line_reader : Reader Line Read
line_reader = record {
  line_at = line_at Refused;
  scoped_at = line_at Taken;
  misplaced = λ r l. misplaced (before r) l;
  duplicate = λ r l. false;
  overlapping = λ r l. false;
  with_line = with_line;
}

-- what was read, with a line of this text more, or why it is faulty
abbrev pub judge : Judge Read
judge = judge_by line_reader

-- the same of a line with its end, which is within the limits
abbrev pub take_line : ℕ → ℕ → Read → List ℕ → Result Read FarmFault
take_line number room r piece = judged_within judge number room r piece

-- the number of the first job, the clients and what happens make a script
abbrev pub finished_with : ℕ → Read → Option ℕ → Result Said FarmFault
finished_with number r (Some base) = Ok (record { base = base; clients = r.clients; events = r.events })
finished_with number r None = Err (BadLine number)

-- at the end the number of the first job is said, or the number after the last line is told
abbrev pub finished : ℕ → Read → Result Said FarmFault
finished number r = finished_with number r r.base

-- at the start
abbrev pub nothing_read : Read
nothing_read = record { base = None; clients = []; events = [] }

-- the script that an input says, or its first faulty line
abbrev pub script : List ℕ → Result Said FarmFault
script bytes = lines_in judge finished nothing_read bytes
