-- A script, read line by line: the setup and the events, or the first faulty line with its cause.
use Rattle.std.specs.Prelude.{ℕ, false, if◌then◌else◌, List, [], ◌∷◌, ◌++◌}
use Rattle.std.specs.Prelude.{map, Option, Some, None, option_to_list, Result, Ok, Err}
use Rattle.dist_types.specs.declared.addr.Addr.{Addr}
use Rattle.dist_types.specs.Addr.{same_addr}
use Rattle.dist_types.specs.declared.rules.Rules.{Rules}
use Rattle.dist_types.specs.declared.rules.Rules.TheVariants.{One, Two}
use Rattle.line_program.specs.Lines.{Judge, judged_within, lines_in}
use Rattle.line_program.specs.Reader.{Reader, judge_by}
use Rattle.farm_script.specs.Lines.{line_at}
use Rattle.farm_script.specs.Place.{Before, is_two, misplaced, duplicate}
use Rattle.farm_script.specs.declared.lines.Scopes.TheVariants.{Refused, Taken}
use Rattle.farm_script.specs.declared.setup.BuilderLine.{BuilderLine}
use Rattle.farm_script.specs.declared.setup.SetupScheduler.{SetupScheduler}
use Rattle.farm_script.specs.declared.setup.SetupServer.{SetupServer}
use Rattle.farm_script.specs.declared.setup.Setup.{Setup}
use Rattle.farm_script.specs.declared.event.Event.{Event}
use Rattle.farm_script.specs.declared.script.Reading.{Reading}
use Rattle.line_program.specs.declared.fault.FarmFault.{FarmFault}
use Rattle.line_program.specs.declared.fault.FarmFault.TheVariants as fault
use Rattle.farm_script.specs.declared.lines.SetupLine.TheVariants.{Version2, Scheduler, Server, Builder}
use Rattle.farm_script.specs.declared.lines.Line.{Line}
use Rattle.farm_script.specs.declared.lines.Line.TheVariants as lines

-- what was read so far
pub record Read : Type 0 where
  pub rules : Rules
  pub scheduler : Option SetupScheduler
  pub servers : List SetupServer
  pub events : List Event

-- the same, of the Rust struct
abbrev pub read_of : Reading → Read
read_of r = record {
  rules = r.rules;
  scheduler = r.scheduler;
  servers = r.servers.items;
  events = r.events.items;
}

-- what of it decides where a line may stand
abbrev pub before : Read → Before
before r = record {
  two = is_two r.rules;
  schedulers = map (λ s. s.addr) (option_to_list r.scheduler);
  servers = map (λ s. s.addr) r.servers;
  events = r.events;
}

-- the servers, of which the first at this address has one more answer of its builder
abbrev pub answered : Addr → BuilderLine → List SetupServer → List SetupServer
answered addr answer [] = []
answered addr answer (s ∷ ss) = if same_addr s.addr addr
    then record s { builder = s.builder ++ answer ∷ [] } ∷ ss else s ∷ answered addr answer ss

-- what was read, with what one more line says
abbrev pub with_line : Read → Line → Read
with_line r lines.Skip = r
with_line r (lines.Setup Version2) = record r { rules = Two }
with_line r (lines.Setup (Scheduler s)) = record r { scheduler = Some s }
with_line r (lines.Setup (Server s)) = record r { servers = r.servers ++ s ∷ [] }
with_line r (lines.Setup (Builder addr answer)) = record r { servers = answered addr answer r.servers }
with_line r (lines.Event e) = record r { events = r.events ++ e ∷ [] }

-- how a line is judged over what was read
abbrev pub line_reader : Reader Line Read
line_reader = record {
  line_at = line_at Refused;
  scoped_at = line_at Taken;
  misplaced = λ r l. misplaced (before r) l;
  duplicate = λ r l. duplicate (before r) l;
  overlapping = λ r l. false;
  with_line = with_line;
}

-- what was read, with a line of this text more, or why it is faulty
abbrev pub judge : Judge Read
judge = judge_by line_reader

-- the same of a line with its end, which is within the limits
abbrev pub take_line : ℕ → ℕ → Read → List ℕ → Result Read FarmFault
take_line number room r piece = judged_within judge number room r piece

-- what the rules, the scheduler, the servers and the events make
abbrev pub finished_with : ℕ → Read → Option SetupScheduler → Result (Setup × List Event) FarmFault
finished_with number r (Some s) =
    Ok (record { rules = r.rules; scheduler = s; servers = r.servers }, r.events)
finished_with number r None = Err (fault.BadLine number)

-- at the end the scheduler is there, or the number after the last line is told
abbrev pub finished : ℕ → Read → Result (Setup × List Event) FarmFault
finished number r = finished_with number r r.scheduler

-- at the start
abbrev pub nothing_read : Read
nothing_read = record { rules = One; scheduler = None; servers = []; events = [] }

-- the setup and the events of an input, or its first faulty line with its cause
abbrev pub script : List ℕ → Result (Setup × List Event) FarmFault
script bytes = lines_in judge finished nothing_read bytes
