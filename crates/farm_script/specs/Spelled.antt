-- What a script says, in the words of the grammar.
use Rattle.std.specs.Prelude.{◌≡◌, ℕ, if◌then◌else◌, List, [], ◌∷◌, map, Option, Some, None}
use Rattle.std.specs.List.{filter_map}
use Rattle.dist_types.specs.declared.addr.Addr.{Addr}
use Rattle.dist_types.specs.Addr.{same_addr}
use Rattle.farm_script.specs.declared.setup.BuilderLine.{BuilderLine}
use Rattle.farm_script.specs.declared.setup.Setup.{Setup}
use Rattle.farm_script.specs.declared.setup.SetupServer.{SetupServer}
use Rattle.farm_script.specs.declared.event.Event.{Event}
use Rattle.farm_script.specs.declared.lines.SetupLine.TheVariants.{Version2, Scheduler, Server, Builder}
use Rattle.farm_script.specs.declared.lines.Line.{Line}
use Rattle.farm_script.specs.declared.lines.Line.TheVariants as lines
use Rattle.line_program.specs.FirstFaulty.{EachLine}
use Rattle.line_program.specs.Pieces.{pieces}
use Rattle.farm_script.specs.Grammar.{IsLine}
use Rattle.farm_script.specs.Place.{rules_in, scheduler_in, server_in, event_in}

-- the answer that the line gives to the builder at an address, if it gives one
abbrev pub answer_for : Addr → Line → Option BuilderLine
answer_for addr lines.Skip = None
answer_for addr (lines.Setup Version2) = None
answer_for addr (lines.Setup (Scheduler s)) = None
answer_for addr (lines.Setup (Server s)) = None
answer_for addr (lines.Setup (Builder named answer)) = if same_addr addr named then Some answer else None
answer_for addr (lines.Event e) = None

-- a server with the answers that the lines give to its builder, in order
abbrev pub with_answers : List Line → SetupServer → SetupServer
with_answers said s = record s { builder = filter_map (answer_for s.addr) said }

-- The script's lines spell values: they say the rules, one is the scheduler, others are the servers, each with
-- the answers of its builder, and others are the events, in order.
pub record SpellsScript (bytes : List ℕ) (setup : Setup) (events : List Event) : Type 0 where
  pub lines : List Line
  pub each : EachLine IsLine (pieces bytes) lines
  pub rules_are : rules_in lines ≡ setup.rules
  pub scheduler_is : filter_map scheduler_in lines ≡ setup.scheduler ∷ []
  pub servers_are : map (with_answers lines) (filter_map server_in lines) ≡ setup.servers
  pub events_are : filter_map event_in lines ≡ events
