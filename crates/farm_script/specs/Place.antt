-- Where a line may stand, by what the lines before it say.
use Rattle.std.specs.Prelude.{◌||◌, nat_le, Bool, true, false, not, if◌then◌else◌, List, [], ◌∷◌, length, map}
use Rattle.std.specs.Prelude.{Option, Some, None}
use Rattle.std.specs.List.{filter_map, list_any}
use Rattle.dist_types.specs.declared.addr.Addr.{Addr}
use Rattle.dist_types.specs.Addr.{same_addr}
use Rattle.dist_types.specs.declared.rules.Rules.{Rules}
use Rattle.dist_types.specs.declared.rules.Rules.TheVariants.{One, Two}
use Rattle.farm_script.specs.declared.setup.SetupScheduler.{SetupScheduler}
use Rattle.farm_script.specs.declared.setup.SetupServer.{SetupServer}
use Rattle.farm_script.specs.declared.event.Event.{Event}
use Rattle.farm_script.specs.declared.lines.SetupLine.TheVariants.{Version2, Scheduler, Server, Builder}
use Rattle.farm_script.specs.declared.lines.Line.{Line}
use Rattle.farm_script.specs.declared.lines.Line.TheVariants as lines

-- whether the line says version 2 of the rules
abbrev pub says_two : Line → Bool
says_two lines.Skip = false
says_two (lines.Setup Version2) = true
says_two (lines.Setup (Scheduler s)) = false
says_two (lines.Setup (Server s)) = false
says_two (lines.Setup (Builder addr answer)) = false
says_two (lines.Event e) = false

-- whether the rules are those of version 2
abbrev pub is_two : Rules → Bool
is_two One = false
is_two Two = true

-- the rules that the lines say: version 2 where one of them says so, else version 1
abbrev pub rules_in : List Line → Rules
rules_in said = if list_any says_two said then Two else One

-- the scheduler that the line says, if it says one
abbrev pub scheduler_in : Line → Option SetupScheduler
scheduler_in lines.Skip = None
scheduler_in (lines.Setup Version2) = None
scheduler_in (lines.Setup (Scheduler s)) = Some s
scheduler_in (lines.Setup (Server s)) = None
scheduler_in (lines.Setup (Builder addr answer)) = None
scheduler_in (lines.Event e) = None

-- the build server that the line says, if it says one
abbrev pub server_in : Line → Option SetupServer
server_in lines.Skip = None
server_in (lines.Setup Version2) = None
server_in (lines.Setup (Scheduler s)) = None
server_in (lines.Setup (Server s)) = Some s
server_in (lines.Setup (Builder addr answer)) = None
server_in (lines.Event e) = None

-- the event that the line says, if it says one
abbrev pub event_in : Line → Option Event
event_in lines.Skip = None
event_in (lines.Setup s) = None
event_in (lines.Event e) = Some e

-- what decides where a line may stand: whether version 2 was said, the addresses of schedulers and of
-- servers, and the events
pub record Before : Type 0 where
  pub two : Bool
  pub schedulers : List Addr
  pub servers : List Addr
  pub events : List Event

-- the same, of the lines before
abbrev pub before_of : List Line → Before
before_of said = record {
  two = list_any says_two said;
  schedulers = map (λ s. s.addr) (filter_map scheduler_in said);
  servers = map (λ s. s.addr) (filter_map server_in said);
  events = filter_map event_in said;
}

-- whether there is nothing
abbrev pub is_nil : {A : Type 0} → List A → Bool
is_nil [] = true
is_nil (x ∷ xs) = false

-- whether the address is among them
abbrev pub has_addr : Addr → List Addr → Bool
has_addr addr addrs = list_any (λ a. same_addr a addr) addrs

-- Setup lines stand before all events: version 2, if it is said, first and once; one scheduler, behind it at
-- most 1,000 servers, and behind a server the answers of its builder.
abbrev pub misplaced : Before → Line → Bool
misplaced b lines.Skip = false
misplaced b (lines.Setup Version2) = not (is_nil b.events) || not (is_nil b.schedulers) || b.two
misplaced b (lines.Setup (Scheduler s)) = not (is_nil b.events) || not (is_nil b.schedulers)
misplaced b (lines.Setup (Server s)) = not (is_nil b.events) || is_nil b.schedulers
    || nat_le 1000 (length b.servers)
misplaced b (lines.Setup (Builder addr answer)) = not (is_nil b.events) || not (has_addr addr b.servers)
misplaced b (lines.Event e) = false

-- a server at the address of the scheduler or of another server
abbrev pub duplicate : Before → Line → Bool
duplicate b lines.Skip = false
duplicate b (lines.Setup Version2) = false
duplicate b (lines.Setup (Scheduler s)) = false
duplicate b (lines.Setup (Server s)) = has_addr s.addr b.schedulers || has_addr s.addr b.servers
duplicate b (lines.Setup (Builder addr answer)) = false
duplicate b (lines.Event e) = false
