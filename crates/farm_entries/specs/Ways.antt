-- What an event comes to, over the entries before it.
use Rattle.std.specs.Prelude.{ℕ, List, [], Bool, false, ◌||◌, slice_get, is_some, Option, Some, None}
use Rattle.std.specs.Prelude.{if◌then◌else◌}
use Rattle.dist_types.specs.Addr.{same_addr}
use Rattle.dist_types.specs.declared.addr.Addr.{Addr}
use Rattle.farm_entries.specs.declared.site.Site.{Site as Setup}
use Rattle.farm_script.specs.declared.event.EventKind.{EventKind}
use Rattle.farm_script.specs.declared.event.EventKind.TheVariants.{Request, Deliver, Fail, Return, Answer}
use Rattle.farm_script.specs.declared.event.EventKind.TheVariants.{Beat, Restart}
use Rattle.farm_entries.specs.declared.entry.Entry.{Entry}
use Rattle.farm_entries.specs.declared.entry.OutCall.{OutCall}
use Rattle.farm_entries.specs.declared.entry.Step.{Step}
use Rattle.farm_entries.specs.Calls.{call_at, delivery_at}
use Rattle.farm_entries.specs.Servers.{ServerNow, server_at, server_now}

pub data Way : Type 0 where
  -- there is nothing to do
  to_nothing : Way
  -- nobody listens at the address
  to_nobody : Way
  -- a peer's bytes come to the scheduler
  to_scheduler : Addr → List ℕ → Way
  -- bytes come to a build server
  to_server : ServerNow → List ℕ → Way
  -- the call of that number comes back with its reply, or is lost
  to_call : ℕ → Option (List ℕ) → Way
  -- a build server sends its heartbeat
  to_beat : ServerNow → Way
  -- a build server starts again, with that key and nonce
  to_restart : ServerNow → List ℕ → ℕ → Way

-- bytes that come to a build server, where there is one that runs
abbrev pub server_way : List ℕ → Option ServerNow → Way
server_way bytes None = to_nobody
server_way bytes (Some s) = if s.running then to_server s bytes else to_nobody

-- bytes that a peer sends to an address
abbrev pub way_to : Setup → List Entry → Addr → Addr → List ℕ → Way
way_to setup log target peer bytes = if same_addr target setup.scheduler.addr then to_scheduler peer bytes
    else server_way bytes (server_now setup log target)

-- the address of a step's server, or that one where there is no step
abbrev pub stepper : Option Step → Addr → Addr
stepper None addr = addr
stepper (Some step) addr = step.server

-- the address that a call goes to, or that one where there is no call
abbrev pub target_of : Option OutCall → Addr → Addr
target_of None addr = addr
target_of (Some c) addr = c.target

-- the address of who made the call of an entry: where its event came to, or the server whose step it tells
abbrev pub caller_by : Setup → List Entry → Option Step → EventKind → Addr
caller_by setup log step (Request target peer bytes) = target
caller_by setup log step (Deliver call) = target_of (call_at log call) setup.scheduler.addr
caller_by setup log step (Fail call) = stepper step setup.scheduler.addr
caller_by setup log step (Return delivery) = stepper step setup.scheduler.addr
caller_by setup log step (Answer call bytes) = stepper step setup.scheduler.addr
caller_by setup log step (Beat server) = server
caller_by setup log step (Restart server key nonce) = server

-- the address of who made the call of that number
abbrev pub caller_of : Setup → List Entry → Option Entry → Addr
caller_of setup log None = setup.scheduler.addr
caller_of setup log (Some e) = caller_by setup log e.step e.event.kind

-- a call that is delivered, if it was made: its bytes come from who made it
abbrev pub delivery_way : Setup → List Entry → Addr → Option OutCall → Way
delivery_way setup log caller None = to_nothing
delivery_way setup log caller (Some c) = way_to setup log c.target caller c.bytes

-- the reply of a delivery that comes back, if it got one
abbrev pub return_way : Option (ℕ × List ℕ) → Way
return_way None = to_nothing
return_way (Some p) = to_call p.0 (Some p.1)

-- whether a call goes to the scheduler, or to a server of the farm
abbrev pub is_inside : Setup → Option OutCall → Bool
is_inside setup None = false
is_inside setup (Some c) = same_addr c.target setup.scheduler.addr || is_some (server_at setup c.target)

-- a heartbeat, where the server is of the farm and runs
abbrev pub beat_way : Option ServerNow → Way
beat_way None = to_nothing
beat_way (Some s) = if s.running then to_beat s else to_nobody

-- a restart, where the server is of the farm
abbrev pub restart_way : List ℕ → ℕ → Option ServerNow → Way
restart_way key nonce None = to_nothing
restart_way key nonce (Some s) = to_restart s key nonce

-- by the kind of the event; a call into the farm is not answered from outside
abbrev pub way_of : Setup → List Entry → EventKind → Way
way_of setup log (Request target peer bytes) = way_to setup log target peer bytes
way_of setup log (Deliver call) = delivery_way setup log (caller_of setup log (slice_get log call))
    (call_at log call)
way_of setup log (Fail call) = to_call call None
way_of setup log (Return delivery) = return_way (delivery_at log delivery)
way_of setup log (Answer call bytes) = if is_inside setup (call_at log call) then to_nothing
    else to_call call (Some bytes)
way_of setup log (Beat server) = beat_way (server_now setup log server)
way_of setup log (Restart server key nonce) = restart_way key nonce (server_now setup log server)

-- ---- the bytes that an event brings

-- the bytes of a call
abbrev pub bytes_of : Option OutCall → List ℕ
bytes_of None = []
bytes_of (Some c) = c.bytes

-- what a request brings, or a call that is delivered
abbrev pub brought_by : List Entry → EventKind → List ℕ
brought_by log (Request target peer bytes) = bytes
brought_by log (Deliver call) = bytes_of (call_at log call)
brought_by log (Fail call) = []
brought_by log (Return delivery) = []
brought_by log (Answer call bytes) = []
brought_by log (Beat server) = []
brought_by log (Restart server key nonce) = []

abbrev pub brought_of : List Entry → Option Entry → List ℕ
brought_of log None = []
brought_of log (Some e) = brought_by log e.event.kind

-- what the event of that number brought
abbrev pub brought_at : List Entry → ℕ → List ℕ
brought_at log n = brought_of log (slice_get log n)
