-- What a build server does with what is asked of it, and at its own events.
use Rattle.std.specs.Prelude.{◌≡◌, ℕ, ◌+◌, List, [], Bool, not, if◌then◌else◌, slice_get, map, Option, Some}
use Rattle.std.specs.Prelude.{None, Result, Ok, Err}
use Rattle.dist_types.specs.declared.addr.Addr.{Addr}
use Rattle.dist_types.specs.declared.ids.JobId.{JobId}
use Rattle.dist_types.specs.declared.builder.BuildFault.{BuildFault}
use Rattle.dist_types.specs.declared.builder.BuildFault.TheVariants as build
use Rattle.dist_types.specs.declared.results.AssignJobResult.{AssignJobResult}
use Rattle.dist_types.specs.declared.results.BuildResult.{BuildResult}
use Rattle.dist_types.specs.declared.results.JobState.{JobState}
use Rattle.dist_types.specs.declared.results.JobState.TheVariants as state
use Rattle.dist_token.specs.Verdict.{job_verdict}
use Rattle.dist_wire.specs.declared.heartbeat.HeartbeatServerHttpRequest.{HeartbeatServerHttpRequest}
use Rattle.http_routes.specs.Fault.{fault_response_of}
use Rattle.http_routes.specs.Replies.{assign_response}
use Rattle.http_routes.specs.ServerRoute.{IsServerAsked}
use Rattle.http_routes.specs.Requests.{state_request_text, heartbeat_request_text}
use Rattle.http_routes.specs.declared.fault.RouteFault.TheVariants as fault
use Rattle.http_routes.specs.declared.server_route.ServerAsked.{ServerAsked}
use Rattle.http_routes.specs.declared.server_route.ServerRouted.{ServerRouted}
use Rattle.http_routes.specs.declared.server_route.ServerRouted.TheVariants as asked
use Rattle.build_server.specs.Books.{Books, is_listed}
use Rattle.build_server.specs.Echo.{echo_of, data_of}
use Rattle.build_server.specs.Rules.{assign_verdict}
use Rattle.build_server.specs.declared.fault.ServerFault.{ServerFault}
use Rattle.build_server.specs.declared.run.Outcome.{Outcome}
use Rattle.build_server.specs.declared.run.Outcome.TheVariants as outcome
use Rattle.farm_entries.specs.declared.site.Site.{Site as Setup}
use Rattle.farm_script.specs.declared.setup.BuilderLine.{BuilderLine}
use Rattle.farm_script.specs.declared.setup.BuilderLine.TheVariants.{Listed, Refuse}
use Rattle.farm_entries.specs.declared.entry.Effect.{Effect}
use Rattle.farm_entries.specs.declared.entry.OutCall.{OutCall}
use Rattle.farm_entries.specs.declared.entry.StepKind.TheVariants as step
use Rattle.farm_entries.specs.declared.pending.Ask.TheVariants.{Report}
use Rattle.farm_entries.specs.declared.pending.Pending.{Pending}
use Rattle.farm_entries.specs.declared.pending.Told.{Told}
use Rattle.farm_entries.specs.declared.pending.Told.TheVariants as told
use Rattle.farm_entries.specs.Effects.{reply_effect, call_effect, step_reply_effect, reply_to}
use Rattle.farm_entries.specs.Seen.{server_token}
use Rattle.farm_entries.specs.Servers.{ServerNow}

-- the books that a server's rules ask
abbrev pub books_of : ServerNow → Books
books_of s = record {
  held = s.held;
  archives = s.archives;
  capacity = s.setup.capacity;
  path = [];
  folder = record { files = None; faults = 0 };
}

-- ---- its calls

-- the call that tells the scheduler a job's state
abbrev pub state_call : Setup → Addr → JobId → JobState → OutCall
state_call setup addr job state =
    record {
      target = setup.scheduler.addr;
      bytes = state_request_text setup.scheduler.addr
          (server_token setup addr) job state;
    }

-- the message of its heartbeat
abbrev pub beat_of : ServerNow → HeartbeatServerHttpRequest
beat_of s = record { jwt_key = s.key; num_cpus = s.setup.cpus; server_nonce = s.nonce }

-- the call of its heartbeat
abbrev pub beat_call : Setup → ServerNow → OutCall
beat_call setup s = record {
  target = setup.scheduler.addr;
  bytes = heartbeat_request_text setup.scheduler.addr (server_token setup s.setup.addr) (beat_of s);
}

-- what is kept of a call of the server
abbrev pub report_of : ℕ → Bool → ServerNow → Told → Pending
report_of root json s told = record { root = root; json = json; ask = Report s.setup.addr s.life told }

-- ---- what is asked of it

-- an assignment, by its verdict; only where the job is held already it is refused
abbrev pub assigned : Addr → ℕ → Bool → JobId → List ℕ → Result AssignJobResult ServerFault → Effect
assigned addr number json job tc (Ok a) = step_reply_effect addr (step.Assigned job tc (not a.need_toolchain))
    (reply_to number (assign_response json a))
assigned addr number json job tc (Err e) =
    reply_effect None (reply_to number (fault_response_of (fault.AlreadyAssigned job)))

-- what is asked by the entry of that number
abbrev pub served : Setup → ServerNow → ℕ → Bool → ServerRouted → Effect
served setup s number json (asked.Assign job tc) = assigned s.setup.addr number json job tc
    (assign_verdict (books_of s) job tc)
served setup s number json (asked.Submit job) =
    call_effect None (Some (state_call setup s.setup.addr job state.Ready))
served setup s number json (asked.Run job run at) =
    call_effect None (Some (state_call setup s.setup.addr job state.Started))
served setup s number json (asked.Done response) = reply_effect None (reply_to number response)

-- what is kept to go on with, where what is asked makes a call; the body begins at that place of the bytes
abbrev pub told_of : ℕ → ServerRouted → Option Told
told_of body (asked.Assign job tc) = None
told_of body (asked.Submit job) = Some (told.Ready job body)
told_of body (asked.Run job run at) = Some (told.Started job run (body + at))
told_of body (asked.Done response) = None

-- the bytes ask that of the server, under the key of its life
abbrev pub AsksServer : ServerNow → List ℕ → ServerAsked → Type 0
AsksServer s bytes a = IsServerAsked (job_verdict s.key) bytes a

-- the server does what the bytes ask
abbrev pub IsServerAnswered : Setup → ServerNow → ℕ → List ℕ → Effect → Type 0
IsServerAnswered setup s number bytes x = (a : ServerAsked) × AsksServer s bytes a
    × (x ≡ served setup s number a.json a.what)

-- what is kept of the call that it makes so
pub record IsReport (s : ServerNow) (number : ℕ) (a : ServerAsked) (p : Pending) : Type 0 where
  pub told : Told
  pub begins : told_of a.body a.what ≡ Some told
  pub is : p ≡ report_of number a.json s told

-- ---- its own events

-- a heartbeat: its call
abbrev pub beat_effect : Setup → ServerNow → Effect
beat_effect setup s = call_effect None (Some (beat_call setup s))

-- ---- its builder

-- what a listed answer says
abbrev pub listed : BuilderLine → Result BuildResult BuildFault
listed (Listed code stdout stderr outputs) = Ok (record {
  output = record { code = code; stdout = stdout; stderr = stderr };
  outputs = map (λ p. (p.0, data_of p.1)) outputs;
})
listed Refuse = Err build.Refused

-- the answer of a builder with those listed answers, of which this one is due; it echoes where there is none
abbrev pub build_answer : Option BuilderLine → List (List ℕ) → List ℕ → Result BuildResult BuildFault
build_answer (Some line) outputs inputs = listed line
build_answer None outputs inputs = Ok (echo_of outputs inputs)

-- how a build in a toolchain goes by the builder's answer
abbrev pub built : List ℕ → Result BuildResult BuildFault → Outcome
built tc (Ok result) = outcome.Built tc result
built tc (Err e) = outcome.Refused tc

-- how a run goes that the scheduler accepted: the builder is asked where the job is held and its archive is
-- listed
abbrev pub run_outcome : ServerNow → Option (List ℕ) → List (List ℕ) → List ℕ → Outcome
run_outcome s None outputs inputs = outcome.None
run_outcome s (Some tc) outputs inputs =
    if is_listed tc s.archives
    then built tc (build_answer (slice_get s.setup.builder s.builds) outputs inputs)
    else outcome.Unlisted tc
