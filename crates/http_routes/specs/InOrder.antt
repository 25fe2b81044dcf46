-- The requests that ask something, in the words of their parts.
use Rattle.std.specs.Prelude.{◌≡◌, ◌≢◌, ℕ, Bool, true, false, List, ◌++◌, Option, Some, Result, ⊤, codes}
use Rattle.dist_types.specs.declared.addr.Addr.{Addr}
use Rattle.dist_types.specs.declared.ids.JobId.{JobId}
use Rattle.dist_types.specs.declared.results.JobState.{JobState}
use Rattle.dist_types.specs.declared.rules.Rules.{Rules}
use Rattle.dist_types.specs.declared.rules.Rules.TheVariants.{Two}
use Rattle.dist_types.specs.declared.token_error.TokenError.{TokenError}
use Rattle.dist_types.specs.Ids.{SaysJob}
use Rattle.dist_wire.specs.Spelling.{SpellsToolchain, SpellsHeartbeat, SpellsState, SpellsDrain}
use Rattle.dist_wire.specs.declared.drain.DrainServerHttpRequest.{DrainServerHttpRequest}
use Rattle.dist_wire.specs.declared.heartbeat.HeartbeatServerHttpRequest.{HeartbeatServerHttpRequest}
use Rattle.dist_wire.specs.declared.run.RunJobHttpRequest.{RunJobHttpRequest}
use Rattle.http_head.specs.declared.request.Request.{Request}
use Rattle.http_head.specs.Fields.{header, path_of}
use Rattle.http_routes.specs.declared.admission.Admission.{Admission}
use Rattle.http_routes.specs.Message.{HasMessage}
use Rattle.http_routes.specs.RunHead.{IsRunBody}
use Rattle.http_routes.specs.Sender.{IsAdmitted, IsFrom, ShowsJob}

-- the request has that method and that path
pub record IsAt (r : Request) (method path : List ℕ) : Type 0 where
  pub sent_by : r.method ≡ method
  pub sent_to : path_of r.target ≡ path

-- the request is a POST that names that job behind a front
pub record NamesJob (r : Request) (front : List ℕ) (job : JobId) : Type 0 where
  pub id : List ℕ
  pub at : IsAt r (codes "POST") (front ++ id)
  pub says : SaysJob id job.0

-- the request asks for a reply in JSON, or in binary
abbrev pub InForm : Request → Bool → Type 0
InForm r true = header (codes "accept") r.headers ≡ Some (codes "application/json")
InForm r false = header (codes "accept") r.headers ≢ Some (codes "application/json")

-- ---- of the scheduler

-- the request asks for a job with that toolchain, and shows a token that lets its client in
pub record IsAllocation (r : Request) (lets : List ℕ → Admission) (tc : List ℕ) : Type 0 where
  pub at : IsAt r (codes "POST") (codes "/api/v1/scheduler/alloc_job")
  pub admitted : IsAdmitted r lets
  pub message : HasMessage SpellsToolchain r tc

-- the request is that heartbeat of that server
pub record IsHeartbeat (r : Request) (peer : Addr) (serves : List ℕ → Option Addr) (server : Addr)
    (beat : HeartbeatServerHttpRequest) : Type 0 where
  pub at : IsAt r (codes "POST") (codes "/api/v1/scheduler/heartbeat_server")
  pub sender : IsFrom r peer serves server
  pub message : HasMessage SpellsHeartbeat r beat

-- the request tells, of that server, the state of that job
pub record IsUpdate (r : Request) (peer : Addr) (serves : List ℕ → Option Addr) (server : Addr) (job : JobId)
    (state : JobState) : Type 0 where
  pub names : NamesJob r (codes "/api/v1/scheduler/job_state/") job
  pub sender : IsFrom r peer serves server
  pub message : HasMessage SpellsState r state

-- the request asks for the status
abbrev pub IsStatus : Request → Type 0
IsStatus r = IsAt r (codes "GET") (codes "/api/v1/scheduler/status")

-- the request is at the route of servers that drain, which stands in version 2 alone
pub record IsAtDrain (rules : Rules) (r : Request) : Type 0 where
  pub version : rules ≡ Two
  pub at : IsAt r (codes "POST") (codes "/api/v1/scheduler/drain_server")

-- the request is that wish of that server, to drain or to drain no more
pub record IsDrain (rules : Rules) (r : Request) (peer : Addr) (serves : List ℕ → Option Addr)
    (server : Addr) (drain : DrainServerHttpRequest) : Type 0 where
  pub at : IsAtDrain rules r
  pub sender : IsFrom r peer serves server
  pub message : HasMessage SpellsDrain r drain

-- ---- of a server; the verdict says whether a text is accepted as a job's token

-- the request asks to take that job, with that toolchain
pub record IsAssignment (r : Request) (verdict : ℕ → List ℕ → Result ⊤ TokenError) (job : JobId)
    (tc : List ℕ) : Type 0 where
  pub names : NamesJob r (codes "/api/v1/distserver/assign_job/") job
  pub shows : ShowsJob r verdict job
  pub message : HasMessage SpellsToolchain r tc

-- the request brings that job's toolchain
pub record IsSubmission (r : Request) (verdict : ℕ → List ℕ → Result ⊤ TokenError)
    (job : JobId) : Type 0 where
  pub names : NamesJob r (codes "/api/v1/distserver/submit_toolchain/") job
  pub shows : ShowsJob r verdict job

-- the request asks to run that job, and its inputs begin at that place of its body
pub record IsRun (r : Request) (verdict : ℕ → List ℕ → Result ⊤ TokenError) (job : JobId)
    (run : RunJobHttpRequest) (place : ℕ) : Type 0 where
  pub names : NamesJob r (codes "/api/v1/distserver/run_job/") job
  pub shows : ShowsJob r verdict job
  pub inputs : List ℕ
  pub body : IsRunBody r.body run place inputs
