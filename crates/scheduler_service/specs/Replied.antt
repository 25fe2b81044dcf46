-- What the scheduler's calls answer, as it is replied: in JSON where that is wanted, else in binary.
use Rattle.std.specs.Prelude.{◌≡◌, ℕ, List, Bool, Option, None, Result, Ok, IfOk}
use Rattle.dist_types.specs.declared.dialer.Asked.{Asked}
use Rattle.dist_types.specs.declared.results.AllocJobResult.{AllocJobResult}
use Rattle.dist_types.specs.declared.results.HeartbeatServerResult.{HeartbeatServerResult}
use Rattle.dist_types.specs.declared.results.SchedulerStatusResult.{SchedulerStatusResult}
use Rattle.dist_types.specs.declared.results.UpdateJobStateResult.{UpdateJobStateResult}
use Rattle.dist_token.specs.Token.{token_text, job_claims_text}
use Rattle.scheduler_steps.specs.declared.fault.SchedFault.{SchedFault}
use Rattle.scheduler_replies.specs.Replies.{told_fault, report_fault, Replies}
use Rattle.sched.specs.Course.{IsAllocation}
use Rattle.sched.specs.Heard.{IsHeard, IsUpdated, IsCounted, IsDrained}
use Rattle.sched.specs.Outside.{Moments, Requests}
use Rattle.sched.specs.Pass.{Told}
use Rattle.http_routes.specs.Replies.{heard_response, status_response, alloc_response, update_response}
use Rattle.http_routes.specs.Replies.{drained_response}
use Rattle.http_routes.specs.declared.route.SchedRouted.{SchedRouted}
use Rattle.http_routes.specs.declared.route.SchedRouted.TheVariants.{Alloc, Beat, Update, Status, Drain, Done}
use Rattle.http_connections.specs.Served.{MadeReply}
use Rattle.scheduler_service.specs.Requested.{IsAskedFor, lent_of}

-- ---- what a connection's caller lends

-- the pass, what the clock tells, and the dialer's record and count of faults
pub record Means : Type 0 where
  pub pass : Told
  pub clock : Moments
  pub asked : Option (List Asked)
  pub faults : ℕ

-- the dialer's record and its count stay
pub record AsksNobody (old new : Means) : Type 0 where
  pub asked : new.asked ≡ old.asked
  pub faults : new.faults ≡ old.faults

-- a requester over the dialer, as a handler sees it
abbrev pub requests_over : ℕ → Means → Requests
requests_over name m = record { rows = None; faults = m.faults; lent = lent_of name m.asked }

-- ---- the five calls, each with the answer that its reply tells, where there is memory for one

-- an authorizer of job tokens is its key, and the token for a job is the written one under that key
abbrev pub job_token : List ℕ → ℕ → List ℕ
job_token key id = token_text key (job_claims_text id)

-- an allocation that asks the job's server through the dialer
pub record IsAllocated (tc : List ℕ) (old new : Means) (answer : Result AllocJobResult SchedFault) : Type 0
  where
    pub name : ℕ
    pub allocated : IsAllocation (λ key. key) job_token IsAskedFor tc old.pass new.pass old.clock new.clock
        (requests_over name old) (requests_over name new) answer

-- What is asked of the scheduler is done, and the reply, where it is made, tells its answer; what its route
-- answered is the reply, and changes nothing.
abbrev pub IsDone : Bool → SchedRouted → Means → Means → MadeReply → Type 0
IsDone json (Alloc tc) old new made =
    (answer : Result AllocJobResult SchedFault) × IsAllocated tc old new answer
    × IfOk made (Replies (alloc_response json) told_fault answer)
IsDone json (Beat server beat) old new made =
    (answer : Result HeartbeatServerResult SchedFault)
    × IsHeard server beat.server_nonce beat.num_cpus beat.jwt_key old.pass new.pass old.clock new.clock answer
    × IfOk made (Replies (heard_response json) told_fault answer) × AsksNobody old new
IsDone json (Update server job state) old new made =
    (answer : Result UpdateJobStateResult SchedFault)
    × IsUpdated job server state old.pass new.pass old.clock new.clock answer
    × IfOk made (Replies (update_response json) (report_fault server job) answer) × AsksNobody old new
IsDone json Status old new made =
    (answer : Result SchedulerStatusResult SchedFault)
    × IsCounted old.pass new.pass old.clock new.clock answer
    × IfOk made (Replies (status_response json) told_fault answer) × AsksNobody old new
IsDone json (Drain server drain) old new made =
    (answer : Result Bool SchedFault)
    × IsDrained server drain.server_nonce drain.draining old.pass new.pass old.clock new.clock answer
    × IfOk made (Replies (drained_response json) told_fault answer) × AsksNobody old new
IsDone json (Done response) old new made = (made ≡ Ok response) × (new ≡ old)
