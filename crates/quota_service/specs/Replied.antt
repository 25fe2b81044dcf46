-- What the calls of a scheduler with quotas answer, as it is replied: in JSON where that is wanted, else in
-- binary.
use Rattle.std.specs.Prelude.{◌≡◌, ℕ, List, Bool, Option, Some, None, Result, Ok, Err, IfOk}
use Rattle.dist_types.specs.declared.dialer.Asked.{Asked}
use Rattle.dist_types.specs.declared.outgoing.CallFault.{CallFault}
use Rattle.dist_types.specs.declared.results.AllocJobResult.{AllocJobResult}
use Rattle.dist_types.specs.declared.results.AssignJobResult.{AssignJobResult}
use Rattle.dist_types.specs.declared.results.HeartbeatServerResult.{HeartbeatServerResult}
use Rattle.dist_types.specs.declared.results.SchedulerStatusResult.{SchedulerStatusResult}
use Rattle.dist_types.specs.declared.results.UpdateJobStateResult.{UpdateJobStateResult}
use Rattle.dist_token.specs.Token.{token_text, job_claims_text}
use Rattle.core_rules.specs.Log.{Core, logged}
use Rattle.core_rules.specs.Rule.{rule}
use Rattle.core_rules.specs.Texts.{no_room_text}
use Rattle.core_rules.specs.Ticket.{Ticket}
use Rattle.core_rules.specs.declared.call.Call.TheVariants as call
use Rattle.core_rules.specs.declared.entry.CoreEntry.{CoreEntry}
use Rattle.sched_core.specs.declared.answers.Picked.TheVariants as picked
use Rattle.scheduler_steps.specs.Settling.{judged, spend_call, settled_by, FailsWith, Answers}
use Rattle.scheduler_steps.specs.Telling.{TellsHeard, RefusesHeard, TellsReported, TellsCounted, WantsMemory}
use Rattle.scheduler_steps.specs.declared.fault.SchedFault.{SchedFault}
use Rattle.scheduler_steps.specs.declared.fault.SchedFault.TheVariants as sched
use Rattle.scheduler_replies.specs.Replies.{told_fault, report_fault, Replies}
use Rattle.scheduler_service.specs.Requested.{IsAskedFor, lent_of}
use Rattle.sched.specs.Outside.{Moments, Requests, IsRead, IsCalled}
use Rattle.http_routes.specs.Replies.{heard_response, status_response, alloc_response, update_response}
use Rattle.http_routes.specs.declared.route.SchedRouted.{SchedRouted}
use Rattle.http_routes.specs.declared.route.SchedRouted.TheVariants.{Alloc, Beat, Update, Status}
use Rattle.http_routes.specs.declared.route.SchedRouted.TheVariants.{Drain, Done}
use Rattle.http_connections.specs.Served.{MadeReply}
use Rattle.quota.specs.Asked.{IsReserveFor}
use Rattle.quota.specs.Quota.{Quota, over_core}
use Rattle.quota.specs.declared.fault.QuotaFault.{QuotaFault}
use Rattle.quota.specs.declared.fault.QuotaFault.TheVariants as fault
use Rattle.quota.specs.declared.picked.QuotaPicked.{QuotaPicked}
use Rattle.quota.specs.declared.picked.QuotaPicked.TheVariants.{Picked, Full, NoClient}
use Rattle.quota_service.specs.Full.{full_text}
use Rattle.quota_service.specs.Step.{IsStepOver}

-- ---- what a connection's caller lends

-- the scheduler, what the clock tells, and the dialer's record and count of faults
pub record Means : Type 0 where
  pub quota : Quota
  pub clock : Moments
  pub asked : Option (List Asked)
  pub faults : ℕ

-- the clock, and the dialer's record and count, stay
pub record IsQuiet (old new : Means) : Type 0 where
  pub clock : new.clock ≡ old.clock
  pub asked : new.asked ≡ old.asked
  pub faults : new.faults ≡ old.faults

-- a requester over the dialer
abbrev pub requests_over : ℕ → Means → Requests
requests_over name m = record { rows = None; faults = m.faults; lent = lent_of name m.asked }

-- ---- an allocation

-- an authorizer of job tokens is its key, and the token for a job is the written one under that key
abbrev pub job_token : List ℕ → ℕ → List ℕ
job_token key id = token_text key (job_claims_text id)

-- the entry of the call that spends a reservation, by what was heard of its server
abbrev pub spending : Core → ℕ → Ticket → Result AssignJobResult CallFault → CoreEntry
spending core now r heard = rule core (spend_call now r (judged heard))

-- The job's server is asked once about the reservation, which is spent by what was heard at the moment that the
-- clock then gives; the answer tells what became of it. So want of memory while asking undoes it first.
pub record IsSpent (tc : List ℕ) (r : Ticket) (old new : Means) (answer : Result AllocJobResult SchedFault)
    : Type 0 where
  pub heard : Result AssignJobResult CallFault
  pub name : ℕ
  pub called : IsCalled IsAskedFor r tc heard (requests_over name old) (requests_over name new)
  pub read : IsRead old.clock new.clock
  pub left : new.quota ≡ over_core old.quota
      (logged old.quota.core (spending old.quota.core new.clock.last r heard))
  pub told : Answers (settled_by r (judged heard) (spending old.quota.core new.clock.last r heard).kind) answer

-- why a reserve is refused, as the scheduler's fault: want of memory is told as such
abbrev pub sched_fault : QuotaFault → SchedFault
sched_fault (fault.Core e) = sched.Core e
sched_fault other = sched.Memory

-- What follows on what a reserve for a client answered: only where a job is reserved is anybody asked.
abbrev pub Follows : List ℕ → Result QuotaPicked QuotaFault → Means → Means → Result AllocJobResult SchedFault
    → Type 0
Follows tc (Ok (Picked (picked.Reserved r))) old new answer = IsSpent tc r old new answer
Follows tc (Ok (Picked (picked.NoRoom standing))) old new answer =
    (new ≡ old) × FailsWith (no_room_text standing) answer
Follows tc (Ok (Full held limit)) old new answer = (new ≡ old) × FailsWith (full_text held limit) answer
Follows tc (Ok NoClient) old new answer = ⊥
Follows tc (Err e) old new answer = (new ≡ old) × (answer ≡ Err (sched_fault e))

-- An allocation for the client of that name: a reserve at a moment, and what follows.
pub record IsAllocated (name tc : List ℕ) (now : ℕ) (old new : Means)
    (answer : Result AllocJobResult SchedFault) : Type 0 where
  pub picked : Result QuotaPicked QuotaFault
  pub between : Quota
  pub reserved : IsReserveFor (λ (key : List ℕ). key) job_token now name old.quota between picked
  pub follows : Follows tc picked (record old { quota = between }) new answer

-- the same of the token that is shown, and the reply, where it is made, tells the answer
abbrev pub IsAllocatedTo : Option (List ℕ) → Bool → List ℕ → ℕ → Means → Means → MadeReply → Type 0
IsAllocatedTo None json tc now old new made = ⊥
IsAllocatedTo (Some name) json tc now old new made =
    (answer : Result AllocJobResult SchedFault) × IsAllocated name tc now old new answer
    × IfOk made (Replies (alloc_response json) told_fault answer)

-- ---- all calls

-- What is asked of the scheduler at a moment, under that token, is done by one call, and the reply, where it is
-- made, tells its answer; what its route answered is the reply, and changes nothing. In version 1 no drain
-- is asked.
abbrev pub IsDone : SchedRouted → Bool → Option (List ℕ) → ℕ → Means → Means → MadeReply → Type 0
IsDone (Alloc tc) json token now old new made = IsAllocatedTo token json tc now old new made
IsDone (Beat server beat) json token now old new made =
    (answer : Result HeartbeatServerResult SchedFault)
    × IsStepOver (call.Beat now server beat.server_nonce beat.num_cpus beat.jwt_key) (TellsHeard beat.num_cpus)
    (RefusesHeard beat.num_cpus) old.quota new.quota answer
    × IfOk made (Replies (heard_response json) told_fault answer) × IsQuiet old new
IsDone (Update server job state) json token now old new made =
    (answer : Result UpdateJobStateResult SchedFault)
    × IsStepOver (call.Update now server job state) TellsReported WantsMemory old.quota new.quota answer
    × IfOk made (Replies (update_response json) (report_fault server job) answer) × IsQuiet old new
IsDone Status json token now old new made =
    (answer : Result SchedulerStatusResult SchedFault)
    × IsStepOver (call.Status now) TellsCounted WantsMemory old.quota new.quota answer
    × IfOk made (Replies (status_response json) told_fault answer) × IsQuiet old new
IsDone (Drain server drain) json token now old new made = ⊥
IsDone (Done response) json token now old new made = (made ≡ Ok response) × (new ≡ old)
