-- What the calls of one turn promise.
use Rattle.std.specs.Prelude.{ℕ, List, Bool, Result}
use Rattle.dist_types.specs.declared.addr.Addr.{Addr}
use Rattle.dist_types.specs.declared.ids.JobId.{JobId}
use Rattle.dist_types.specs.declared.results.JobState.{JobState}
use Rattle.dist_types.specs.declared.results.HeartbeatServerResult.{HeartbeatServerResult}
use Rattle.dist_types.specs.declared.results.SchedulerStatusResult.{SchedulerStatusResult}
use Rattle.dist_types.specs.declared.results.UpdateJobStateResult.{UpdateJobStateResult}
use Rattle.core_rules.specs.declared.call.Call.TheVariants as call
use Rattle.scheduler_steps.specs.Telling.{TellsHeard, RefusesHeard, TellsReported, TellsCounted}
use Rattle.scheduler_steps.specs.Telling.{TellsDrained}
use Rattle.scheduler_steps.specs.Telling.{WantsMemory}
use Rattle.scheduler_steps.specs.declared.fault.SchedFault.{SchedFault}
use Rattle.sched.specs.Outside.{Moments}
use Rattle.sched.specs.Pass.{Told}
use Rattle.sched.specs.Turn.{IsTurn}

-- a heartbeat
abbrev pub IsHeard : Addr → ℕ → ℕ → List ℕ → Told → Told → Moments → Moments
    → Result HeartbeatServerResult SchedFault → Type 0
IsHeard server nonce cpus key old new clock ticked answer =
    IsTurn (λ now. call.Beat now server nonce cpus key) (TellsHeard cpus) (RefusesHeard cpus) old new clock
    ticked answer

-- a report on a job
abbrev pub IsUpdated : JobId → Addr → JobState → Told → Told → Moments → Moments
    → Result UpdateJobStateResult SchedFault → Type 0
IsUpdated job server state old new clock ticked answer =
    IsTurn (λ now. call.Update now server job state) TellsReported WantsMemory old new clock ticked answer

-- a status request
abbrev pub IsCounted : Told → Told → Moments → Moments → Result SchedulerStatusResult SchedFault → Type 0
IsCounted old new clock ticked answer =
    IsTurn (λ now. call.Status now) TellsCounted WantsMemory old new clock ticked answer

-- a drain
abbrev pub IsDrained : Addr → ℕ → Bool → Told → Told → Moments → Moments → Result Bool SchedFault → Type 0
IsDrained server nonce on old new clock ticked answer =
    IsTurn (λ now. call.Drain now server nonce on) TellsDrained WantsMemory old new clock ticked answer
