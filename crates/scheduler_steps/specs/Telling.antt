-- What the steps of one call answer, read off their entries.
use Rattle.std.specs.Prelude.{◌≡◌, ℕ, List, Bool, true, ◌&&◌, nat_le, if◌then◌else◌, Result, Ok, Err}
use Rattle.dist_types.specs.declared.results.HeartbeatServerResult.{HeartbeatServerResult}
use Rattle.dist_types.specs.declared.results.SchedulerStatusResult.{SchedulerStatusResult}
use Rattle.dist_types.specs.declared.results.UpdateJobStateResult.{UpdateJobStateResult}
use Rattle.core_rules.specs.Answers.{updated_by}
use Rattle.sched_core.specs.Picked.{IsPicked}
use Rattle.core_rules.specs.Log as log
use Rattle.core_rules.specs.Rule.{says_new_entry, counts_of, knows_of}
use Rattle.sched_core.specs.declared.answers.Picked.{Picked}
use Rattle.core_rules.specs.declared.entry.CoreEntry.{CoreEntry}
use Rattle.core_rules.specs.declared.entry.CoreKind.TheVariants.{Reserve}
use Rattle.core_rules.specs.declared.entry.Reserved.TheVariants.{Spent}
use Rattle.core_rules.specs.declared.error.SchedError.TheVariants as error
use Rattle.scheduler_steps.specs.Faults.{faulted}
use Rattle.scheduler_steps.specs.declared.fault.SchedFault.{SchedFault}
use Rattle.scheduler_steps.specs.declared.fault.SchedFault.TheVariants.{Core, Memory}

-- refused for want of memory
abbrev pub WantsMemory : {X : Type 0} → log.Core → Result X SchedFault → Type 0
WantsMemory core answer = answer ≡ Err Memory

-- a reserve: what was picked, or that the ids are spent
abbrev pub TellsReserve : {A : Type 0} → (A → List ℕ) → (A → ℕ → List ℕ) → log.Core → CoreEntry
    → Result Picked SchedFault → Type 0
TellsReserve key_of token_for core e (Ok p) = IsPicked key_of token_for core.log e.kind p
TellsReserve key_of token_for core e (Err (Core error.IdsSpent)) = e.kind ≡ Reserve Spent
TellsReserve key_of token_for core e (Err other) = ⊥

-- a heartbeat with 1 to 4294967295 processors is taken
abbrev pub hears : ℕ → Bool
hears cpus = nat_le 1 cpus && nat_le cpus 4294967295

-- a heartbeat: whether it made a registration
abbrev pub heard_by : CoreEntry → Result HeartbeatServerResult SchedFault
heard_by e = Ok (record { is_new = says_new_entry e })

abbrev pub TellsHeard : ℕ → log.Core → CoreEntry → Result HeartbeatServerResult SchedFault → Type 0
TellsHeard cpus core e answer = (hears cpus ≡ true) × (answer ≡ heard_by e)

-- it is refused for its number of processors, and else for want of memory alone
abbrev pub RefusesHeard : ℕ → log.Core → Result HeartbeatServerResult SchedFault → Type 0
RefusesHeard cpus core answer = answer ≡ Err (if hears cpus then Memory else Core (error.BadCpus cpus))

-- a report on a job: whether it is accepted, and else why not
abbrev pub reported_by : CoreEntry → Result UpdateJobStateResult SchedFault
reported_by e = faulted (updated_by e.kind)

abbrev pub TellsReported : log.Core → CoreEntry → Result UpdateJobStateResult SchedFault → Type 0
TellsReported core e answer = answer ≡ reported_by e

-- a status request: the numbers
abbrev pub counted_by : CoreEntry → Result SchedulerStatusResult SchedFault
counted_by e = Ok (counts_of e)

abbrev pub TellsCounted : log.Core → CoreEntry → Result SchedulerStatusResult SchedFault → Type 0
TellsCounted core e answer = answer ≡ counted_by e

-- a drain: whether it names a registration
abbrev pub drained_by : CoreEntry → Result Bool SchedFault
drained_by e = Ok (knows_of e)

abbrev pub TellsDrained : log.Core → CoreEntry → Result Bool SchedFault → Type 0
TellsDrained core e answer = answer ≡ drained_by e
