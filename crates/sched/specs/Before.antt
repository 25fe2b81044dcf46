-- What the calls of one turn promise in the words of their refusals: all of it follows from a turn.
use Rattle.std.specs.Prelude.{◌≡◌, ◌⊎◌, ◌<◌, ◌↔◌, ℕ, Bool, false, Result, Ok, Err, IfErr}
use Rattle.dist_types.specs.declared.results.JobState.{JobState}
use Rattle.dist_types.specs.declared.results.HeartbeatServerResult.{HeartbeatServerResult}
use Rattle.dist_types.specs.declared.results.SchedulerStatusResult.{SchedulerStatusResult}
use Rattle.dist_types.specs.declared.results.UpdateJobStateResult.{UpdateJobStateResult}
use Rattle.dist_types.specs.declared.results.UpdateJobStateResult.TheVariants.{Success}
use Rattle.core_rules.specs.Advance.{follows}
use Rattle.core_rules.specs.declared.error.SchedError.TheVariants as error
use Rattle.scheduler_steps.specs.declared.fault.SchedFault.{SchedFault}
use Rattle.scheduler_steps.specs.declared.fault.SchedFault.TheVariants.{Core, AssignFailed, Memory}
use Rattle.sched.specs.Outside.{Moments, IsRead}
use Rattle.sched.specs.Pass.{Told, Counted}

-- how many entries a call makes that is refused so: none for bad processors and want of memory
abbrev pub fault_entries : SchedFault → ℕ
fault_entries (Core (error.BadCpus cpus)) = 0
fault_entries (Core error.Memory) = 0
fault_entries (Core other) = 1
fault_entries (AssignFailed undone cause) = 0
fault_entries Memory = 0

-- one entry, and none where the number of processors is bad or memory ran out
abbrev pub one_entry : {X : Type 0} → Result X SchedFault → ℕ
one_entry (Ok x) = 1
one_entry (Err fault) = fault_entries fault

-- a heartbeat is refused for its number of processors, exactly where that is 0 or over 4294967295, or for
-- want of memory
pub record WasHeard (cpus : ℕ) (old new : Told) (clock ticked : Moments)
    (answer : Result HeartbeatServerResult SchedFault) : Type 0 where
  pub counted : Counted (one_entry answer) old new
  pub read : IsRead clock ticked
  pub bad_cpus : (answer ≡ Err (Core (error.BadCpus cpus))) ↔ ((cpus ≡ 0) ⊎ (4294967295 < cpus))
  pub refused : IfErr answer (λ e. (e ≡ Core (error.BadCpus cpus)) ⊎ (e ≡ Memory))

-- how an update to a state may be refused: a bad transition is to the given state, which does not follow the
-- other
abbrev pub RefusesUpdate : JobState → SchedFault → Type 0
RefusesUpdate state (Core error.UnknownJob) = Unit {0}
RefusesUpdate state (Core error.WrongServer) = Unit {0}
RefusesUpdate state (Core (error.BadTransition from to)) = (to ≡ state) × (follows from to ≡ false)
RefusesUpdate state Memory = Unit {0}
RefusesUpdate state other = ⊥

-- what an update to a state may answer
abbrev pub TellsUpdate : JobState → Result UpdateJobStateResult SchedFault → Type 0
TellsUpdate state (Ok x) = x ≡ Success
TellsUpdate state (Err fault) = RefusesUpdate state fault

pub record WasUpdated (state : JobState) (old new : Told) (clock ticked : Moments)
    (answer : Result UpdateJobStateResult SchedFault) : Type 0 where
  pub counted : Counted (one_entry answer) old new
  pub read : IsRead clock ticked
  pub told : TellsUpdate state answer

-- a status is refused for want of memory alone
pub record WasCounted (old new : Told) (clock ticked : Moments)
    (answer : Result SchedulerStatusResult SchedFault) : Type 0 where
  pub counted : Counted (one_entry answer) old new
  pub read : IsRead clock ticked
  pub refused : IfErr answer (λ e. e ≡ Memory)

-- so is a drain
pub record WasDrained (old new : Told) (clock ticked : Moments)
    (answer : Result Bool SchedFault) : Type 0 where
  pub counted : Counted (one_entry answer) old new
  pub read : IsRead clock ticked
  pub refused : IfErr answer (λ e. e ≡ Memory)
