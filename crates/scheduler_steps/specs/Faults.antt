-- Why a call of the scheduler gives no answer.
use Rattle.std.specs.Prelude.{Result, Ok, Err}
use Rattle.dist_types.specs.declared.outgoing.CallFault.{CallFault}
use Rattle.dist_types.specs.declared.outgoing.CallFault.TheVariants as call
use Rattle.core_rules.specs.declared.answers.Undone.{Undone}
use Rattle.core_rules.specs.declared.error.SchedError.{SchedError}
use Rattle.core_rules.specs.declared.error.SchedError.TheVariants as error
use Rattle.scheduler_steps.specs.declared.fault.SchedFault.{SchedFault}
use Rattle.scheduler_steps.specs.declared.fault.SchedFault.TheVariants.{Core, AssignFailed, Memory}

-- a refusal of the core as a fault: want of memory is told as such
abbrev pub fault_of : SchedError → SchedFault
fault_of error.Memory = Memory
fault_of e = Core e

-- an answer of the core, with its refusals as faults
abbrev pub faulted : {X : Type 0} → Result X SchedError → Result X SchedFault
faulted (Ok x) = Ok x
faulted (Err e) = Err (fault_of e)

-- the fault of a job that its server did not take: the requester's own, but that want of memory is told as
-- such
abbrev pub fault_after : Undone → CallFault → SchedFault
fault_after u call.Memory = Memory
fault_after u cause = AssignFailed u cause
