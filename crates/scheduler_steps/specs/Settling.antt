-- How a reservation is spent by what its server answered, and what an allocation answers then.
use Rattle.std.specs.Prelude.{◌≡◌, ◌⊎◌, ℕ, List, Bool, true, false, if◌then◌else◌, Result, Ok, Err}
use Rattle.dist_types.specs.declared.outgoing.CallFault.{CallFault}
use Rattle.dist_types.specs.declared.outgoing.CallFault.TheVariants as call_fault
use Rattle.dist_types.specs.declared.results.AllocJobResult.{AllocJobResult}
use Rattle.dist_types.specs.declared.results.AllocJobResult.TheVariants.{Success, Fail}
use Rattle.dist_types.specs.declared.results.AssignJobResult.{AssignJobResult}
use Rattle.core_rules.specs.Answers.{committed_by, undone_by}
use Rattle.core_rules.specs.Log.{Core}
use Rattle.core_rules.specs.Reservation.{unspent}
use Rattle.core_rules.specs.Rule.{is_among, is_initial}
use Rattle.core_rules.specs.Texts.{dropped_text}
use Rattle.core_rules.specs.Ticket.{Ticket}
use Rattle.core_rules.specs.declared.answers.Committed.TheVariants as committed
use Rattle.core_rules.specs.declared.answers.Undone.TheVariants as undone
use Rattle.core_rules.specs.declared.call.Call.{Call}
use Rattle.core_rules.specs.declared.call.Call.TheVariants as call
use Rattle.core_rules.specs.declared.entry.CoreEntry.{CoreEntry}
use Rattle.core_rules.specs.declared.entry.CoreKind.{CoreKind}
use Rattle.scheduler_steps.specs.Faults.{fault_after}
use Rattle.scheduler_steps.specs.declared.fault.SchedFault.{SchedFault}
use Rattle.scheduler_steps.specs.declared.fault.SchedFault.TheVariants.{Memory}
use Rattle.scheduler_steps.specs.declared.settled.Settled.{Settled}
use Rattle.scheduler_steps.specs.declared.settled.Settled.TheVariants.{Taken, Failed}

-- what was heard of a server, where a job may begin in the state that it answered; else that it may not
abbrev pub judged : Result AssignJobResult CallFault → Result AssignJobResult CallFault
judged (Ok taken) = if is_initial taken.state then Ok taken else Err (call_fault.BadState taken.state)
judged (Err cause) = Err cause

-- the call that spends a reservation by what was judged so
abbrev pub spend_call : ℕ → Ticket → Result AssignJobResult CallFault → Call
spend_call now r (Ok taken) = call.Commit now r.number r.job taken.state
spend_call now r (Err cause) = call.Undo now r.number r.job

-- what becomes of it, by the entry of that call
abbrev pub settled_by : Ticket → Result AssignJobResult CallFault → CoreKind → Settled
settled_by r (Ok taken) kind = Taken (committed_by true kind r) taken.need_toolchain
settled_by r (Err cause) kind = Failed (undone_by kind) cause

-- or that it is none of the core's
abbrev pub foreign_by : Ticket → Result AssignJobResult CallFault → Settled
foreign_by r (Ok taken) = Taken (committed.Foreign r.job) taken.need_toolchain
foreign_by r (Err cause) = Failed undone.Foreign cause

-- whether the reservation is an unspent one of the core
abbrev pub is_own : Core → Ticket → Bool
is_own core r = is_among (unspent core.log) r.number r.job

abbrev pub TellsSettle : Ticket → Result AssignJobResult CallFault → Core → CoreEntry → Settled → Type 0
TellsSettle r heard core e settled = (is_own core r ≡ true) × (settled ≡ settled_by r heard e.kind)

abbrev pub RefusesSettle : Ticket → Result AssignJobResult CallFault → Core → Settled → Type 0
RefusesSettle r heard core settled = (is_own core r ≡ false) × (settled ≡ foreign_by r heard)

-- no job, with this text, unless memory ran out
abbrev pub FailsWith : List ℕ → Result AllocJobResult SchedFault → Type 0
FailsWith text answer = (answer ≡ Ok (Fail text)) ⊎ (answer ≡ Err Memory)

-- what became of the reservation, as it is answered
abbrev pub Answers : Settled → Result AllocJobResult SchedFault → Type 0
Answers (Taken (committed.Kept job_alloc) need_toolchain) answer = answer ≡ Ok (Success job_alloc need_toolchain)
Answers (Taken (committed.Dropped job) need_toolchain) answer = FailsWith (dropped_text job) answer
Answers (Taken (committed.Foreign job) need_toolchain) answer = FailsWith (dropped_text job) answer
Answers (Failed u cause) answer = answer ≡ Err (fault_after u cause)
