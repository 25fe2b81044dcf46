-- How a call is answered, by what the scheduler answers, where the entry that it makes has this number.
use Rattle.std.specs.Prelude.{ℕ, Option, Some, None, Result, Ok, Err}
use Rattle.core_rules.specs.declared.error.SchedError.{SchedError}
use Rattle.core_rules.specs.declared.error.SchedError.TheVariants as error
use Rattle.core_rules.specs.Ticket.{Ticket}
use Rattle.dist_types.specs.declared.fault.Memory.{Memory}
use Rattle.dist_types.specs.declared.results.HeartbeatServerResult.{HeartbeatServerResult}
use Rattle.dist_types.specs.declared.results.UpdateJobStateResult.{UpdateJobStateResult}
use Rattle.quota.specs.declared.call.QuotaAnswer.{QuotaAnswer}
use Rattle.quota.specs.declared.call.QuotaAnswer.TheVariants as answer
use Rattle.quota.specs.declared.fault.QuotaFault.{QuotaFault}
use Rattle.quota.specs.declared.fault.QuotaFault.TheVariants as fault
use Rattle.quota.specs.declared.picked.QuotaPicked.{QuotaPicked}
use Rattle.quota.specs.declared.picked.QuotaPicked.TheVariants.{Picked, Full, NoClient}
use Rattle.sched_core.specs.declared.answers.Picked.TheVariants as picked

-- the answer, if memory did not run out
abbrev pub answered : Result QuotaAnswer Memory → Option QuotaAnswer
answered (Ok a) = Some a
answered (Err e) = None

-- a reserve that is answered
abbrev pub answer_of : ℕ → QuotaPicked → QuotaAnswer
answer_of number (Picked p) = answer.Logged number
answer_of number (Full held limit) = answer.Full held limit
answer_of number NoClient = answer.NoClient

-- the reservation that it made, if it made one
abbrev pub ticket_in : QuotaPicked → Option Ticket
ticket_in (Picked (picked.Reserved r)) = Some r
ticket_in (Picked (picked.NoRoom standing)) = None
ticket_in (Full held limit) = None
ticket_in NoClient = None

-- a reserve that is refused: every refusal but want of memory is logged
abbrev pub refused_of : ℕ → QuotaFault → Option QuotaAnswer
refused_of number fault.Memory = None
refused_of number other = Some (answer.Logged number)

-- a heartbeat: too few processors, or too many, is told, and not logged
abbrev pub heard_of : ℕ → Result HeartbeatServerResult SchedError → Option QuotaAnswer
heard_of number (Ok r) = Some (answer.Logged number)
heard_of number (Err (error.BadCpus cpus)) = Some answer.BadCpus
heard_of number (Err other) = None

-- a report: every answer but want of memory is logged
abbrev pub updated_of : ℕ → Result UpdateJobStateResult SchedError → Option QuotaAnswer
updated_of number (Err error.Memory) = None
updated_of number other = Some (answer.Logged number)
