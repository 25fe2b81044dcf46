-- The replies to what the steps answer.
use Rattle.std.specs.Prelude.{◌≡◌, Option, Some, None, Result, Ok, Err}
use Rattle.dist_types.specs.declared.addr.Addr.{Addr}
use Rattle.dist_types.specs.declared.ids.JobId.{JobId}
use Rattle.core_rules.specs.declared.error.SchedError.TheVariants as error
use Rattle.http_routes.specs.Fault.{fault_response_of}
use Rattle.http_routes.specs.declared.fault.RouteFault.{RouteFault}
use Rattle.http_routes.specs.declared.fault.RouteFault.TheVariants as fault
use Rattle.http_routes.specs.declared.reply.Response.{Response}
use Rattle.scheduler_steps.specs.declared.fault.SchedFault.{SchedFault}
use Rattle.scheduler_steps.specs.declared.fault.SchedFault.TheVariants.{Core, AssignFailed, Memory}

-- what a refusal is told as, where it is not about a job; want of memory is told by no reply
abbrev pub told_fault : SchedFault → Option RouteFault
told_fault (Core (error.BadCpus cpus)) = Some (fault.BadCpus cpus)
told_fault (Core error.IdsSpent) = Some fault.IdsSpent
told_fault (Core other) = None
told_fault (AssignFailed undone cause) = Some (fault.AssignFailed undone cause)
told_fault Memory = None

-- what a refusal of that server's report on that job is told as
abbrev pub report_fault : Addr → JobId → SchedFault → Option RouteFault
report_fault server job (Core error.UnknownJob) = Some fault.UnknownJob
report_fault server job (Core error.WrongServer) = Some (fault.WrongServer job server)
report_fault server job (Core (error.BadTransition from to)) = Some (fault.BadTransition from to)
report_fault server job (Core other) = None
report_fault server job (AssignFailed undone cause) = None
report_fault server job Memory = None

-- the reply tells that fault
abbrev pub IsTold : Option RouteFault → Response → Type 0
IsTold None reply = ⊥
IsTold (Some f) reply = reply ≡ fault_response_of f

-- the reply to an answer: its message, or its fault
abbrev pub Replies : {X : Type 0} → (X → Response) → (SchedFault → Option RouteFault) → Result X SchedFault
    → Response → Type 0
Replies message fault (Ok x) reply = reply ≡ message x
Replies message fault (Err e) reply = IsTold (fault e) reply
