-- What a fault of a request is told as.
use Rattle.std.specs.Prelude.{ℕ, List, [], ◌∷◌, ◌++◌, codes}
use Rattle.std.specs.Fmt.{decimal}
use Rattle.dist_types.specs.Addr.{addr_text}
use Rattle.dist_types.specs.declared.builder.BuildCause.{BuildCause}
use Rattle.dist_types.specs.declared.builder.BuildCause.TheVariants as cause
use Rattle.dist_types.specs.Ids.{state_text}
use Rattle.dist_types.specs.declared.outgoing.CallFault.{CallFault}
use Rattle.dist_types.specs.declared.outgoing.CallFault.TheVariants.{Lost, Status, Unreadable, BadState}
use Rattle.dist_types.specs.declared.outgoing.CallFault.TheVariants.{Memory as OutOfMemory}
use Rattle.core_rules.specs.declared.answers.Undone.{Undone}
use Rattle.core_rules.specs.declared.answers.Undone.TheVariants.{Unassigned, NotKnown, NoServer, Foreign}
use Rattle.http_routes.specs.declared.fault.RouteFault.{RouteFault}
use Rattle.http_routes.specs.declared.fault.RouteFault.TheVariants.{BadCpus, UnknownJob, WrongServer}
use Rattle.http_routes.specs.declared.fault.RouteFault.TheVariants.{BadTransition, IdsSpent, AssignFailed}
use Rattle.http_routes.specs.declared.fault.RouteFault.TheVariants.{AlreadyAssigned, UpdateFailed}
use Rattle.http_routes.specs.declared.fault.RouteFault.TheVariants.{BuildFailed}
use Rattle.http_routes.specs.declared.refusal.RouilleBincodeError.{RouilleBincodeError}
use Rattle.http_routes.specs.declared.refusal.RouilleBincodeError.TheVariants as input
use Rattle.http_routes.specs.declared.reply.Response as response
use Rattle.http_routes.specs.declared.reply.Response.TheVariants as reply
use Rattle.http_routes.specs.ErrJson.{err_text}
use Rattle.http_head.specs.Text.{◌⧺◌}

-- why a call gave no answer
abbrev pub call_text : CallFault → List ℕ
call_text Lost = codes "no reply"
call_text (Status code) = codes "Error " ++ decimal code
call_text Unreadable = codes "unreadable reply"
call_text (BadState state) = codes "state " ⧺ state_text state ⧺ codes " in an assignment"
call_text OutOfMemory = codes "out of memory"

-- what became of a reservation whose call failed
abbrev pub undone_text : Undone → List ℕ
undone_text Unassigned = codes "assign job failed, job un-assigned from the server"
undone_text NotKnown = codes "assign job failed and job not known to the server"
undone_text NoServer = codes "assign job failed and server not known"
undone_text Foreign = codes "assign job failed and job not known to the server"

-- what went wrong
abbrev pub fault_text : RouteFault → List ℕ
fault_text (BadCpus cpus) = codes "Invalid number of CPUs (" ⧺ decimal cpus ⧺ codes ") specified in heartbeat"
fault_text UnknownJob = codes "Unknown job"
fault_text (WrongServer job server) = codes "Job id " ⧺ decimal job.0
    ⧺ codes " is not registered on server ServerId(" ⧺ addr_text server ⧺ codes ")"
fault_text (BadTransition old new) = codes "Invalid job state transition from " ⧺ state_text old
    ⧺ codes " to " ⧺ state_text new
fault_text IdsSpent = codes "No job ids left"
fault_text (AssignFailed undone call) = undone_text undone
fault_text (AlreadyAssigned job) = codes "Job " ⧺ decimal job.0 ⧺ codes " is already assigned"
fault_text (UpdateFailed call) = codes "Updating job state failed"
fault_text (BuildFailed why) = codes "run build failed"

-- why a build gave nothing
abbrev pub cause_text : BuildCause → List ℕ
cause_text cause.Unlisted = codes "toolchain not in cache"
cause_text cause.Folder = codes "toolchain unreadable"
cause_text cause.Refused = codes "builder refused"

-- why, outermost first
abbrev pub causes_of : RouteFault → List (List ℕ)
causes_of (AssignFailed undone call) = codes "POST to scheduler assign_job failed" ∷ call_text call ∷ []
causes_of (UpdateFailed call) = codes "POST to scheduler job_state failed" ∷ call_text call ∷ []
causes_of (BuildFailed why) = cause_text why ∷ []
causes_of other = []

-- what went wrong and why, outermost first
abbrev pub fault_texts : RouteFault → List (List ℕ)
fault_texts fault = fault_text fault ∷ causes_of fault

-- the reply to a fault
abbrev pub fault_response_of : RouteFault → response.Response
fault_response_of fault = reply.ServerError (err_text (fault_texts fault))

-- why a message is not taken from a request
abbrev pub input_text : RouilleBincodeError → List ℕ
input_text input.BodyAlreadyExtracted = codes "the body of the request was already extracted"
input_text input.WrongContentType = codes "the request didn't have a binary content type"
input_text input.ParseError = codes "error while parsing the bincode body"
