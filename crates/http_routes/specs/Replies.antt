-- The replies to what the scheduler and a build server answer: in JSON where that is wanted, else in binary.
use Rattle.std.specs.Prelude.{Bool, Option, Some, None}
use Rattle.dist_types.specs.declared.addr.Addr.{Addr}
use Rattle.dist_types.specs.declared.ids.JobId.{JobId}
use Rattle.dist_types.specs.declared.results.AllocJobResult.{AllocJobResult}
use Rattle.dist_types.specs.declared.results.AllocJobResult.TheVariants as alloc
use Rattle.dist_types.specs.declared.results.AssignJobResult.{AssignJobResult}
use Rattle.dist_types.specs.declared.results.HeartbeatServerResult.{HeartbeatServerResult}
use Rattle.dist_types.specs.declared.results.JobState.{JobState}
use Rattle.dist_types.specs.declared.results.RunJobResult.{RunJobResult}
use Rattle.dist_types.specs.declared.results.SchedulerStatusResult.{SchedulerStatusResult}
use Rattle.dist_types.specs.declared.results.SubmitToolchainResult.{SubmitToolchainResult}
use Rattle.dist_types.specs.declared.results.UpdateJobStateResult.{UpdateJobStateResult}
use Rattle.dist_types.specs.declared.results.UpdateJobStateResult.TheVariants.{Success}
use Rattle.dist_wire.specs.Json.{heard_json, status_json, drained_json, response_json, update_json}
use Rattle.dist_wire.specs.Json.{assign_json, submit_json, ran_json}
use Rattle.dist_wire.specs.Response as sent
use Rattle.dist_wire.specs.Written.{heard_text, status_text, drained_text, response_text, update_text}
use Rattle.dist_wire.specs.Written.{assign_text, submit_text, ran_text}
use Rattle.core_rules.specs.Texts.{dropped_text}
use Rattle.core_rules.specs.declared.answers.Committed.{Committed}
use Rattle.core_rules.specs.declared.answers.Committed.TheVariants as committed
use Rattle.core_rules.specs.declared.entry.UpdateAnswer.{UpdateAnswer}
use Rattle.core_rules.specs.declared.entry.UpdateAnswer.TheVariants.{Accepted, Unknown, Wrong, Transition}
use Rattle.core_rules.specs.declared.error.SchedError.{SchedError}
use Rattle.core_rules.specs.declared.error.SchedError.TheVariants as error
use Rattle.http_routes.specs.declared.fault.RouteFault.{RouteFault}
use Rattle.http_routes.specs.declared.fault.RouteFault.TheVariants.{BadCpus, UnknownJob, WrongServer}
use Rattle.http_routes.specs.declared.fault.RouteFault.TheVariants.{BadTransition, IdsSpent}
use Rattle.http_routes.specs.declared.reply.Response.{Response}
use Rattle.http_routes.specs.Fault.{fault_response_of}
use Rattle.http_routes.specs.Reply.{response_of}

-- ---- of the scheduler

-- to a heartbeat
unfoldable pub heard_response : Bool → HeartbeatServerResult → Response
heard_response json answer = response_of heard_text heard_json json answer

-- to a status request
unfoldable pub status_response : Bool → SchedulerStatusResult → Response
status_response json answer = response_of status_text status_json json answer

-- to a wish to drain, by whether it names a registration
unfoldable pub drained_response : Bool → Bool → Response
drained_response json known = response_of drained_text drained_json json (record { known = known })

-- to an allocation
unfoldable pub alloc_response : Bool → AllocJobResult → Response
alloc_response json answer = response_of response_text response_json json (sent.response_of answer)

-- to a report on a job
unfoldable pub update_response : Bool → UpdateJobStateResult → Response
update_response json answer = response_of update_text update_json json answer

-- to who asked for a job, by what became of the commit of its reservation
abbrev pub commit_response : Bool → Bool → Committed → Response
commit_response json need_toolchain (committed.Kept job_alloc) =
    alloc_response json (alloc.Success job_alloc need_toolchain)
commit_response json need_toolchain (committed.Dropped job) =
    alloc_response json (alloc.Fail (dropped_text job))
commit_response json need_toolchain (committed.Foreign job) =
    alloc_response json (alloc.Fail (dropped_text job))

-- to a report on a job of that server, by the answer of the core entry
abbrev pub update_reply : Bool → UpdateAnswer → Addr → JobId → JobState → Response
update_reply json Accepted server job state = update_response json Success
update_reply json Unknown server job state = fault_response_of UnknownJob
update_reply json Wrong server job state = fault_response_of (WrongServer job server)
update_reply json (Transition from) server job state = fault_response_of (BadTransition from state)

-- what the scheduler's refusal of a server's request about a job is told as; want of memory is told by no
-- reply
abbrev pub core_fault : Addr → JobId → SchedError → Option RouteFault
core_fault server job (error.BadCpus cpus) = Some (BadCpus cpus)
core_fault server job error.IdsSpent = Some IdsSpent
core_fault server job error.UnknownJob = Some UnknownJob
core_fault server job error.WrongServer = Some (WrongServer job server)
core_fault server job (error.BadTransition from to) = Some (BadTransition from to)
core_fault server job error.Memory = None

-- ---- of a server

-- to an assignment
unfoldable pub assign_response : Bool → AssignJobResult → Response
assign_response json answer = response_of assign_text assign_json json answer

-- to an archive that was brought
unfoldable pub submit_response : Bool → SubmitToolchainResult → Response
submit_response json answer = response_of submit_text submit_json json answer

-- to a request to run a job
unfoldable pub run_response : Bool → RunJobResult → Response
run_response json answer = response_of ran_text ran_json json answer
