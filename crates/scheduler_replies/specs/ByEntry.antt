-- What is asked, its call and its entry, and the reply that the entry gives: for a farm's next entry and for a
-- place of the running log alike.
use Rattle.std.specs.Prelude.{◌≡◌, ℕ, Bool, true, Option, Some, None, if◌then◌else◌, Result, Ok, Err}
use Rattle.dist_types.specs.declared.outgoing.CallFault.{CallFault}
use Rattle.dist_types.specs.declared.results.AllocJobResult.TheVariants as alloc
use Rattle.dist_types.specs.declared.results.AssignJobResult.{AssignJobResult}
use Rattle.core_rules.specs.Answers.{committed_by, undone_by}
use Rattle.core_rules.specs.Log.{Core}
use Rattle.core_rules.specs.Rule.{rule, says_new_by, counts_by, knows_by}
use Rattle.core_rules.specs.Texts.{no_room_text}
use Rattle.core_rules.specs.Ticket.{Ticket}
use Rattle.core_rules.specs.declared.call.Call.{Call}
use Rattle.core_rules.specs.declared.call.Call.TheVariants as call
use Rattle.core_rules.specs.declared.entry.CoreEntry.{CoreEntry}
use Rattle.core_rules.specs.declared.entry.CoreKind.{CoreKind}
use Rattle.core_rules.specs.declared.entry.CoreKind.TheVariants as core
use Rattle.core_rules.specs.declared.entry.Reserved.TheVariants.{Job, NoRoom}
use Rattle.core_rules.specs.declared.entry.UpdateAnswer.{UpdateAnswer}
use Rattle.core_rules.specs.declared.entry.UpdateAnswer.TheVariants.{Unknown}
use Rattle.http_routes.specs.Fault.{fault_response_of}
use Rattle.http_routes.specs.Replies.{heard_response, status_response, alloc_response, update_reply}
use Rattle.http_routes.specs.Replies.{commit_response, drained_response}
use Rattle.http_routes.specs.declared.fault.RouteFault.TheVariants as fault
use Rattle.http_routes.specs.declared.reply.Response.{Response}
use Rattle.http_routes.specs.declared.route.SchedRouted.{SchedRouted}
use Rattle.http_routes.specs.declared.route.SchedRouted.TheVariants as asked
use Rattle.scheduler_steps.specs.Telling.{hears}

-- the core call of what is asked, at a moment; none for a heartbeat that is not taken, and none where the
-- reply is known
abbrev pub call_of : ℕ → SchedRouted → Option Call
call_of now (asked.Alloc tc) = Some (call.Reserve now)
call_of now (asked.Beat server beat) = if hears beat.num_cpus
    then Some (call.Beat now server beat.server_nonce beat.num_cpus beat.jwt_key) else None
call_of now (asked.Update server job state) = Some (call.Update now server job state)
call_of now asked.Status = Some (call.Status now)
call_of now (asked.Drain server drain) = Some (call.Drain now server drain.server_nonce drain.draining)
call_of now (asked.Done response) = None

-- the answer of an update's entry
abbrev pub update_by : CoreKind → UpdateAnswer
update_by (core.Update server job state answer) = answer
update_by other = Unknown

-- to an allocation, where no job was reserved
abbrev pub reserve_reply : Bool → CoreKind → Option Response
reserve_reply json (core.Reserve (Job job reg forgiven)) = None
reserve_reply json (core.Reserve (NoRoom standing)) =
    Some (alloc_response json (alloc.Fail (no_room_text standing)))
reserve_reply json other = Some (fault_response_of fault.IdsSpent)

-- the reply that its entry gives; none where a job was reserved, whose server is then asked
abbrev pub reply_by : Bool → SchedRouted → CoreKind → Option Response
reply_by json (asked.Alloc tc) kind = reserve_reply json kind
reply_by json (asked.Beat server beat) kind = Some (heard_response json (record { is_new = says_new_by kind }))
reply_by json (asked.Update server job state) kind =
    Some (update_reply json (update_by kind) server job state)
reply_by json asked.Status kind = Some (status_response json (counts_by kind))
reply_by json (asked.Drain server drain) kind = Some (drained_response json (knows_by kind))
reply_by json (asked.Done response) kind = Some response

-- the reply where no call is made: to a heartbeat's number of processors, and the one that is known
abbrev pub reply_without : SchedRouted → Option Response
reply_without (asked.Beat server beat) = Some (fault_response_of (fault.BadCpus beat.num_cpus))
reply_without (asked.Done response) = Some response
reply_without other = None

-- the reply that the entry of a spent reservation gives
abbrev pub settled_reply : Bool → Ticket → Result AssignJobResult CallFault → CoreKind → Response
settled_reply json r (Ok taken) kind =
    commit_response json taken.need_toolchain (committed_by true kind r)
settled_reply json r (Err cause) kind = fault_response_of (fault.AssignFailed (undone_by kind) cause)

-- The entry is the rule's for what was asked, and gives this reply; without one nothing was called, and this
-- is the reply.
abbrev pub RepliesAt : Bool → SchedRouted → ℕ → Core → Option CoreEntry → Response → Type 0
RepliesAt json what now core (Some e) reply = (c : Call) × (call_of now what ≡ Some c) × (e ≡ rule core c)
    × (reply_by json what e.kind ≡ Some reply)
RepliesAt json what now core None reply = (call_of now what ≡ None) × (reply_without what ≡ Some reply)
