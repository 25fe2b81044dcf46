-- What the scheduler does with what is asked of it.
use Rattle.std.specs.Prelude.{◌≡◌, ℕ, List, Bool, ◌&&◌, nat_le, if◌then◌else◌, Some, None}
use Rattle.std.specs.Option.{option_map}
use Rattle.dist_types.specs.declared.addr.Addr.{Addr}
use Rattle.dist_types.specs.declared.results.AllocJobResult.TheVariants as alloc
use Rattle.dist_wire.specs.declared.heartbeat.HeartbeatServerHttpRequest.{HeartbeatServerHttpRequest}
use Rattle.http_routes.specs.Admission.{equal_admission}
use Rattle.http_routes.specs.Asked.{IsAskedUnder}
use Rattle.http_routes.specs.Fault.{fault_response_of}
use Rattle.core_rules.specs.Texts.{no_room_text}
use Rattle.http_routes.specs.Requests.{assign_request_text}
use Rattle.http_routes.specs.declared.fault.RouteFault.TheVariants as fault
use Rattle.http_routes.specs.declared.route.Asked.{Asked}
use Rattle.http_routes.specs.declared.route.SchedRouted.{SchedRouted}
use Rattle.http_routes.specs.declared.route.SchedRouted.TheVariants as asked
use Rattle.core_rules.specs.Log.{Core}
use Rattle.core_rules.specs.Rule.{rule, says_new_entry, counts_of, knows_of}
use Rattle.core_rules.specs.Ticket.{Ticket}
use Rattle.core_rules.specs.declared.call.Call.TheVariants as call
use Rattle.core_rules.specs.declared.entry.CoreEntry.{CoreEntry}
use Rattle.core_rules.specs.declared.entry.CoreKind.{CoreKind}
use Rattle.core_rules.specs.declared.entry.CoreKind.TheVariants as core
use Rattle.core_rules.specs.declared.entry.Reserved.TheVariants.{Job, NoRoom}
use Rattle.core_rules.specs.declared.entry.UpdateAnswer.{UpdateAnswer}
use Rattle.core_rules.specs.declared.entry.UpdateAnswer.TheVariants.{Unknown}
use Rattle.farm_entries.specs.declared.site.Site.{Site as Setup}
use Rattle.farm_entries.specs.declared.entry.Effect.{Effect}
use Rattle.farm_entries.specs.declared.entry.OutCall.{OutCall}
use Rattle.farm_entries.specs.Effects.{reply_effect, call_effect, reply_to}
use Rattle.http_routes.specs.Replies.{heard_response, status_response, drained_response, alloc_response}
use Rattle.http_routes.specs.Replies.{update_reply}
use Rattle.farm_entries.specs.Seen.{serves}
use Rattle.farm_entries.specs.Tickets.{ticket_by}

-- the call that asks the reservation's server to take the job
abbrev pub assign_call : List ℕ → Ticket → OutCall
assign_call tc t = record { target = t.server; bytes = assign_request_text t.server t.job t.auth tc }

-- a heartbeat with 1 to 4294967295 processors is taken
abbrev pub hears : ℕ → Bool
hears cpus = nat_le 1 cpus && nat_le cpus 4294967295

-- a heartbeat
abbrev pub heard_effect : Core → ℕ → ℕ → Bool → Addr → HeartbeatServerHttpRequest → Effect
heard_effect core number at json server beat =
    let made = rule core (call.Beat at server beat.server_nonce beat.num_cpus beat.jwt_key) in
    if hears beat.num_cpus then reply_effect (Some made)
    (reply_to number (heard_response json (record { is_new = says_new_entry made })))
    else reply_effect None (reply_to number (fault_response_of (fault.BadCpus beat.num_cpus)))

-- the answer of an update's entry
abbrev pub update_by : CoreKind → UpdateAnswer
update_by (core.Update server job state answer) = answer
update_by other = Unknown

-- a reserve: the call that asks the picked server to take the job, or the reply where none is picked
abbrev pub alloc_effect : Core → ℕ → Bool → List ℕ → CoreEntry → CoreKind → Effect
alloc_effect seen number json tc made (core.Reserve (Job job reg forgiven)) =
    call_effect (Some made) (option_map (assign_call tc)
    (ticket_by seen.log (core.Reserve (Job job reg forgiven))))
alloc_effect seen number json tc made (core.Reserve (NoRoom standing)) = reply_effect (Some made)
    (reply_to number (alloc_response json (alloc.Fail (no_room_text standing))))
alloc_effect seen number json tc made other = reply_effect (Some made)
    (reply_to number (fault_response_of fault.IdsSpent))

-- what is asked by the entry of that number at that moment: the core entry that the rule gives, and a reply
-- or a call that says the same
abbrev pub answer_to : Core → ℕ → ℕ → Bool → SchedRouted → Effect
answer_to core number at json (asked.Alloc tc) = let made = rule core (call.Reserve at)
    in alloc_effect core number json tc made made.kind
answer_to core number at json (asked.Beat server beat) = heard_effect core number at json server beat
answer_to core number at json (asked.Update server job state) =
    let made = rule core (call.Update at server job state) in
    reply_effect (Some made) (reply_to number (update_reply json (update_by made.kind) server job state))
answer_to core number at json asked.Status =
    let made = rule core (call.Status at) in
    reply_effect (Some made) (reply_to number (status_response json (counts_of made)))
answer_to core number at json (asked.Drain server drain) =
    let made = rule core (call.Drain at server drain.server_nonce drain.draining) in
    reply_effect (Some made) (reply_to number (drained_response json (knows_of made)))
answer_to core number at json (asked.Done response) = reply_effect None (reply_to number response)

-- the bytes ask that of the scheduler, by the rules of the farm
abbrev pub Asks : Setup → Addr → List ℕ → Asked → Type 0
Asks setup peer bytes a = IsAskedUnder setup.rules (equal_admission setup.scheduler.client)
    (serves setup.scheduler.auth) bytes peer a

-- the scheduler does what a peer's bytes ask
abbrev pub IsAnswered : Setup → Core → ℕ → ℕ → Addr → List ℕ → Effect → Type 0
IsAnswered setup core number at peer bytes x = (a : Asked) × Asks setup peer bytes a
    × (x ≡ answer_to core number at a.json a.what)
