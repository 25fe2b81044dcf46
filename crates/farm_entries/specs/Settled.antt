-- What follows where a call is settled.
use Rattle.std.specs.Prelude.{◌≡◌, ℕ, List, drop, Bool, true, false, if◌then◌else◌, Option, Some, None}
use Rattle.std.specs.Prelude.{Result, Ok, Err}
use Rattle.dist_types.specs.declared.addr.Addr.{Addr}
use Rattle.dist_types.specs.declared.ids.JobId.{JobId}
use Rattle.dist_types.specs.declared.outgoing.CallFault.{CallFault}
use Rattle.dist_types.specs.declared.outgoing.CallFault.TheVariants.{Lost}
use Rattle.dist_types.specs.declared.results.AssignJobResult.{AssignJobResult}
use Rattle.dist_types.specs.declared.results.HeartbeatServerResult.{HeartbeatServerResult}
use Rattle.dist_types.specs.declared.results.JobState.TheVariants as state
use Rattle.dist_types.specs.declared.results.RunJobResult.{RunJobResult}
use Rattle.dist_types.specs.declared.results.UpdateJobStateResult.{UpdateJobStateResult}
use Rattle.dist_wire.specs.Reading.{update_at, heard_at}
use Rattle.dist_wire.specs.declared.run.RunJobHttpRequest.{RunJobHttpRequest}
use Rattle.http_routes.specs.CallReply.{IsAssigned, IsAnswer}
use Rattle.http_routes.specs.Fault.{fault_response_of}
use Rattle.http_routes.specs.Replies.{commit_response, submit_response, run_response}
use Rattle.http_routes.specs.declared.fault.RouteFault.TheVariants as fault
use Rattle.http_routes.specs.declared.reply.Response.{Response}
use Rattle.core_rules.specs.Answers.{committed_by, undone_by}
use Rattle.core_rules.specs.Log.{Core}
use Rattle.core_rules.specs.Rule.{rule, is_among}
use Rattle.core_rules.specs.Reservation.{unspent}
use Rattle.core_rules.specs.Ticket.{Ticket}
use Rattle.core_rules.specs.declared.call.Call.TheVariants as call
use Rattle.core_rules.specs.declared.entry.CoreEntry.{CoreEntry}
use Rattle.build_server.specs.Books.{held_for}
use Rattle.build_server.specs.Builds.{ran_of, built_of, run_answer}
use Rattle.build_server.specs.Rules.{submit_result}
use Rattle.build_server.specs.declared.fault.ServerFault.{ServerFault}
use Rattle.build_server.specs.declared.fault.ServerFault.TheVariants as refusal
use Rattle.build_server.specs.declared.run.Outcome.{Outcome}
use Rattle.build_server.specs.declared.submit.Submitted.{Submitted}
use Rattle.farm_entries.specs.declared.site.Site.{Site as Setup}
use Rattle.farm_entries.specs.declared.entry.Effect.{Effect}
use Rattle.farm_entries.specs.declared.entry.EntryWord.TheVariants.{Died}
use Rattle.farm_entries.specs.declared.entry.HeardAs.{HeardAs}
use Rattle.farm_entries.specs.declared.entry.HeardAs.TheVariants as heard
use Rattle.farm_entries.specs.declared.entry.StepKind.TheVariants as step
use Rattle.farm_entries.specs.declared.pending.Ask.{Ask}
use Rattle.farm_entries.specs.declared.pending.Ask.TheVariants.{Assign, Report}
use Rattle.farm_entries.specs.declared.pending.Told.{Told}
use Rattle.farm_entries.specs.declared.pending.Told.TheVariants as told
use Rattle.farm_entries.specs.Effects.{word_effect, reply_effect, step_effect, step_reply_effect}
use Rattle.farm_entries.specs.Effects.{step_call_effect, reply_to}
use Rattle.farm_entries.specs.Served.{state_call}
use Rattle.farm_entries.specs.Servers.{ServerNow, is_over}
use Rattle.farm_entries.specs.Weather.{Weather, Stores, Works}

-- ---- an assignment

-- what the reply to an assignment says: lost where there is none
abbrev pub IsOutcome : Option (List ℕ) → Result AssignJobResult CallFault → Type 0
IsOutcome None r = r ≡ Err Lost
IsOutcome (Some bytes) r = IsAssigned bytes r

-- the reservation is committed in the state that the server answered, or undone, and who asked for the job is
-- told
abbrev pub assignment_end : Core → ℕ → Bool → ℕ → Ticket → Result AssignJobResult CallFault → Effect
assignment_end core root json at t (Ok a) =
    let made = rule core (call.Commit at t.number t.job a.state) in
    reply_effect (Some made)
    (reply_to root (commit_response json a.need_toolchain (committed_by true made.kind t)))
assignment_end core root json at t (Err f) =
    let made = rule core (call.Undo at t.number t.job) in
    reply_effect (Some made) (reply_to root (fault_response_of (fault.AssignFailed (undone_by made.kind) f)))

-- ---- reports of a build server

-- what the reply to a report says: lost where there is none
abbrev pub IsUpdated : Option (List ℕ) → Result UpdateJobStateResult CallFault → Type 0
IsUpdated None r = r ≡ Err Lost
IsUpdated (Some bytes) r = IsAnswer update_at bytes r

-- what the reply to a heartbeat says
abbrev pub IsHeard : Option (List ℕ) → Result HeartbeatServerResult CallFault → Type 0
IsHeard None r = r ≡ Err Lost
IsHeard (Some bytes) r = IsAnswer heard_at bytes r

-- a report that was not accepted
abbrev pub unreported : Addr → ℕ → JobId → CallFault → Effect
unreported addr root job f = step_reply_effect addr (step.Unreported job)
    (reply_to root (fault_response_of (fault.UpdateFailed f)))

-- a submission that came to this
abbrev pub submission : Addr → ℕ → Bool → JobId → Submitted → Effect
submission addr root json job outcome = step_reply_effect addr (step.Submitted job outcome)
    (reply_to root (submit_response json (submit_result outcome)))

-- Ready was told of a job, whose archive was submitted in that weather
abbrev pub ReadyEnds : Weather → ServerNow → ℕ → Bool → JobId → List ℕ → Result UpdateJobStateResult CallFault
    → Effect → Type 0
ReadyEnds w s root json job archive (Ok u) x =
    (o : Submitted) × Stores w s job archive o × (x ≡ submission s.setup.addr root json job o)
ReadyEnds w s root json job archive (Err f) x = x ≡ unreported s.setup.addr root job f

-- a run that went so, whose end is told
abbrev pub running : Setup → Addr → JobId → Outcome → Effect
running setup addr job outcome = step_call_effect addr (step.Ran job (ran_of outcome) (built_of outcome))
    (state_call setup addr job state.Complete)

-- Started was told of a job, which was to be run in that weather
abbrev pub StartedEnds : Weather → Setup → ServerNow → ℕ → JobId → RunJobHttpRequest → List ℕ
    → Result UpdateJobStateResult CallFault → Effect → Type 0
StartedEnds w setup s root job run inputs (Ok u) x =
    (o : Outcome) × Works w s (held_for job s.held) run inputs o × (x ≡ running setup s.setup.addr job o)
StartedEnds w setup s root job run inputs (Err f) x = x ≡ unreported s.setup.addr root job f

-- the reply to a run that ended
abbrev pub ended_response : Bool → Result RunJobResult ServerFault → Response
ended_response json (Ok answer) = run_response json answer
ended_response json (Err (refusal.BuildFailed why)) = fault_response_of (fault.BuildFailed why)
ended_response json (Err (refusal.AlreadyAssigned job)) = fault_response_of (fault.AlreadyAssigned job)
ended_response json (Err (refusal.UpdateFailed f)) = fault_response_of (fault.UpdateFailed f)
ended_response json (Err refusal.Memory) = fault_response_of (fault.UpdateFailed Lost)

-- Complete was told of a job that ran so
abbrev pub complete_end : Addr → ℕ → Bool → JobId → Outcome → Result UpdateJobStateResult CallFault → Effect
complete_end addr root json job outcome (Ok u) = step_reply_effect addr (step.Finished job)
    (reply_to root (ended_response json (run_answer outcome)))
complete_end addr root json job outcome (Err f) = unreported addr root job f

-- how a heartbeat was heard
abbrev pub heard_as : Result HeartbeatServerResult CallFault → HeardAs
heard_as (Ok answer) = if answer.is_new then heard.New else heard.Old
heard_as (Err f) = heard.Lost

-- a report of the server goes on by its reply; the bytes are those that the event of the root brought
abbrev pub Reports : Weather → Setup → ServerNow → List ℕ → ℕ → Bool → Option (List ℕ) → Told → Effect
    → Type 0
Reports w setup s bytes root json reply (told.Ready job at) x =
    (r : Result UpdateJobStateResult CallFault) × IsUpdated reply r
    × ReadyEnds w s root json job (drop at bytes) r x
Reports w setup s bytes root json reply (told.Started job run at) x =
    (r : Result UpdateJobStateResult CallFault) × IsUpdated reply r
    × StartedEnds w setup s root job run (drop at bytes) r x
Reports w setup s bytes root json reply (told.Complete job outcome) x =
    (r : Result UpdateJobStateResult CallFault) × IsUpdated reply r
    × (x ≡ complete_end s.setup.addr root json job outcome r)
Reports w setup s bytes root json reply told.Heartbeat x =
    (r : Result HeartbeatServerResult CallFault) × IsHeard reply r
    × (x ≡ step_effect s.setup.addr (step.Heard (heard_as r)))

abbrev pub Lives : Weather → Setup → ℕ → ServerNow → List ℕ → ℕ → Bool → Option (List ℕ) → Told → Bool
    → Effect → Type 0
Lives w setup life s bytes root json reply told true x = x ≡ word_effect Died
Lives w setup life s bytes root json reply told false x = Reports w setup s bytes root json reply told x

-- the same in the life that made it; where that is over, who asked is gone
abbrev pub ReportsIn : Weather → Setup → ℕ → List ℕ → ℕ → Bool → Option (List ℕ) → Told → Option ServerNow
    → Effect → Type 0
ReportsIn w setup life bytes root json reply told None x = x ≡ word_effect Died
ReportsIn w setup life bytes root json reply told (Some s) x = Lives w setup life s bytes root json reply told
    (is_over life s) x

-- ---- the reservations of calls

-- the reservation of a call that asks for an assignment is unspent
abbrev pub IsOwnBy : List CoreEntry → Ask → Type 0
IsOwnBy core (Assign t) = is_among (unspent core) t.number t.job ≡ true
IsOwnBy core (Report server life told) = Unit {0}

abbrev pub IsOwn : List CoreEntry → Option Ask → Type 0
IsOwn core None = Unit {0}
IsOwn core (Some ask) = IsOwnBy core ask
