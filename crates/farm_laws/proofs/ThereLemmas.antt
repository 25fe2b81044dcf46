-- Each event has a next entry over the entries of a farm.
use Rattle.std.proofs.Common.{◌≡◌, inl, inr, ℕ, Bool, true, false, List, length, drop, Option, Some, None}
use Rattle.std.proofs.Common.{Result, Ok, Err, refl}
use Rattle.dist_types.specs.declared.addr.Addr.{Addr}
use Rattle.dist_types.specs.declared.outgoing.CallFault.{CallFault}
use Rattle.dist_types.specs.declared.outgoing.CallFault.TheVariants.{Lost}
use Rattle.dist_types.specs.declared.results.AssignJobResult.{AssignJobResult}
use Rattle.http_head.specs.declared.error.HttpError.TheVariants.{ParseError}
use Rattle.http_routes.specs.declared.route.Asked.{Asked}
use Rattle.dist_token.specs.Verdict.{job_verdict}
use Rattle.dist_types.specs.declared.results.UpdateJobStateResult.{UpdateJobStateResult}
use Rattle.dist_types.specs.declared.results.HeartbeatServerResult.{HeartbeatServerResult}
use Rattle.dist_wire.specs.Reading.{assign_at, update_at, heard_at}
use Rattle.http_routes.specs.Admission.{equal_admission}
use Rattle.http_routes.specs.Asked.{bad_question}
use Rattle.http_routes.specs.Refusal.{refusal_response}
use Rattle.http_routes.specs.Route.{question_under}
use Rattle.http_routes.specs.ServerRoute.{server_question}
use Rattle.http_routes.specs.declared.refusal.Refusal.TheVariants.{BadHead as BadHeadRefusal}
use Rattle.http_routes.specs.declared.server_route.ServerAsked.{ServerAsked}
use Rattle.http_routes.specs.declared.server_route.ServerRouted.TheVariants as server_asked
use Rattle.farm_entries.specs.Servers.{ServerNow, server_now, is_over}
use Rattle.farm_entries.specs.Served.{AsksServer, served, beat_effect, books_of, run_outcome}
use Rattle.farm_entries.specs.Weather.{calm, opened_effect}
use Rattle.build_server.specs.Books.{held_for}
use Rattle.build_server.specs.Rules.{submit_verdict}
use Rattle.dist_types.specs.declared.ids.JobId.{JobId}
use Rattle.dist_wire.specs.declared.run.RunJobHttpRequest.{RunJobHttpRequest}
use Rattle.farm_entries.specs.declared.entry.StepKind.TheVariants as kinds
use Rattle.farm_entries.specs.declared.pending.Told.{Told}
use Rattle.farm_entries.specs.declared.pending.Told.TheVariants as told
use Rattle.http_routes.specs.CallReply.{told_by, assigned_by, answer_by, IsAssigned, IsAnswer}
use Rattle.farm_entries.specs.declared.site.Site.{Site as Setup}
use Rattle.farm_entries.specs.declared.entry.Effect.{Effect}
use Rattle.farm_entries.specs.declared.entry.Entry.{Entry}
use Rattle.farm_entries.specs.declared.entry.EntryWord.TheVariants.{Void, Down, Died}
use Rattle.farm_entries.specs.declared.pending.Ask.{Ask}
use Rattle.farm_entries.specs.declared.pending.Ask.TheVariants.{Assign, Report}
use Rattle.farm_entries.specs.declared.pending.Pending.{Pending}
use Rattle.farm_entries.specs.Answers.{Asks, answer_to}
use Rattle.farm_entries.specs.Begun.{IsCallOf}
use Rattle.farm_entries.specs.Calls.{waiting_at}
use Rattle.farm_entries.specs.Effects.{entry_of, word_effect, step_effect}
use Rattle.farm_entries.specs.Waiting.{IsKept, kept_at, AreKept}
use Rattle.farm_entries.specs.Lawful.{HasNext}
use Rattle.farm_entries.specs.Next.{GoesOn, IsSettled, IsMade}
use Rattle.farm_entries.specs.Seen.{core_of, serves}
use Rattle.farm_entries.specs.Settled.{IsOutcome, assignment_end, IsUpdated, IsHeard, ReadyEnds, StartedEnds}
use Rattle.farm_entries.specs.Settled.{unreported, submission, running}
use Rattle.farm_entries.specs.Settled.{complete_end, heard_as, Reports, Lives, ReportsIn}
use Rattle.farm_entries.specs.Ways.{Way, way_of, brought_at, to_nothing, to_nobody, to_scheduler, to_server}
use Rattle.farm_entries.specs.Ways.{to_call, to_beat, to_restart}
use Rattle.farm_laws.proofs.DecideLemmas.{RequestIn, request_in, ReplyIn, reply_in}

-- ---- what bytes say

question_there : (setup : Setup) (peer : Addr) (bytes : List ℕ) → (a : Asked) × Asks setup peer bytes a
question_there setup peer bytes = by_request (request_in bytes)
  where
    by_request : RequestIn bytes → (a : Asked) × Asks setup peer bytes a
    by_request (inl (r, is)) = (
      question_under setup.rules (equal_admission setup.scheduler.client) (serves setup.scheduler.auth) r
          peer,
      inl (r, is, refl),
    )
    by_request (inr none) = (bad_question, inr (none, refl))

server_question_there : (s : ServerNow) (bytes : List ℕ) → (a : ServerAsked) × AsksServer s bytes a
server_question_there s bytes = by_request (request_in bytes)
  where
    by_request : RequestIn bytes → (a : ServerAsked) × AsksServer s bytes a
    by_request (inl (r, is)) = (server_question (job_verdict s.key) bytes r, inl (r, is, refl))
    by_request (inr none) = (
      record {
        what = server_asked.Done (refusal_response BadHeadRefusal);
        json = false;
        body = length bytes;
      },
      inr (none, refl),
    )

assignment_there : (bytes : List ℕ) → (r : Result AssignJobResult CallFault) × IsAssigned bytes r
assignment_there bytes = by_reply (reply_in bytes)
  where
    by_reply : ReplyIn bytes → (r : Result AssignJobResult CallFault) × IsAssigned bytes r
    by_reply (inl (r, is)) =
        (assigned_by (told_by assign_at r), (told_by assign_at r, inl (r, is, refl), refl))
    by_reply (inr none) = (assigned_by (Err ParseError), (Err ParseError, inr (none, refl), refl))

telling_there : {M : Type 0} (at : List ℕ → Option (M × List ℕ)) (bytes : List ℕ) → (r : Result M CallFault)
    × IsAnswer at bytes r
telling_there {M} at bytes = by_reply (reply_in bytes)
  where
    by_reply : ReplyIn bytes → (r : Result M CallFault) × IsAnswer at bytes r
    by_reply (inl (r, is)) = (answer_by (told_by at r), (told_by at r, inl (r, is, refl), refl))
    by_reply (inr none) = (answer_by (Err ParseError), (Err ParseError, inr (none, refl), refl))

outcome_there : (reply : Option (List ℕ)) → (r : Result AssignJobResult CallFault) × IsOutcome reply r
outcome_there None = (Err Lost, refl)
outcome_there (Some bytes) = assignment_there bytes

update_there : (reply : Option (List ℕ)) → (r : Result UpdateJobStateResult CallFault) × IsUpdated reply r
update_there None = (Err Lost, refl)
update_there (Some bytes) = telling_there update_at bytes

hearing_there : (reply : Option (List ℕ)) → (r : Result HeartbeatServerResult CallFault) × IsHeard reply r
hearing_there None = (Err Lost, refl)
hearing_there (Some bytes) = telling_there heard_at bytes

-- ---- what follows

ready_there : (s : ServerNow) (root : ℕ) (json : Bool) (job : JobId) (archive : List ℕ)
    (r : Result UpdateJobStateResult CallFault) → (x : Effect) × ReadyEnds calm s root json job archive r x
ready_there s root json job archive (Ok u) =
    let o = submit_verdict (books_of s) (held_for job s.held) archive in
    (submission s.setup.addr root json job o, (o, refl, refl))
ready_there s root json job archive (Err f) = (unreported s.setup.addr root job f, refl)

started_there : (setup : Setup) (s : ServerNow) (root : ℕ) (job : JobId) (run : RunJobHttpRequest)
    (inputs : List ℕ) (r : Result UpdateJobStateResult CallFault) → (x : Effect)
    × StartedEnds calm setup s root job run inputs r x
started_there setup s root job run inputs (Ok u) =
    let o = run_outcome s (held_for job s.held) run.outputs inputs in
    (running setup s.setup.addr job o, (o, refl, refl))
started_there setup s root job run inputs (Err f) = (unreported s.setup.addr root job f, refl)

end_there : (setup : Setup) (s : ServerNow) (bytes : List ℕ) (root : ℕ) (json : Bool)
    (reply : Option (List ℕ)) (t : Told) → (x : Effect) × Reports calm setup s bytes root json reply t x
end_there setup s bytes root json reply (told.Ready job at) = let r = update_there reply
    in let x = ready_there s root json job (drop at bytes) r.0 in (x.0, (r.0, r.1, x.1))
end_there setup s bytes root json reply (told.Started job run at) = let r = update_there reply
    in let x = started_there setup s root job run (drop at bytes) r.0 in (x.0, (r.0, r.1, x.1))
end_there setup s bytes root json reply (told.Complete job outcome) = let r = update_there reply
    in (complete_end s.setup.addr root json job outcome r.0, (r.0, r.1, refl))
end_there setup s bytes root json reply told.Heartbeat = let r = hearing_there reply
    in (step_effect s.setup.addr (kinds.Heard (heard_as r.0)), (r.0, r.1, refl))

life_there : (setup : Setup) (life : ℕ) (s : ServerNow) (bytes : List ℕ) (root : ℕ) (json : Bool)
    (reply : Option (List ℕ)) (t : Told) (over : Bool) → (x : Effect)
    × Lives calm setup life s bytes root json reply t over x
life_there setup life s bytes root json reply t true = (word_effect Died, refl)
life_there setup life s bytes root json reply t false = end_there setup s bytes root json reply t

report_there : (setup : Setup) (life : ℕ) (bytes : List ℕ) (root : ℕ) (json : Bool) (reply : Option (List ℕ))
    (t : Told) (o : Option ServerNow) → (x : Effect) × ReportsIn calm setup life bytes root json reply t o x
report_there setup life bytes root json reply t None = (word_effect Died, refl)
report_there setup life bytes root json reply t (Some s) = life_there setup life s bytes root json reply t
    (is_over life s)

way_there : (setup : Setup) (log : List Entry) (at root : ℕ) (json : Bool) (reply : Option (List ℕ))
    (ask : Ask) → (x : Effect) × GoesOn calm setup log at root json reply ask x
way_there setup log at root json reply (Assign t) = let r = outcome_there reply
    in (assignment_end (core_of setup log) root json at t r.0, (r.0, r.1, refl))
way_there setup log at root json reply (Report server life t) =
    report_there setup life (brought_at log root) root json reply t (server_now setup log server)

-- what is kept of a call that waits
record Known (setup : Setup) (log : List Entry) (n : ℕ) : Type 0 where
  pending : Pending
  call : IsCallOf setup log n pending

kept_known : (setup : Setup) (log : List Entry) (n : ℕ) (w : Entry) (o : Option Pending)
    → waiting_at log n ≡ Some w → IsKept setup log n o → Known setup log n
kept_known setup log n w None is kept = absurd cc
kept_known setup log n w (Some p) is kept = record { pending = p; call = kept.call }

settled_there : (setup : Setup) (log : List Entry) (ps : List (Option Pending)) → AreKept setup log ps
    → (at n : ℕ) (reply : Option (List ℕ)) (o : Option Entry) → waiting_at log n ≡ o
    → (x : Effect) × IsSettled calm setup log at n reply o x
settled_there setup log ps kept at n reply None is = (word_effect Void, refl)
settled_there setup log ps kept at n reply (Some w) is =
    let k = kept_known setup log n w (kept_at ps n) is (kept.each n) in
    let x = way_there setup log at k.pending.root k.pending.json reply k.pending.ask in
    (x.0, (k.pending, k.call, x.1))

made_there : (setup : Setup) (log : List Entry) (ps : List (Option Pending)) → AreKept setup log ps
    → (at : ℕ) (way : Way) → (x : Effect) × IsMade calm setup log at way x
made_there setup log ps kept at (to_scheduler peer bytes) =
    let a = question_there setup peer bytes in
    (answer_to (core_of setup log) (length log) at a.0.json a.0.what, (a.0, a.1, refl))
made_there setup log ps kept at (to_call n reply) = settled_there setup log ps kept at n reply
    (waiting_at log n) refl
made_there setup log ps kept at (to_server s bytes) =
    let a = server_question_there s bytes in
    (served setup s (length log) a.0.json a.0.what, (a.0, a.1, refl))
made_there setup log ps kept at (to_beat s) = (beat_effect setup s, refl)
made_there setup log ps kept at (to_restart s key nonce) =
    (opened_effect s (Some s.archives), (Some s.archives, refl, refl))
made_there setup log ps kept at to_nothing = (word_effect Void, refl)
made_there setup log ps kept at to_nobody = (word_effect Down, refl)

pub has_next : (setup : Setup) (log : List Entry) (ps : List (Option Pending)) → AreKept setup log ps
    → HasNext setup log
has_next setup log ps kept event =
    let x = made_there setup log ps kept event.at (way_of setup log event.kind) in
    (entry_of event x.0, (x.0, x.1, refl))
