-- What whoever asks a farm may count on: how often an entry is replied to, which requests get the reply that
-- their row names, and what a restart keeps.
use Rattle.std.specs.Prelude.{◌≡◌, ℕ, ◌+◌, suc, List, [], take, drop, slice_get, Bool, true, is_some, Option}
use Rattle.std.specs.Prelude.{Some}
use Rattle.std.specs.Prelude.{Ok}
use Rattle.dist_types.specs.Cause.{counted}
use Rattle.dist_types.specs.declared.addr.Addr.{Addr}
use Rattle.dist_types.specs.declared.ids.JobId.{JobId}
use Rattle.dist_types.specs.declared.results.AssignJobResult.{AssignJobResult}
use Rattle.dist_types.specs.declared.results.JobState.TheVariants as state
use Rattle.dist_types.specs.declared.results.UpdateJobStateResult.{UpdateJobStateResult}
use Rattle.dist_wire.specs.declared.run.RunJobHttpRequest.{RunJobHttpRequest}
use Rattle.http_head.specs.Head.{IsReply}
use Rattle.http_head.specs.declared.reply.Reply.{Reply as HttpReply}
use Rattle.http_routes.specs.CallReply.{IsAssigned}
use Rattle.http_routes.specs.Replies.{commit_response, submit_response}
use Rattle.http_routes.specs.declared.reply.Response.{Response}
use Rattle.http_routes.specs.declared.route.SchedRouted.TheVariants as asked
use Rattle.http_routes.specs.declared.server_route.ServerAsked.{ServerAsked}
use Rattle.http_routes.specs.declared.server_route.ServerRouted.TheVariants as server_asked
use Rattle.core_rules.specs.Answers.{committed_by}
use Rattle.core_rules.specs.Rule.{rule, is_initial}
use Rattle.core_rules.specs.Ticket.{Ticket}
use Rattle.core_rules.specs.declared.call.Call.TheVariants as call
use Rattle.core_rules.specs.declared.entry.CoreEntry.{CoreEntry}
use Rattle.build_server.specs.Books.{held_for}
use Rattle.build_server.specs.Builds.{ran_of, built_of, run_answer}
use Rattle.build_server.specs.Rules.{submit_result}
use Rattle.build_server.specs.declared.run.Outcome.{Outcome}
use Rattle.build_server.specs.declared.submit.Submitted.{Submitted}
use Rattle.toolchain_cache.specs.Archives.{Archives}
use Rattle.farm_script.specs.declared.event.EventKind.TheVariants.{Return, Restart}
use Rattle.farm_entries.specs.declared.site.Site.{Site as Setup}
use Rattle.farm_entries.specs.declared.entry.Entry.{Entry}
use Rattle.farm_entries.specs.declared.entry.Reply.{Reply}
use Rattle.farm_entries.specs.declared.entry.Step.{Step}
use Rattle.farm_entries.specs.declared.entry.StepKind.TheVariants as step
use Rattle.farm_entries.specs.Answers.{Asks}
use Rattle.farm_entries.specs.Builds.{SettlesCall}
use Rattle.farm_entries.specs.Calls.{settles_by}
use Rattle.farm_entries.specs.Effects.{reply_to}
use Rattle.farm_entries.specs.Seen.{core_log, core_of}
use Rattle.farm_entries.specs.Served.{AsksServer, state_call}
use Rattle.farm_entries.specs.Servers.{ServerNow, listed_in, server_now}
use Rattle.farm_entries.specs.Settled.{IsUpdated, ended_response}
use Rattle.farm_entries.specs.Tickets.{ticket_of}
use Rattle.farm_entries.specs.Ways.{way_of, to_scheduler, to_server}
use Rattle.farm_entries.specs.Weather.{Weather, Stores, Works, Opens, opened_effect}

-- ---- once

-- entry k replies to entry n
pub record RepliesTo (log : List Entry) (n k : ℕ) : Type 0 where
  pub entry : Entry
  pub there : slice_get log k ≡ Some entry
  pub reply : Reply
  pub replies : entry.reply ≡ Some reply
  pub to : reply.to ≡ n

-- an entry is replied to at most once: two entries that reply to it are one
abbrev pub AreRepliedOnce : List Entry → Type 0
AreRepliedOnce log = (n j k : ℕ) → RepliesTo log n j → RepliesTo log n k → j ≡ k

-- ---- requests that wait for a call

-- Entry n brings bytes to the scheduler that ask for a job, with that wish for the form of the reply, and
-- reserved one, with that ticket.
pub record IsReserved (setup : Setup) (log : List Entry) (n : ℕ) (json : Bool)
    (ticket : Ticket) : Type 0 where
  pub entry : Entry
  pub there : slice_get log n ≡ Some entry
  pub peer : Addr
  pub bytes : List ℕ
  pub comes : way_of setup (take n log) entry.event.kind ≡ to_scheduler peer bytes
  pub tc : List ℕ
  pub asks : Asks setup peer bytes (record { what = asked.Alloc tc; json = json })
  pub reserves : ticket_of (core_log (take n log)) entry.core ≡ Some ticket

-- Entry n brings bytes to the server at the address, which is in that life, and they ask that of it.
pub record AsksAt (setup : Setup) (log : List Entry) (n : ℕ) (server : Addr) (life : ℕ) (bytes : List ℕ)
    (a : ServerAsked) : Type 0 where
  pub entry : Entry
  pub there : slice_get log n ≡ Some entry
  pub now : ServerNow
  pub comes : way_of setup (take n log) entry.event.kind ≡ to_server now bytes
  pub at : now.setup.addr ≡ server
  pub lives : now.life ≡ life
  pub asks : AsksServer now bytes a

-- ---- calls that come back

-- entry k settles the call of entry n with those bytes as its reply
pub record BringsBack (log : List Entry) (n k : ℕ) (bytes : List ℕ) : Type 0 where
  pub settles : SettlesCall log n k
  pub names : settles_by (take k log) settles.entry.event.kind ≡ Some (n, Some bytes)

-- The call of entry n, a report of the server in that life, is granted by entry k: it comes back in that
-- life, as a 200 that begins with an answer. The server is then that.
pub record IsGranted (setup : Setup) (log : List Entry) (n k : ℕ) (server : Addr) (life : ℕ)
    (now : ServerNow) : Type 0 where
  pub bytes : List ℕ
  pub back : BringsBack log n k bytes
  pub answer : UpdateJobStateResult
  pub granted : IsUpdated (Some bytes) (Ok answer)
  pub at : server_now setup (take k log) server ≡ Some now
  pub lives : now.life ≡ life

-- The call of entry n, a report of the server in that life, comes back in that life by entry k, which returns
-- a delivery of it that got a 200. The server is then that.
pub record IsReturned (setup : Setup) (log : List Entry) (n k : ℕ) (server : Addr) (life : ℕ)
    (now : ServerNow) : Type 0 where
  pub bytes : List ℕ
  pub back : BringsBack log n k bytes
  pub delivery : ℕ
  pub returns : back.settles.entry.event.kind ≡ Return delivery
  pub reply : HttpReply
  pub is : IsReply bytes reply
  pub ok : reply.code ≡ 200
  pub at : server_now setup (take k log) server ≡ Some now
  pub lives : now.life ≡ life

-- The call of entry n comes back by entry k, which returns a delivery of it that got a 200, with those bytes.
pub record ReturnsOk (log : List Entry) (n k : ℕ) (bytes : List ℕ) : Type 0 where
  pub back : BringsBack log n k bytes
  pub delivery : ℕ
  pub returns : back.settles.entry.event.kind ≡ Return delivery
  pub reply : HttpReply
  pub is : IsReply bytes reply
  pub ok : reply.code ≡ 200

-- ---- what they get

-- entry k commits a reservation, and replies to entry n what the commit says: the job with its token where it
-- is kept, else that it was dropped
pub record IsCommitted (setup : Setup) (log : List Entry) (n k : ℕ) (json : Bool) (t : Ticket)
    (a : AssignJobResult) : Type 0 where
  pub entry : Entry
  pub there : slice_get log k ≡ Some entry
  pub made : CoreEntry
  pub commits : made ≡ rule (core_of setup (take k log)) (call.Commit entry.event.at t.number t.job a.state)
  pub core : entry.core ≡ Some made
  pub replies : entry.reply ≡ Some
      (reply_to n (commit_response json a.need_toolchain (committed_by true made.kind t)))

-- entry k has that step, and replies so to entry n
pub record EndsBy (log : List Entry) (n k : ℕ) (step : Step) (response : Response) : Type 0 where
  pub entry : Entry
  pub there : slice_get log k ≡ Some entry
  pub steps : entry.step ≡ Some step
  pub replies : entry.reply ≡ Some (reply_to n response)

-- a request for a job that reserved one gets the 200 of an allocation where its call comes back as a 200 that
-- begins with an answer, pending or ready
abbrev pub AllocationsEnd : Setup → List Entry → Type 0
AllocationsEnd setup log =
    (n k : ℕ) (json : Bool) (t : Ticket) (bytes : List ℕ) (a : AssignJobResult)
    → IsReserved setup log n json t → BringsBack log n k bytes → IsAssigned bytes (Ok a)
    → IsCommitted setup log n k json t a

-- a submission gets the 200 of what it comes to in that weather, over what the server keeps then, where its
-- call is granted
abbrev pub SubmissionsEnd : Weather → Setup → List Entry → Type 0
SubmissionsEnd w setup log =
    (n k : ℕ) (server : Addr) (life : ℕ) (job : JobId) (json : Bool) (body : ℕ) (bytes : List ℕ)
    (now : ServerNow)
    → AsksAt setup log n server life bytes
    (record { what = server_asked.Submit job; json = json; body = body })
    → IsGranted setup log n k server life now
    → (outcome : Submitted) × Stores w now job (drop body bytes) outcome
    × EndsBy log n k (record { server = server; kind = step.Submitted job outcome })
    (submit_response json (submit_result outcome))

-- entry j runs the job so at the server, and tells the scheduler that it is complete
pub record IsRunBy (setup : Setup) (log : List Entry) (j : ℕ) (server : Addr) (job : JobId)
    (outcome : Outcome) : Type 0 where
  pub entry : Entry
  pub there : slice_get log j ≡ Some entry
  pub steps : entry.step ≡ Some
      (record { server = server; kind = step.Ran job (ran_of outcome) (built_of outcome) })
  pub tells : entry.call ≡ Some (state_call setup server job state.Complete)

-- A request to run a job is run in that weather, over what the server keeps then, where its first call is
-- granted; where the second is too, the reply is that of its outcome: a 200 where the job was built or is not
-- held.
abbrev pub RunsEnd : Weather → Setup → List Entry → Type 0
RunsEnd w setup log =
    (n j : ℕ) (server : Addr) (life : ℕ) (job : JobId) (run : RunJobHttpRequest) (at : ℕ) (json : Bool)
    (body : ℕ) (bytes : List ℕ) (now : ServerNow)
    → AsksAt setup log n server life bytes
    (record { what = server_asked.Run job run at; json = json; body = body })
    → IsGranted setup log n j server life now
    → (outcome : Outcome) × Works w now (held_for job now.held) run (drop (body + at) bytes) outcome
    × IsRunBy setup log j server job outcome
    × ((k : ℕ) (later : ServerNow) → IsGranted setup log j k server life later
    → EndsBy log n k (record { server = server; kind = step.Finished job })
    (ended_response json (run_answer outcome)))

-- ---- restarts

-- the server behind a restart with that key and nonce, whose opening came to this
abbrev pub reopened : ServerNow → List ℕ → ℕ → Option Archives → ServerNow
reopened now key nonce found = record {
  setup = now.setup;
  life = counted now.life;
  key = key;
  nonce = nonce;
  running = is_some found;
  held = [];
  archives = listed_in found;
  builds = now.builds;
}

-- A restart of a server lists what its opening in that weather gives, which are in calm weather the archives
-- that it had, in their order. Nothing is held after it, and key and nonce are the new ones.
abbrev pub RestartsKeep : Weather → Setup → List Entry → Type 0
RestartsKeep w setup log =
    (k : ℕ) (e : Entry) (server : Addr) (key : List ℕ) (nonce : ℕ) (now : ServerNow)
    → slice_get log k ≡ Some e → e.event.kind ≡ Restart server key nonce
    → server_now setup (take k log) server ≡ Some now
    → (found : Option Archives) × Opens w now found × (e.step ≡ (opened_effect now found).step)
    × (server_now setup (take (suc k) log) server ≡ Some (reopened now key nonce found))

-- ---- all of these

pub record IsReliable (w : Weather) (setup : Setup) (log : List Entry) : Type 0 where
  pub replied : AreRepliedOnce log
  pub allocations : AllocationsEnd setup log
  pub submissions : SubmissionsEnd w setup log
  pub runs : RunsEnd w setup log
  pub restarts : RestartsKeep w setup log

-- ---- what a 200 of the scheduler grants

-- Where the farm's words can be read, the return of a delivery that got a 200 grants what was asked. The reply
-- to a call that asks a server to take a job is an assignment, pending or ready, and the request for the job
-- gets the 200 of its commit. A server's report is granted: that of a submission, that a run starts, and that
-- it is complete.
pub record ReturnsGrant (setup : Setup) (log : List Entry) : Type 0 where
  pub allocations : (n k : ℕ) (json : Bool) (t : Ticket) (bytes : List ℕ)
      → IsReserved setup log n json t → ReturnsOk log n k bytes
      → (a : AssignJobResult) × IsAssigned bytes (Ok a) × (is_initial a.state ≡ true)
      × IsCommitted setup log n k json t a
  pub submissions : (n k : ℕ) (server : Addr) (life : ℕ) (job : JobId) (json : Bool) (body : ℕ)
      (bytes : List ℕ) (now : ServerNow)
      → AsksAt setup log n server life bytes
      (record { what = server_asked.Submit job; json = json; body = body })
      → IsReturned setup log n k server life now
      → IsGranted setup log n k server life now
  pub starts : (n j : ℕ) (server : Addr) (life : ℕ) (job : JobId) (run : RunJobHttpRequest) (at : ℕ)
      (json : Bool) (body : ℕ) (bytes : List ℕ) (now : ServerNow)
      → AsksAt setup log n server life bytes
      (record { what = server_asked.Run job run at; json = json; body = body })
      → IsReturned setup log n j server life now
      → IsGranted setup log n j server life now
  pub ends : (n j k : ℕ) (server : Addr) (life : ℕ) (job : JobId) (run : RunJobHttpRequest) (at : ℕ)
      (json : Bool) (body : ℕ) (bytes : List ℕ) (now later : ServerNow)
      → AsksAt setup log n server life bytes
      (record { what = server_asked.Run job run at; json = json; body = body })
      → IsGranted setup log n j server life now
      → IsReturned setup log j k server life later → IsGranted setup log j k server life later
