-- Which builds a run has, and what each goes on from.
use Rattle.std.specs.Prelude.{◌≡◌, ℕ, suc, ◌<◌, ◌≤◌, List, length, take, drop, slice_get, Bool, true, Option}
use Rattle.std.specs.Prelude.{Some, None, codes}
use Rattle.std.specs.List.{AllByRecursion, list_all}
use Rattle.dist_types.specs.Addr.{IsAddr}
use Rattle.dist_types.specs.declared.addr.Addr.{Addr}
use Rattle.dist_types.specs.declared.ids.JobId.{JobId}
use Rattle.dist_types.specs.declared.results.JobState.TheVariants as state
use Rattle.dist_token.specs.Verdict.{job_verdict}
use Rattle.http_head.specs.Head.{IsRequest}
use Rattle.http_head.specs.declared.request.Request.{Request}
use Rattle.http_routes.specs.InOrder.{NamesJob}
use Rattle.http_routes.specs.Sender.{ShowsJob}
use Rattle.core_rules.specs.Job.{state_of}
use Rattle.core_rules.specs.declared.entry.CoreKind.TheVariants as core
use Rattle.core_rules.specs.declared.entry.UpdateAnswer.TheVariants.{Accepted}
use Rattle.build_server.specs.declared.run.Ran.TheVariants as ran
use Rattle.farm_script.specs.declared.event.EventKind.TheVariants.{Deliver, Return}
use Rattle.farm_entries.specs.declared.site.Site.{Site as Setup}
use Rattle.farm_script.specs.declared.setup.SetupAuth.{SetupAuth}
use Rattle.farm_script.specs.declared.setup.SetupAuth.TheVariants.{Plain, Jwt}
use Rattle.farm_script.specs.Words.{is_visible}
use Rattle.farm_entries.specs.declared.entry.Entry.{Entry}
use Rattle.farm_entries.specs.declared.entry.Step.{Step}
use Rattle.farm_entries.specs.declared.entry.StepKind.{StepKind}
use Rattle.farm_entries.specs.declared.entry.StepKind.TheVariants as step
use Rattle.farm_entries.specs.Calls.{settled_at}
use Rattle.farm_entries.specs.Seen.{core_log}
use Rattle.farm_entries.specs.Served.{state_call}
use Rattle.farm_entries.specs.Servers.{ServerNow, server_now}
use Rattle.farm_entries.specs.Ways.{way_of, to_server}

-- ---- settlements

-- entry k of the log settled the call of entry n
pub record SettlesCall (log : List Entry) (n k : ℕ) : Type 0 where
  pub entry : Entry
  pub there : slice_get log k ≡ Some entry
  pub settles : settled_at n (record { before = take k log; at = entry; after = drop (suc k) log }) ≡ true

-- a call is settled at most once: two entries that settled it are one
abbrev pub AreSettledOnce : List Entry → Type 0
AreSettledOnce log = (n j k : ℕ) → SettlesCall log n j → SettlesCall log n k → j ≡ k

-- ---- builds

-- the job whose build a step of that kind tells: the builder was asked, and built it or refused
abbrev pub build_by : StepKind → Option JobId
build_by (step.Ran job (ran.Built tc) result) = Some job
build_by (step.Ran job (ran.Refused tc) result) = Some job
build_by other = None

-- the entry tells a build of the job by the server at that address
pub record IsBuild (e : Entry) (server : Addr) (job : JobId) : Type 0 where
  pub step : Step
  pub there : e.step ≡ Some step
  pub at : step.server ≡ server
  pub builds : build_by step.kind ≡ Some job

-- No id is built twice: two entries that tell a build of one job, by whichever servers, are one.
abbrev pub AreBuiltOnce : List Entry → Type 0
AreBuiltOnce log =
    (j k : ℕ) (d e : Entry) (s t : Addr) (job : JobId) → slice_get log j ≡ Some d → slice_get log k ≡ Some e
    → IsBuild d s job → IsBuild e t job → j ≡ k

-- ---- runs behind an accepted start

-- the job that a step of that kind ran, whatever it says of the run
abbrev pub ran_by : StepKind → Option JobId
ran_by (step.Ran job ran result) = Some job
ran_by other = None

-- Entry k runs the job behind an accepted start: it has a ran step of the job, whatever that says, and brings
-- back the reply of a delivery, whose core entry accepted that the job is started.
pub record RunsStarted (log : List Entry) (k : ℕ) (job : JobId) : Type 0 where
  pub entry : Entry
  pub there : slice_get log k ≡ Some entry
  pub step : Step
  pub steps : entry.step ≡ Some step
  pub runs : ran_by step.kind ≡ Some job
  pub delivery : ℕ
  pub returns : entry.event.kind ≡ Return delivery
  pub start : Entry
  pub delivered : slice_get log delivery ≡ Some start
  pub server : Addr
  pub at : ℕ
  pub accepts : start.core ≡ Some (record { now = at; kind = core.Update server job state.Started Accepted })

-- No id is run twice behind an accepted start: two entries that run it so, at whichever servers, are one.
abbrev pub AreRanOnce : List Entry → Type 0
AreRanOnce log = (j k : ℕ) (job : JobId) → RunsStarted log j job → RunsStarted log k job → j ≡ k

-- ---- what a build goes on from

-- Entry n is a run request of the job at the server in that life: its bytes come to the server, are a request
-- to run the job that shows a token which is accepted for the job under the key of the life, and the server
-- calls the scheduler to tell that the job is started.
pub record IsRunRequest (setup : Setup) (log : List Entry) (n : ℕ) (server : Addr) (life : ℕ)
    (job : JobId) : Type 0 where
  pub entry : Entry
  pub there : slice_get log n ≡ Some entry
  pub now : ServerNow
  pub bytes : List ℕ
  pub comes : way_of setup (take n log) entry.event.kind ≡ to_server now bytes
  pub at : now.setup.addr ≡ server
  pub lives : now.life ≡ life
  pub request : Request
  pub is_request : IsRequest bytes request
  pub names : NamesJob request (codes "/api/v1/distserver/run_job/") job
  pub shows : ShowsJob request (job_verdict now.key) job
  pub tells : entry.call ≡ Some (state_call setup server job state.Started)

-- Entry d delivers the call of entry n, and its core entry moves the job of that server from ready to
-- started.
pub record IsStart (log : List Entry) (d n : ℕ) (server : Addr) (job : JobId) : Type 0 where
  pub entry : Entry
  pub there : slice_get log d ≡ Some entry
  pub delivers : entry.event.kind ≡ Deliver n
  pub at : ℕ
  pub accepts : entry.core ≡ Some (record { now = at; kind = core.Update server job state.Started Accepted })
  pub was : state_of job (core_log (take d log)) ≡ Some state.Ready

-- Entry a is an assigned step of the job at the server, which was in that life then.
pub record IsTaken (setup : Setup) (log : List Entry) (a : ℕ) (server : Addr) (life : ℕ)
    (job : JobId) : Type 0 where
  pub entry : Entry
  pub there : slice_get log a ≡ Some entry
  pub tc : List ℕ
  pub ready : Bool
  pub takes : entry.step ≡ Some (record { server = server; kind = step.Assigned job tc ready })
  pub now : ServerNow
  pub at : server_now setup (take (suc a) log) server ≡ Some now
  pub lives : now.life ≡ life

-- The build of entry b goes on from a start: the entry brings back the reply of a delivery, which delivered
-- the call of a run request and moved the job from ready to started; the server is in the life of the
-- request, and took the job in that life before.
pub record IsStarted (setup : Setup) (log : List Entry) (b : ℕ) (server : Addr) (job : JobId) : Type 0 where
  pub entry : Entry
  pub there : slice_get log b ≡ Some entry
  pub request : ℕ
  pub delivery : ℕ
  pub taking : ℕ
  pub in_order : (request < delivery) × (delivery < b) × (taking < b)
  pub now : ServerNow
  pub at : server_now setup (take b log) server ≡ Some now
  pub returns : entry.event.kind ≡ Return delivery
  pub starts : IsStart log delivery request server job
  pub requested : IsRunRequest setup log request server now.life job
  pub taken : IsTaken setup log taking server now.life job

-- each build goes on from a start
abbrev pub AreStarted : Setup → List Entry → Type 0
AreStarted setup log =
    (b : ℕ) (e : Entry) (server : Addr) (job : JobId) → slice_get log b ≡ Some e → IsBuild e server job
    → IsStarted setup log b server job

-- Builds at every prefix: after each front of the entries each build goes on from a start, no id is built
-- twice, and a call is settled at most once.
pub record AreBuilds (setup : Setup) (entries : List Entry) : Type 0 where
  pub started : (n : ℕ) → AreStarted setup (take n entries)
  pub once : (n : ℕ) → AreBuiltOnce (take n entries)
  pub settled : (n : ℕ) → AreSettledOnce (take n entries)

-- ---- farms whose calls can be read

-- one token of 1 to 1,024 visible bytes for all build servers; or a key, whatever it is
abbrev pub HasToken : SetupAuth → Type 0
HasToken (Plain token) = (1 ≤ length token) × (length token ≤ 1024) × (list_all is_visible token ≡ true)
HasToken (Jwt key) = Unit {0}

-- What every script says of its farm: where its servers have one token, that is visible; and the addresses
-- are addresses.
pub record HasWords (setup : Setup) : Type 0 where
  pub token : HasToken setup.scheduler.auth
  pub scheduler : IsAddr setup.scheduler.addr
  pub servers : AllByRecursion (λ s. IsAddr s.addr) setup.servers
