-- When each refusal of a request comes, in the words of its parts: route by route, test by test.
use Rattle.std.specs.Prelude.{◌≡◌, ◌≢◌, ◌⊎◌, ℕ, ◌<◌, ◌≤◌, ◌+◌, true, false, List, ◌++◌, length, take, drop}
use Rattle.std.specs.Prelude.{Option, Some, None, Result, Err, ⊤, codes}
use Rattle.std.specs.Int.{w32, from_be_bytes}
use Rattle.dist_types.specs.declared.addr.Addr.{Addr}
use Rattle.dist_types.specs.declared.addr.Ip.{Ip}
use Rattle.dist_types.specs.declared.ids.JobId.{JobId}
use Rattle.dist_types.specs.declared.rules.Rules.{Rules}
use Rattle.dist_types.specs.declared.token_error.TokenError.{TokenError}
use Rattle.dist_types.specs.Addr.{ip_of, IsIpText}
use Rattle.dist_wire.specs.Spelling.{SpellsToolchain, SpellsHeartbeat, SpellsState, SpellsDrain, SpellsRun}
use Rattle.dist_wire.specs.declared.run.RunJobHttpRequest.{RunJobHttpRequest}
use Rattle.http_head.specs.declared.request.Request.{Request}
use Rattle.http_head.specs.declared.word.Word.{Word}
use Rattle.http_head.specs.Fields.{header}
use Rattle.http_routes.specs.declared.admission.Admission.{Admission}
use Rattle.http_routes.specs.declared.admission.Admission.TheVariants as says
use Rattle.http_routes.specs.declared.refusal.Refusal.{Refusal}
use Rattle.http_routes.specs.declared.refusal.Refusal.TheVariants.{WrongContentType, NoMessage, BadRealIp}
use Rattle.http_routes.specs.declared.refusal.Refusal.TheVariants.{NoRoute, NoClientToken, ClientRefused}
use Rattle.http_routes.specs.declared.refusal.Refusal.TheVariants.{NoServer, OtherAddress, NoJobToken}
use Rattle.http_routes.specs.declared.refusal.Refusal.TheVariants.{JobRefused, BadRunHead}
use Rattle.http_routes.specs.InOrder.{IsAt, NamesJob, IsStatus, IsAtDrain}
use Rattle.http_routes.specs.Message.{BeginsWith}
use Rattle.http_routes.specs.Sender.{Shows, CameFrom, IsAdmitted, IsFrom, ShowsJob}

-- ---- the tests

-- the request shows no token
abbrev pub ShowsNone : Request → Type 0
ShowsNone r = (token : List ℕ) → ¬ (Shows r token)

-- why a client is not let in: it shows no token, or one that its check refuses
abbrev pub IsShutOut : Request → (List ℕ → Admission) → Refusal → Type 0
IsShutOut r lets e =
    (ShowsNone r × (e ≡ NoClientToken))
    ⊎ ((token : List ℕ) × Shows r token × (word : Word) × (text : List ℕ)
    × (lets token ≡ says.Refused word text) × (e ≡ ClientRefused word text))

-- the request shows a token that is accepted for the server
abbrev pub ShowsServer : Request → (List ℕ → Option Addr) → Addr → Type 0
ShowsServer r serves server = (token : List ℕ) × Shows r token × (serves token ≡ Some server)

-- the request has an X-Real-IP that is no IP
abbrev pub HasNoIp : Request → Type 0
HasNoIp r = (text : List ℕ) × (header (codes "x-real-ip") r.headers ≡ Some text)
    × ((ip : Ip) → ¬ (IsIpText text ip))

-- the request came from another IP than the server's
abbrev pub IsFromAfar : Request → Addr → Addr → Type 0
IsFromAfar r peer server = (ip : Ip) × CameFrom (header (codes "x-real-ip") r.headers) peer ip
    × (ip ≢ ip_of server)

-- Why a request is from no server: it shows no token that is accepted for one; it does, and its X-Real-IP is
-- no IP; or it came from another IP.
abbrev pub IsFromNone : Request → Addr → (List ℕ → Option Addr) → Refusal → Type 0
IsFromNone r peer serves e =
    (((token : List ℕ) → Shows r token → serves token ≡ None) × (e ≡ NoServer))
    ⊎ ((server : Addr) × ShowsServer r serves server × HasNoIp r × (e ≡ BadRealIp))
    ⊎ ((server : Addr) × ShowsServer r serves server × IsFromAfar r peer server × (e ≡ OtherAddress))

-- the request's body is said to be binary
abbrev pub IsBinary : Request → Type 0
IsBinary r = (more : List ℕ)
    × (header (codes "content-type") r.headers ≡ Some (codes "application/octet-stream" ++ more))

-- why a request has no message of that spelling
abbrev pub MessageRefused : {M : Type 0} → (M → List ℕ → Type 0) → Request → Refusal → Type 0
MessageRefused Spells r e =
    (¬ (IsBinary r) × (e ≡ WrongContentType))
    ⊎ (IsBinary r × ((m : _) → ¬ (BeginsWith Spells r.body m)) × (e ≡ NoMessage))

-- why a request does not show a token that is accepted for the job
abbrev pub IsNotJobs : Request → (ℕ → List ℕ → Result ⊤ TokenError) → JobId → Refusal → Type 0
IsNotJobs r verdict job e =
    (ShowsNone r × (e ≡ NoJobToken))
    ⊎ ((token : List ℕ) × Shows r token × (why : TokenError) × (verdict job.0 token ≡ Err why)
    × (e ≡ JobRefused why))

-- the length that a body tells in its first four bytes, the high byte first
abbrev pub length_told : List ℕ → ℕ
length_told body = from_be_bytes w32 (take 4 body)

-- Why a body is no run: it has no four bytes of a length; or fewer bytes behind them than it tells, or the
-- head of so many bytes is no run.
abbrev pub RunRefused : List ℕ → Refusal → Type 0
RunRefused body e =
    ((length body < 4) × (e ≡ BadRunHead false))
    ⊎ ((4 ≤ length body) × (length body < 4 + length_told body) × (e ≡ BadRunHead true))
    ⊎ ((4 + length_told body ≤ length body)
    × ((run : RunJobHttpRequest) → ¬ (SpellsRun run (take (length_told body) (drop 4 body))))
    × (e ≡ BadRunHead true))

-- ---- the routes of the scheduler

-- why a request for a job is refused
abbrev pub AllocRefused : Request → (List ℕ → Admission) → Refusal → Type 0
AllocRefused r lets e = IsShutOut r lets e ⊎ (IsAdmitted r lets × MessageRefused SpellsToolchain r e)

-- why a server's message is refused
abbrev pub TellingRefused : {M : Type 0} → (M → List ℕ → Type 0) → Request → Addr → (List ℕ → Option Addr)
    → Refusal → Type 0
TellingRefused Spells r peer serves e =
    IsFromNone r peer serves e ⊎ ((server : Addr) × IsFrom r peer serves server × MessageRefused Spells r e)

-- the request names some job behind a front
abbrev pub NamesSome : Request → List ℕ → Type 0
NamesSome r front = (job : JobId) × NamesJob r front job

-- the request is at no route of the scheduler
pub record IsElsewhere (rules : Rules) (r : Request) : Type 0 where
  pub no_job : ¬ (IsAt r (codes "POST") (codes "/api/v1/scheduler/alloc_job"))
  pub no_beat : ¬ (IsAt r (codes "POST") (codes "/api/v1/scheduler/heartbeat_server"))
  pub no_status : ¬ (IsStatus r)
  pub no_state : ¬ (NamesSome r (codes "/api/v1/scheduler/job_state/"))
  pub no_drain : ¬ (IsAtDrain rules r)

-- why the scheduler refuses the request
abbrev pub IsRefused : Rules → Request → Addr → (List ℕ → Admission) → (List ℕ → Option Addr) → Refusal
    → Type 0
IsRefused rules r peer lets serves e =
    (IsAt r (codes "POST") (codes "/api/v1/scheduler/alloc_job") × AllocRefused r lets e)
    ⊎ (IsAt r (codes "POST") (codes "/api/v1/scheduler/heartbeat_server")
    × TellingRefused SpellsHeartbeat r peer serves e)
    ⊎ (NamesSome r (codes "/api/v1/scheduler/job_state/") × TellingRefused SpellsState r peer serves e)
    ⊎ (IsAtDrain rules r × TellingRefused SpellsDrain r peer serves e)
    ⊎ (IsElsewhere rules r × (e ≡ NoRoute))

-- ---- the routes of a server

-- the request is at no route of a server
pub record IsNowhere (r : Request) : Type 0 where
  pub no_assign : ¬ (NamesSome r (codes "/api/v1/distserver/assign_job/"))
  pub no_submit : ¬ (NamesSome r (codes "/api/v1/distserver/submit_toolchain/"))
  pub no_run : ¬ (NamesSome r (codes "/api/v1/distserver/run_job/"))

-- why a server refuses the request
abbrev pub IsServerRefused : Request → (ℕ → List ℕ → Result ⊤ TokenError) → Refusal → Type 0
IsServerRefused r verdict e =
    ((job : JobId) × NamesJob r (codes "/api/v1/distserver/assign_job/") job
    × (IsNotJobs r verdict job e ⊎ (ShowsJob r verdict job × MessageRefused SpellsToolchain r e)))
    ⊎ ((job : JobId) × NamesJob r (codes "/api/v1/distserver/submit_toolchain/") job
    × IsNotJobs r verdict job e)
    ⊎ ((job : JobId) × NamesJob r (codes "/api/v1/distserver/run_job/") job
    × (IsNotJobs r verdict job e ⊎ (ShowsJob r verdict job × RunRefused r.body e)))
    ⊎ (IsNowhere r × (e ≡ NoRoute))
