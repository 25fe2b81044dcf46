-- Who sent a request.
use Rattle.std.specs.Prelude.{◌≡◌, ℕ, Bool, false, List, ◌++◌, Option, Some, None, Result, Ok, Err, ⊤, codes}
use Rattle.std.specs.Prelude.{bytes_eq}
use Rattle.dist_types.specs.declared.addr.Addr.{Addr}
use Rattle.dist_types.specs.declared.addr.Ip.{Ip}
use Rattle.dist_types.specs.declared.addr.Ip.TheVariants.{V4, V6}
use Rattle.dist_types.specs.declared.ids.JobId.{JobId}
use Rattle.dist_types.specs.declared.token_error.TokenError.{TokenError}
use Rattle.dist_types.specs.Addr.{ip_in, ip_of, IsIpText}
use Rattle.http_head.specs.declared.request.Request.{Request}
use Rattle.http_head.specs.Bearer.{token_in}
use Rattle.http_head.specs.Fields.{header}
use Rattle.http_routes.specs.declared.admission.Admission.{Admission}
use Rattle.http_routes.specs.declared.admission.Admission.TheVariants as says
use Rattle.http_routes.specs.declared.refusal.Refusal.{Refusal}
use Rattle.http_routes.specs.declared.refusal.Refusal.TheVariants.{BadRealIp, NoClientToken, ClientRefused}
use Rattle.http_routes.specs.declared.refusal.Refusal.TheVariants.{NoServer, OtherAddress, NoJobToken}
use Rattle.http_routes.specs.declared.refusal.Refusal.TheVariants.{JobRefused}
use Rattle.http_routes.specs.Steps.{◌>>=◌, unless_none, unless_false}

-- the token that the request shows, or the refusal where it shows none
abbrev pub token_of : Refusal → Request → Result (List ℕ) Refusal
token_of refusal r = unless_none refusal (token_in (header (codes "authorization") r.headers))

-- ---- clients

-- whether the check of clients lets the sender in, which is not asked where no token is shown
abbrev pub client_test : Option Admission → Result (Unit {0}) Refusal
client_test None = Err NoClientToken
client_test (Some says.Admitted) = Ok tt
client_test (Some (says.Refused word text)) = Err (ClientRefused word text)

-- ---- servers

-- whether two are one
abbrev pub same_ip : Ip → Ip → Bool
same_ip (V4 a) (V4 b) = bytes_eq a b
same_ip (V6 a) (V6 b) = bytes_eq a b
same_ip (V4 a) (V6 b) = false
same_ip (V6 a) (V4 b) = false

-- where the request came from: what X-Real-IP says, or the peer's IP where there is none
abbrev pub origin : Option (List ℕ) → Addr → Result Ip Refusal
origin None peer = Ok (ip_of peer)
origin (Some text) peer = unless_none BadRealIp (ip_in text)

-- the server that sent the request: it shows a token that is accepted for it, from its own IP
unfoldable pub server_of : (List ℕ → Option Addr) → Request → Addr → Result Addr Refusal
server_of serves r peer = do
  token ← token_of NoServer r
  server ← unless_none NoServer (serves token)
  ip ← origin (header (codes "x-real-ip") r.headers) peer
  unless_false OtherAddress (same_ip ip (ip_of server)) server

-- ---- jobs

-- the test of a job's token, by its verdict
abbrev pub accepted : Result ⊤ TokenError → Result (Unit {0}) Refusal
accepted (Ok x) = Ok tt
accepted (Err e) = Err (JobRefused e)

-- whether the request shows a token that is accepted for the job
unfoldable pub job_test : (ℕ → List ℕ → Result ⊤ TokenError) → Request → JobId → Result (Unit {0}) Refusal
job_test verdict r job = do
  token ← token_of NoJobToken r
  accepted (verdict job.0 token)

-- ---- in the words of their parts

-- the request shows that token
abbrev pub Shows : Request → List ℕ → Type 0
Shows r token = header (codes "authorization") r.headers ≡ Some (codes "Bearer " ++ token)

-- the request shows a token that lets its client in
abbrev pub IsAdmitted : Request → (List ℕ → Admission) → Type 0
IsAdmitted r lets = (token : List ℕ) × Shows r token × (lets token ≡ says.Admitted)

-- a request with that X-Real-IP, or none, and from that peer came from that IP
abbrev pub CameFrom : Option (List ℕ) → Addr → Ip → Type 0
CameFrom None peer ip = ip ≡ ip_of peer
CameFrom (Some text) peer ip = IsIpText text ip

-- the request shows a token that is accepted for the server, and came from the server's IP
pub record IsFrom (r : Request) (peer : Addr) (serves : List ℕ → Option Addr) (server : Addr) : Type 0 where
  pub shown : List ℕ
  pub bearer : Shows r shown
  pub own : serves shown ≡ Some server
  pub ip : CameFrom (header (codes "x-real-ip") r.headers) peer (ip_of server)

-- the request shows a token that is accepted for the job
abbrev pub ShowsJob : Request → (ℕ → List ℕ → Result ⊤ TokenError) → JobId → Type 0
ShowsJob r verdict job = (token : List ℕ) × Shows r token × (verdict job.0 token ≡ Ok tt)
