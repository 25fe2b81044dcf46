-- What the head of a request settles, whatever its body is.
use Rattle.std.specs.Prelude.{◌≡◌, ◌≢◌, ℕ, Bool, true, List, is_err, if◌then◌else◌, Option, Some, None}
use Rattle.std.specs.Prelude.{Result, Err, ⊤, codes}
use Rattle.dist_types.specs.declared.addr.Addr.{Addr}
use Rattle.dist_types.specs.declared.ids.JobId.{JobId}
use Rattle.dist_types.specs.declared.rules.Rules.{Rules}
use Rattle.dist_types.specs.declared.token_error.TokenError.{TokenError}
use Rattle.http_head.specs.declared.request.Request.{Request}
use Rattle.http_routes.specs.declared.admission.Admission.{Admission}
use Rattle.http_routes.specs.declared.admission.Admission.TheVariants.{Admitted}
use Rattle.http_routes.specs.declared.refusal.Refusal.{Refusal}
use Rattle.http_routes.specs.Admission.{client_token}
use Rattle.http_routes.specs.Place.{is_at, at_drain, assign_job, submit_job, run_job, state_job, of_job}
use Rattle.http_routes.specs.Route.{asked_of}
use Rattle.http_routes.specs.Sender.{job_test, server_of}
use Rattle.http_routes.specs.ServerRoute.{server_asked_of}

-- the request with another body
abbrev pub with_body : Request → List ℕ → Request
with_body r body = record { method = r.method; target = r.target; headers = r.headers; body = body }

-- whether the request shows no token that is accepted for the job
abbrev pub job_refused : (ℕ → List ℕ → Result ⊤ TokenError) → Request → JobId → Bool
job_refused verdict r job = is_err (job_test verdict r job)

-- whether the head alone refuses a request to a server: it is at no route, or shows no token that is accepted
-- for its job
unfoldable pub server_settled : (ℕ → List ℕ → Result ⊤ TokenError) → Request → Bool
server_settled verdict r =
    of_job (job_refused verdict r)
    (of_job (job_refused verdict r) (of_job (job_refused verdict r) true (run_job r)) (submit_job r))
    (assign_job r)

-- whether the request is from no server
abbrev pub sender_refused : (List ℕ → Option Addr) → Request → Addr → Bool
sender_refused serves r peer = is_err (server_of serves r peer)

-- whether the check of clients is shown no token, or one that it refuses whatever the moment is
abbrev pub client_refused : (List ℕ → Bool) → Option (List ℕ) → Bool
client_refused refuses None = true
client_refused refuses (Some token) = refuses token

-- whether the head alone settles what a request asks of the scheduler: the status, nothing, a job with no
-- token or one that the check of clients refuses so, or what a server may tell and is from none
unfoldable pub scheduler_settled : Rules → (List ℕ → Bool) → (List ℕ → Option Addr) → Request → Addr → Bool
scheduler_settled rules refuses serves r peer =
    if is_at (codes "POST") (codes "/api/v1/scheduler/alloc_job") r then client_refused refuses (client_token r)
    else if is_at (codes "POST") (codes "/api/v1/scheduler/heartbeat_server") r
    then sender_refused serves r peer
    else if is_at (codes "GET") (codes "/api/v1/scheduler/status") r then true
    else if at_drain rules r then sender_refused serves r peer
    else of_job (λ job. sender_refused serves r peer) true (state_job r)

-- the request is refused by a server, and so it is with any other body
abbrev pub IsSettledFor : (ℕ → List ℕ → Result ⊤ TokenError) → Request → Type 0
IsSettledFor verdict r = (e : Refusal) × ((body : List ℕ) → server_asked_of verdict (with_body r body) ≡ Err e)

-- what a check of clients that refuses these tokens at any moment may say of the token that it is shown: nothing
-- where it is shown none, and of one of these not that its client is let in
abbrev pub MaySay : (List ℕ → Bool) → Option (List ℕ) → Option Admission → Type 0
MaySay refuses None said = said ≡ None
MaySay refuses (Some token) said = refuses token ≡ true → said ≢ Some Admitted

-- the request asks one thing of the scheduler, and the same with any other body, whatever such a check may say of
-- the token that it shows
abbrev pub IsSettledAt : Rules → (List ℕ → Bool) → (List ℕ → Option Addr) → Request → Addr → Type 0
IsSettledAt rules refuses serves r peer = (body : List ℕ) (said : Option Admission)
    → MaySay refuses (client_token r) said
    → asked_of rules serves (with_body r body) peer said ≡ asked_of rules serves r peer said
