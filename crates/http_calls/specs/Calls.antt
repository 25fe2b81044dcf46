-- What a client's calls write.
use Rattle.std.specs.Prelude.{◌≡◌, ◌⊎◌, ℕ, List, Some, None, Result, Ok, ⊤}
use Rattle.dist_types.specs.Addr.{addr_text}
use Rattle.dist_types.specs.declared.ids.JobId.{JobId}
use Rattle.dist_types.specs.declared.results.JobAlloc.{JobAlloc}
use Rattle.dist_types.specs.declared.results.JobState.{JobState}
use Rattle.dist_types.specs.declared.token_error.TokenError.{TokenError}
use Rattle.dist_wire.specs.declared.heartbeat.HeartbeatServerHttpRequest.{HeartbeatServerHttpRequest}
use Rattle.dist_wire.specs.declared.run.RunJobHttpRequest.{RunJobHttpRequest}
use Rattle.http_head.specs.declared.written_request.WrittenRequest.{WrittenRequest}
use Rattle.url.specs.Parts.{Parts}
use Rattle.http_head.specs.WrittenRequest.{IsToken, IsWithinLimits}
use Rattle.http_routes.specs.declared.route.SchedRouted.TheVariants.{Status}
use Rattle.http_routes.specs.Builder.{host_of}
use Rattle.http_routes.specs.ReadAs.{allocated, IsReadAs}
use Rattle.http_routes.specs.Requests.{alloc_with, status_with, heartbeat_with, state_with, submit_with}
use Rattle.http_routes.specs.Requests.{run_with}
use Rattle.http_routes.specs.ServerRoute.{AsksSubmit, AsksRun}
use Rattle.http_head.specs.declared.error.HttpError.{HttpError}
use Rattle.http_head.specs.declared.error.HttpError.TheVariants.{BadBase, Memory}
use Rattle.http_calls.specs.Urls.{IsHttp}

-- why a call to the scheduler at a base is not begun: the base is no `http` URL; or it is one, and memory ran
-- out
abbrev pub RefusesBase : Parts → HttpError → Type 0
RefusesBase base e = ((e ≡ BadBase) × ¬ (IsHttp base)) ⊎ ((e ≡ Memory) × IsHttp base)

-- ---- to the scheduler at a base

-- the request for a job, under a client's token
abbrev pub alloc_request : Parts → List ℕ → List ℕ → WrittenRequest
alloc_request base token tc = alloc_with (host_of base) token tc

-- the request for the status
abbrev pub status_request : Parts → WrittenRequest
status_request base = status_with (host_of base)

-- the report of a job's state, under a server's token
abbrev pub state_request : Parts → List ℕ → JobId → JobState → WrittenRequest
state_request base token job state = state_with (host_of base) token job state

-- the heartbeat of a server, under its token
abbrev pub heartbeat_request : Parts → List ℕ → HeartbeatServerHttpRequest → WrittenRequest
heartbeat_request base token beat = heartbeat_with (host_of base) token beat

-- the bytes are read as that request for a job, under the token; where the token is one that a field carries and
-- the request is within the limits
abbrev pub ReadsAlloc : Parts → List ℕ → List ℕ → List ℕ → Type 0
ReadsAlloc base token tc bytes = IsToken token → IsWithinLimits (alloc_request base token tc)
    → IsReadAs bytes (Some token) (allocated tc)

-- the bytes are read as a request for the status, which shows no token
abbrev pub ReadsStatus : Parts → List ℕ → Type 0
ReadsStatus base bytes = IsWithinLimits (status_request base) → IsReadAs bytes None (λ said. Status)

-- ---- to the server of a job, under the job's token

-- the archive of the job's toolchain
abbrev pub submit_request : JobAlloc → List ℕ → WrittenRequest
submit_request job archive = submit_with (addr_text job.server_id) job.auth job.job_id archive

-- the job's run
abbrev pub run_request : JobAlloc → RunJobHttpRequest → List ℕ → WrittenRequest
run_request job run inputs = run_with (addr_text job.server_id) job.auth job.job_id run inputs

-- the bytes are read as that archive of the job, by each server that accepts the job's token for it
abbrev pub ReadsSubmit : JobAlloc → List ℕ → List ℕ → Type 0
ReadsSubmit job archive bytes = IsToken job.auth → IsWithinLimits (submit_request job archive)
    → (verdict : ℕ → List ℕ → Result ⊤ TokenError) → verdict job.job_id.0 job.auth ≡ Ok tt
    → AsksSubmit verdict bytes job.job_id archive

-- the bytes are read as that run with those inputs, by each server that accepts the job's token for it
abbrev pub ReadsRun : JobAlloc → RunJobHttpRequest → List ℕ → List ℕ → Type 0
ReadsRun job run inputs bytes = IsToken job.auth → IsWithinLimits (run_request job run inputs)
    → (verdict : ℕ → List ℕ → Result ⊤ TokenError) → verdict job.job_id.0 job.auth ≡ Ok tt
    → AsksRun verdict bytes job.job_id run inputs
