-- The requests that are written, each to a host and under a token, and what its route takes it for.
use Rattle.std.specs.Prelude.{◌≡◌, ℕ, List, ◌++◌, Some, None, true, codes}
use Rattle.std.specs.Fmt.{decimal}
use Rattle.std.specs.List.{list_all}
use Rattle.dist_types.specs.Addr.{addr_text}
use Rattle.dist_types.specs.declared.addr.Addr.{Addr}
use Rattle.dist_types.specs.declared.ids.JobId.{JobId}
use Rattle.dist_types.specs.declared.results.JobState.{JobState}
use Rattle.dist_wire.specs.Written.{bytes_text, state_bytes, heartbeat_text, drain_text}
use Rattle.dist_wire.specs.declared.drain.DrainServerHttpRequest.{DrainServerHttpRequest}
use Rattle.dist_wire.specs.declared.heartbeat.HeartbeatServerHttpRequest.{HeartbeatServerHttpRequest}
use Rattle.dist_wire.specs.declared.run.RunJobHttpRequest.{RunJobHttpRequest}
use Rattle.http_head.specs.declared.written_request.Method.TheVariants.{Get, Post}
use Rattle.http_head.specs.declared.written_request.WrittenRequest.{WrittenRequest}
use Rattle.http_head.specs.WrittenRequest.{request_text, is_visible, IsToken, IsWithinLimits}
use Rattle.http_routes.specs.RunHead.{run_body}

-- a POST under a token
abbrev pub post_with : List ℕ → List ℕ → List ℕ → List ℕ → WrittenRequest
post_with target host token body = record {
  method = Post;
  target = target;
  host = host;
  token = Some token;
  body = Some body;
}

-- ---- to the scheduler

-- the request for a job with that toolchain
unfoldable pub alloc_with : List ℕ → List ℕ → List ℕ → WrittenRequest
alloc_with host token tc = post_with (codes "/api/v1/scheduler/alloc_job") host token (bytes_text tc)

-- the request for the status, which shows no token
unfoldable pub status_with : List ℕ → WrittenRequest
status_with host = record {
  method = Get;
  target = codes "/api/v1/scheduler/status";
  host = host;
  token = None;
  body = None;
}

-- the heartbeat of a server
unfoldable pub heartbeat_with : List ℕ → List ℕ → HeartbeatServerHttpRequest → WrittenRequest
heartbeat_with host token beat = post_with (codes "/api/v1/scheduler/heartbeat_server") host token
    (heartbeat_text beat)

-- the wish of a server that it drain, or drain no more
unfoldable pub drain_with : List ℕ → List ℕ → DrainServerHttpRequest → WrittenRequest
drain_with host token drain = post_with (codes "/api/v1/scheduler/drain_server") host token
    (drain_text drain)

-- the report of a job's state
unfoldable pub state_with : List ℕ → List ℕ → JobId → JobState → WrittenRequest
state_with host token job state = post_with (codes "/api/v1/scheduler/job_state/" ++ decimal job.0) host token
    (state_bytes state)

-- ---- to a server

-- the request that asks a server to take a job, under the job's token and with that body
unfoldable pub assign_with : Addr → JobId → List ℕ → List ℕ → WrittenRequest
assign_with server job token body = post_with (codes "/api/v1/distserver/assign_job/" ++ decimal job.0)
    (addr_text server) token body

-- the request that brings a server a job's toolchain
unfoldable pub submit_with : List ℕ → List ℕ → JobId → List ℕ → WrittenRequest
submit_with host token job archive = post_with (codes "/api/v1/distserver/submit_toolchain/" ++ decimal job.0)
    host token archive

-- the request to run a job
unfoldable pub run_with : List ℕ → List ℕ → JobId → RunJobHttpRequest → List ℕ → WrittenRequest
run_with host token job run inputs = post_with (codes "/api/v1/distserver/run_job/" ++ decimal job.0) host
    token (run_body run inputs)

-- ---- the bytes

-- the bytes of the request that asks a server to take a job, under the job's token and with its toolchain
abbrev pub assign_request_text : Addr → JobId → List ℕ → List ℕ → List ℕ
assign_request_text server job token tc = request_text (assign_with server job token (bytes_text tc))

-- the bytes of the report of a job's state to the scheduler at that address, under a server's token
abbrev pub state_request_text : Addr → List ℕ → JobId → JobState → List ℕ
state_request_text scheduler token job state = request_text (state_with (addr_text scheduler) token job state)

-- the bytes of a heartbeat to the scheduler at that address, under a server's token
abbrev pub heartbeat_request_text : Addr → List ℕ → HeartbeatServerHttpRequest → List ℕ
heartbeat_request_text scheduler token beat = request_text (heartbeat_with (addr_text scheduler) token beat)

-- the bytes of a wish to drain to the scheduler at that address, under a server's token
abbrev pub drain_request_text : Addr → List ℕ → DrainServerHttpRequest → List ℕ
drain_request_text scheduler token drain = request_text (drain_with (addr_text scheduler) token drain)

-- ---- what can be sent

-- a request under a token can be sent to a host: the host has no control byte and no space, the token is one
-- that a field carries, and head and body are within the limits of what is read
pub record CanGo (host token : List ℕ) (request : WrittenRequest) : Type 0 where
  pub visible : list_all is_visible host ≡ true
  pub carried : IsToken token
  pub limits : IsWithinLimits request
