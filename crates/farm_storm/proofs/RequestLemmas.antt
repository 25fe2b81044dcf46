-- The requests of clients, from their parts.
use Rattle.std.proofs.Common.{◌≡◌, List, ℕ, ◌++◌, codes, decimal, refl, None}
use Rattle.dist_types.specs.Addr.{addr_text}
use Rattle.dist_types.specs.declared.addr.Addr.{Addr}
use Rattle.dist_types.specs.declared.ids.JobId.{JobId}
use Rattle.dist_wire.specs.Written.{bytes_text}
use Rattle.http_head.specs.WrittenRequest.{request_text}
use Rattle.http_head.specs.declared.written_request.Method.TheVariants.{Get}
use Rattle.http_routes.specs.RunHead.{run_body}
use Rattle.http_routes.specs.Requests.{post_with, alloc_with, submit_with, run_with, status_with}
use Rattle.farm_storm.specs.Storm.{storm_run}

pub alloc_is : (scheduler : Addr) (token tc bytes target host body : List ℕ)
    → bytes ≡ request_text (post_with target host token body)
    → target ≡ codes "/api/v1/scheduler/alloc_job" → host ≡ addr_text scheduler → body ≡ bytes_text tc
    → bytes ≡ request_text (alloc_with (addr_text scheduler) token tc)
unfolding alloc_with
alloc_is scheduler token tc bytes target host body is t h b = rw (is, t, h, b) refl

pub submit_is : (server : Addr) (token : List ℕ) (job : JobId) (archive bytes target host body : List ℕ)
    → bytes ≡ request_text (post_with target host token body)
    → target ≡ codes "/api/v1/distserver/submit_toolchain/" ++ decimal job.0 → host ≡ addr_text server
    → body ≡ archive
    → bytes ≡ request_text (submit_with (addr_text server) token job archive)
unfolding submit_with
submit_is server token job archive bytes target host body is t h b = rw (is, t, h, b) refl

pub run_is : (server : Addr) (token : List ℕ) (job : JobId) (inputs bytes target host body : List ℕ)
    → bytes ≡ request_text (post_with target host token body)
    → target ≡ codes "/api/v1/distserver/run_job/" ++ decimal job.0 → host ≡ addr_text server
    → body ≡ run_body storm_run inputs
    → bytes ≡ request_text (run_with (addr_text server) token job storm_run inputs)
unfolding run_with
run_is server token job inputs bytes target host body is t h b = rw (is, t, h, b) refl

pub status_is : (scheduler : Addr) (bytes target host : List ℕ)
    → bytes ≡ request_text (record { method = Get; target = target; host = host; token = None; body = None })
    → target ≡ codes "/api/v1/scheduler/status" → host ≡ addr_text scheduler
    → bytes ≡ request_text (status_with (addr_text scheduler))
unfolding status_with
status_is scheduler bytes target host is t h = rw (is, t, h) refl
