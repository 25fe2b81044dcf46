-- Runs whose inputs a packager packs.
use Rattle.std.proofs.Common.{◌≡◌, ◌≢◌, ℕ, ◌≤◌, List, [], ◌++◌, codes, length, Option, Some, None, Result}
use Rattle.std.proofs.Common.{Ok, Err, refl, sym, ap, subst, ◌∙◌, append_assoc}
use Rattle.std.specs.Fmt.{decimal}
use Rattle.std.specs.Int.{w32, to_be_bytes}
use Rattle.dist_types.specs.Addr.{addr_text}
use Rattle.dist_types.specs.Cause.{Rose}
use Rattle.dist_types.specs.declared.results.JobAlloc.{JobAlloc}
use Rattle.dist_types.specs.declared.results.RunJobResult.{RunJobResult}
use Rattle.dist_wire.specs.Reading as wire
use Rattle.dist_wire.specs.Written.{run_text}
use Rattle.dist_wire.specs.declared.run.RunJobHttpRequest.{RunJobHttpRequest}
use Rattle.http_head.specs.WrittenRequest.{request_text}
use Rattle.http_routes.specs.RunHead.{run_body}
use Rattle.http_routes.specs.Requests.{post_with, run_with}
use Rattle.path_pkg.specs.Append.{Appends}
use Rattle.http_calls.specs.Asking.{Asks, dialed_host}
use Rattle.http_calls.specs.Calls.{run_request, ReadsRun}
use Rattle.http_calls.specs.Client.{ClientParts, IsAsked, AfterPacking, PacksRequest, with_dialer}
use Rattle.http_calls.specs.Servers.{port_at}
use Rattle.http_calls.proofs.RowLemmas.{row_is}
use Rattle.http_head.specs.declared.error.HttpError.{HttpError}
use Rattle.http_head.specs.declared.error.HttpError.TheVariants.{LinkFault}

-- bytes behind the body of a run without inputs are its inputs
body_more : (run : RunJobHttpRequest) (more : List ℕ) → run_body run [] ++ more ≡ run_body run more
unfolding run_body
body_more run more =
    append_assoc (to_be_bytes w32 (length (run_text run))) (run_text run ++ []) more
    ∙ ap (λ (t : List ℕ). to_be_bytes w32 (length (run_text run)) ++ t) (append_assoc (run_text run) [] more)

pub packs_from : (told : Option (List ℕ)) (run : RunJobHttpRequest) (before after : List ℕ)
    → before ≡ run_body run [] → Appends told before after
    → (x : List ℕ) × Appends told [] x × (after ≡ run_body run x)
packs_from None run before after is h =
    (h.0, (h.0, refl), h.1 ∙ (ap (λ (b : List ℕ). b ++ h.0) is ∙ body_more run h.0))
packs_from (Some bytes) run before after is h =
    (bytes, refl, h ∙ (ap (λ (b : List ℕ). b ++ bytes) is ∙ body_more run bytes))

pub posted_run : (job : JobAlloc) (run : RunJobHttpRequest) (inputs body token bytes : List ℕ)
    → bytes ≡ request_text (post_with (codes "/api/v1/distserver/run_job/" ++ decimal job.job_id.0)
    (addr_text job.server_id) token body)
    → token ≡ job.auth → body ≡ run_body run inputs → bytes ≡ request_text (run_request job run inputs)
unfolding run_with
posted_run job run inputs body token bytes is token_is body_is =
    is ∙ (λ i. request_text (post_with (codes "/api/v1/distserver/run_job/" ++ decimal job.job_id.0)
    (addr_text job.server_id) (token_is i) (body_is i)))

pub ran_after : (job : JobAlloc) (run : RunJobHttpRequest) (inputs request : List ℕ)
    (answer sent : Result RunJobResult HttpError) (old new : ClientParts)
    → request ≡ request_text (run_request job run inputs) → ReadsRun job run inputs request → answer ≡ sent
    → IsAsked wire.ran_at (dialed_host job.server_id) (port_at job.server_id) request sent old new
    → AfterPacking job run (Ok inputs) answer old new
ran_after job run inputs request answer sent old new is reads same h = record {
  asked = subst (λ a. IsAsked wire.ran_at (dialed_host job.server_id) (port_at job.server_id)
      (request_text (run_request job run inputs)) a old new) (sym same)
      (subst (λ q. IsAsked wire.ran_at (dialed_host job.server_id) (port_at job.server_id) q sent old new) is h);
  row = row_is wire.ran_at (dialed_host job.server_id) (port_at job.server_id) request request sent
      (ReadsRun job run inputs) old.asked new.asked refl h.asks reads;
}

-- the same run by another name
pub packed_same : (Uncalled Called : Type 0) (told : Option (List ℕ)) (before after : ℕ) (job : JobAlloc)
    (run other : RunJobHttpRequest) (answer : Result (List ℕ) HttpError)
    → run ≡ other → PacksRequest Uncalled Called told before after job run answer
    → PacksRequest Uncalled Called told before after job other answer
packed_same Uncalled Called told before after job run other answer e h =
    subst (λ r. PacksRequest Uncalled Called told before after job r answer) e h

-- what was asked is said by another text of the request
pub asked_as : {M : Type 0} (at : List ℕ → Option (M × List ℕ)) (host : List ℕ) (port : ℕ)
    (sent made told : List ℕ) (answer : Result M HttpError) (old new : ClientParts)
    → sent ≡ made → made ≡ told → Asks at host port sent answer old.asked new.asked
    → (answer ≡ Err LinkFault → Rose old.faults new.faults)
    → (answer ≢ Err LinkFault → new.faults ≡ old.faults)
    → old.faults ≤ new.faults → new ≡ with_dialer old new.asked new.faults
    → IsAsked at host port told answer old new
asked_as at host port sent made told answer old new is_made is_told asks cause steady later changes =
    record {
      asks = subst (λ q. Asks at host port q answer old.asked new.asked) (is_made ∙ is_told) asks;
      cause = cause;
      steady = steady;
      later = later;
      changes = changes;
    }
