-- The requests that may wait for a peer are told by their method and their target.
use Rattle.std.proofs.Common.{◌≡◌, ℕ, ◌==◌, Bool, true, false, cond, List, [], ◌++◌, drop, refl}
use Rattle.std.proofs.Common.{sym, ap, subst, ◌∙◌}
use Rattle.std.specs.Prelude.{◌||◌, Result, ⊤, codes, bytes_eq}
use Rattle.std.specs.List.{starts_with, position_or_len}
use Rattle.std.proofs.lemmas.List.{append-nil, take-append-drop}
use Rattle.std.proofs.Common.{append_assoc}
use Rattle.std.proofs.Math.Seq.{take-append_seam}
use Rattle.http_head.proofs.BearerLemmas.{same_text}
use Rattle.http_head.specs.Fields.{path_of}
use Rattle.dist_types.specs.declared.ids.JobId.{JobId}
use Rattle.dist_types.specs.declared.token_error.TokenError.{TokenError}
use Rattle.dist_wire.specs.declared.run.RunJobHttpRequest.{RunJobHttpRequest}
use Rattle.http_head.specs.declared.request.Request.{Request}
use Rattle.http_routes.specs.InOrder.{IsAllocation, IsSubmission, IsRun}
use Rattle.http_routes.specs.Kind.{begins_so, kind_of}
use Rattle.http_routes.specs.declared.admission.Admission.{Admission}
use Rattle.http_routes.specs.declared.kind.Kind.TheVariants.{Quick, Waits}
use Rattle.http_routes.specs.declared.kind.Role.TheVariants.{Scheduler, Server}

-- a text begins with its front
begins_with : (front rest : List ℕ) → starts_with (λ (a b : ℕ). a == b) (front ++ rest) front ≡ true
begins_with front rest =
    subst (λ (t : List ℕ). bytes_eq front t ≡ true) (sym (take-append_seam front rest)) (same_text front)

-- a target whose path begins so begins so
pub begins : (front id method target : List ℕ) → method ≡ codes "POST" → path_of target ≡ front ++ id
    → begins_so front method target ≡ true
begins front id method target post path =
    let at = position_or_len (λ b. b == 63) target in
    let whole : target ≡ front ++ (id ++ drop at target) =
    sym (take-append-drop at target) ∙ (ap (λ t. t ++ drop at target) path
    ∙ append_assoc front id (drop at target)) in
    rw (post, whole, same_text (codes "POST")) (begins_with front (id ++ drop at target))

pub allocation_waits : (lets : List ℕ → Admission) (r : Request) (tc : List ℕ) → IsAllocation r lets tc
    → kind_of Scheduler r.method r.target ≡ Waits
allocation_waits lets r tc asks =
    rw (begins (codes "/api/v1/scheduler/alloc_job") [] r.method r.target asks.at.sent_by
    (asks.at.sent_to ∙ sym (append-nil (codes "/api/v1/scheduler/alloc_job")))) refl

pub submission_waits : (verdict : ℕ → List ℕ → Result ⊤ TokenError) (r : Request) (job : JobId)
    → IsSubmission r verdict job
    → kind_of Server r.method r.target ≡ Waits
submission_waits verdict r job asks =
    rw (begins (codes "/api/v1/distserver/submit_toolchain/") asks.names.id r.method r.target
    asks.names.at.sent_by asks.names.at.sent_to) refl

pub run_waits : (verdict : ℕ → List ℕ → Result ⊤ TokenError) (r : Request) (job : JobId)
    (run : RunJobHttpRequest) (at : ℕ) → IsRun r verdict job run at
    → kind_of Server r.method r.target ≡ Waits
run_waits verdict r job run at asks =
    rw (begins (codes "/api/v1/distserver/run_job/") asks.names.id r.method r.target
    asks.names.at.sent_by asks.names.at.sent_to)
    (or_true (begins_so (codes "/api/v1/distserver/submit_toolchain/") r.method r.target))
  where
    or_true : (b : Bool) → cond (b || true) Waits Quick ≡ Waits
    or_true true = refl
    or_true false = refl
