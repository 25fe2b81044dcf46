-- In version 1 nothing asks for a drain.
use Rattle.std.proofs.Common.{◌≡◌, inl, inr, ℕ, Bool, true, false, cond, List, Option, Some, None, Result}
use Rattle.std.proofs.Common.{Ok, Err, refl, sym, ap, subst}
use Rattle.std.specs.Prelude.{codes}
use Rattle.dist_types.specs.declared.addr.Addr.{Addr}
use Rattle.dist_types.specs.declared.ids.JobId.{JobId}
use Rattle.dist_types.specs.declared.rules.Rules.TheVariants.{One, Two}
use Rattle.dist_wire.specs.Reading.{toolchain_at, heartbeat_at, state_at}
use Rattle.http_head.specs.declared.request.Request.{Request}
use Rattle.http_routes.specs.declared.admission.Admission.{Admission}
use Rattle.http_routes.specs.declared.refusal.Refusal.{Refusal}
use Rattle.http_routes.specs.declared.refusal.Refusal.TheVariants.{NoRoute}
use Rattle.http_routes.specs.declared.route.Asked.{Asked}
use Rattle.http_routes.specs.declared.route.SchedRouted.{SchedRouted}
use Rattle.http_routes.specs.declared.route.SchedRouted.TheVariants.{Alloc, Beat, Update, Status}
use Rattle.http_routes.specs.Asked.{IsAskedUnder}
use Rattle.http_routes.specs.InOrder.{IsAt, IsAtDrain}
use Rattle.http_routes.specs.Message.{message_in}
use Rattle.http_routes.specs.Place.{is_at, at_drain, job_of, state_job, of_job}
use Rattle.http_routes.specs.Route.{alloc_of, beat_of, update_of, report_of, asked_of, answered, said_by}
use Rattle.http_routes.specs.Route.{IsNoDrain}
use Rattle.http_routes.specs.Sender.{client_test, server_of}
use Rattle.http_routes.specs.Steps.{◌>>=◌}
use Rattle.http_routes.proofs.RouteLemmas.{drain_no_alloc, drain_no_beat, drain_no_status}

-- two tests, then what is no drain
two_none : {A B : Type 0} (x : Result A Refusal) (y : Result B Refusal) (g : A → B → SchedRouted)
    → ((a : A) (b : B) → IsNoDrain (g a b)) → IsNoDrain (answered (x >>= λ a. y >>= λ b. Ok (g a b)))
two_none (Err e) y g none = λ server drain is. absurd cc
two_none (Ok a) (Err e) g none = λ server drain is. absurd cc
two_none (Ok a) (Ok b) g none = none a b

no_alloc : (r : Request) (said : Option Admission) → IsNoDrain (answered (alloc_of r said))
unfolding alloc_of
no_alloc r said = two_none (client_test said) (message_in toolchain_at r) (λ u tc. Alloc tc)
    (λ u tc server drain is. absurd cc)

no_beat : (serves : List ℕ → Option Addr) (r : Request) (peer : Addr)
    → IsNoDrain (answered (beat_of serves r peer))
unfolding beat_of
no_beat serves r peer = two_none (server_of serves r peer) (message_in heartbeat_at r) Beat
    (λ s m server drain is. absurd cc)

no_report : (serves : List ℕ → Option Addr) (r : Request) (peer : Addr)
    → IsNoDrain (answered (report_of serves r peer))
unfolding report_of update_of
no_report serves r peer = by_job (state_job r)
  where
    by_job : (j : Option JobId)
        → IsNoDrain (answered (of_job (update_of serves r peer) (Err NoRoute) j))
    by_job None = λ server drain is. absurd cc
    by_job (Some job) = two_none (server_of serves r peer) (message_in state_at r) (λ s m. Update s job m)
        (λ s m server drain is. absurd cc)

pub no_request_drains : (serves : List ℕ → Option Addr) (r : Request) (peer : Addr) (said : Option Admission)
    → IsNoDrain (answered (asked_of One serves r peer said))
unfolding asked_of at_drain
no_request_drains serves r peer said =
    by_tests (is_at (codes "POST") (codes "/api/v1/scheduler/alloc_job") r)
    (is_at (codes "POST") (codes "/api/v1/scheduler/heartbeat_server") r)
    (is_at (codes "GET") (codes "/api/v1/scheduler/status") r)
  where
    by_tests : (a b s : Bool)
        → IsNoDrain (answered (cond a (alloc_of r said)
        (cond b (beat_of serves r peer) (cond s (Ok Status) (report_of serves r peer)))))
    by_tests true b s = no_alloc r said
    by_tests false true s = no_beat serves r peer
    by_tests false false true = λ server drain is. absurd cc
    by_tests false false false = no_report serves r peer

pub no_bytes_drain : (lets : List ℕ → Admission) (serves : List ℕ → Option Addr) (bytes : List ℕ)
    (peer : Addr) (a : Asked) → IsAskedUnder One lets serves bytes peer a → IsNoDrain a.what
no_bytes_drain lets serves bytes peer a (inl (r, x, e)) =
    subst IsNoDrain (sym (ap (λ (q : Asked). q.what) e)) (no_request_drains serves r peer (said_by lets r))
no_bytes_drain lets serves bytes peer a (inr (none, e)) =
    subst IsNoDrain (sym (ap (λ (q : Asked). q.what) e)) (λ server drain is. absurd cc)

-- where version 2 has its route no job is named
no_job_there : (r : Request) → IsAt r (codes "POST") (codes "/api/v1/scheduler/drain_server")
    → state_job r ≡ None
unfolding state_job job_of
no_job_there r at = rw (at.sent_by, at.sent_to) refl

pub no_route_there : (serves : List ℕ → Option Addr) (r : Request) (peer : Addr) (said : Option Admission)
    → IsAt r (codes "POST") (codes "/api/v1/scheduler/drain_server")
    → asked_of One serves r peer said ≡ Err NoRoute
unfolding asked_of at_drain report_of
no_route_there serves r peer said at =
    let d : IsAtDrain Two r = record { version = refl; at = at } in
    rw (drain_no_alloc Two r d, drain_no_beat Two r d, drain_no_status Two r d, no_job_there r at) refl
