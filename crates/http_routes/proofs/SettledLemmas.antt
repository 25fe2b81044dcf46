-- What the head settles the body does not change.
use Rattle.std.proofs.Common.{◌≡◌, ◌≢◌, ℕ, Bool, true, false, cond, List, Option, Some, None, Result, Ok}
use Rattle.std.proofs.Common.{Err, refl, sym, ◌∙◌}
use Rattle.std.specs.Prelude.{⊤, codes, is_err}
use Rattle.dist_types.specs.declared.addr.Addr.{Addr}
use Rattle.dist_types.specs.declared.ids.JobId.{JobId}
use Rattle.dist_types.specs.declared.rules.Rules.{Rules}
use Rattle.dist_types.specs.declared.rules.Rules.TheVariants.{One, Two}
use Rattle.dist_types.specs.declared.token_error.TokenError.{TokenError}
use Rattle.http_head.specs.declared.request.Request.{Request}
use Rattle.http_routes.specs.declared.admission.Admission.{Admission}
use Rattle.http_routes.specs.declared.admission.Admission.TheVariants as says
use Rattle.http_routes.specs.declared.refusal.Refusal.{Refusal}
use Rattle.http_routes.specs.declared.refusal.Refusal.TheVariants.{NoRoute}
use Rattle.http_routes.specs.declared.route.SchedRouted.TheVariants.{Status}
use Rattle.http_routes.specs.Admission.{client_token}
use Rattle.http_routes.specs.Place.{is_at, at_drain, job_of, assign_job, submit_job, run_job, state_job}
use Rattle.http_routes.specs.Place.{of_job}
use Rattle.http_routes.specs.Route.{alloc_of, beat_of, drain_of, update_of, report_of, asked_of}
use Rattle.http_routes.specs.Sender.{job_test, client_test, server_of}
use Rattle.http_routes.specs.ServerRoute.{assign_of, submit_of, run_of, server_asked_of}
use Rattle.http_routes.specs.Settled.{with_body, job_refused, server_settled, sender_refused, scheduler_settled}
use Rattle.http_routes.specs.Settled.{client_refused, MaySay, IsSettledFor, IsSettledAt}

-- a step that refuses
refused_step : {A : Type 0} (t : Result A Refusal) → is_err t ≡ true → (e : Refusal) × (t ≡ Err e)
refused_step (Ok x) h = absurd cc
refused_step (Err e) h = (e, refl)

-- ---- the parts of a head

same_place : (r : Request) (body method path : List ℕ) → is_at method path (with_body r body) ≡ is_at method path r
unfolding is_at
same_place r body method path = refl

same_assign : (r : Request) (body : List ℕ) → assign_job (with_body r body) ≡ assign_job r
unfolding assign_job job_of
same_assign r body = refl

same_submit : (r : Request) (body : List ℕ) → submit_job (with_body r body) ≡ submit_job r
unfolding submit_job job_of
same_submit r body = refl

same_run : (r : Request) (body : List ℕ) → run_job (with_body r body) ≡ run_job r
unfolding run_job job_of
same_run r body = refl

same_state : (r : Request) (body : List ℕ) → state_job (with_body r body) ≡ state_job r
unfolding state_job job_of
same_state r body = refl

same_drain : (rules : Rules) (r : Request) (body : List ℕ)
    → at_drain rules (with_body r body) ≡ at_drain rules r
unfolding at_drain is_at
same_drain One r body = refl
same_drain Two r body = refl

same_test : (verdict : ℕ → List ℕ → Result ⊤ TokenError) (r : Request) (job : JobId) (body : List ℕ)
    → job_test verdict (with_body r body) job ≡ job_test verdict r job
unfolding job_test
same_test verdict r job body = refl

same_sender : (serves : List ℕ → Option Addr) (r : Request) (peer : Addr) (body : List ℕ)
    → server_of serves (with_body r body) peer ≡ server_of serves r peer
unfolding server_of
same_sender serves r peer body = refl

pub same_client : (r : Request) (body : List ℕ) → client_token (with_body r body) ≡ client_token r
unfolding client_token is_at
same_client r body = refl

-- ---- a server

at_assign : (verdict : ℕ → List ℕ → Result ⊤ TokenError) (r : Request) (job : JobId) (e : Refusal)
    → assign_job r ≡ Some job → job_test verdict r job ≡ Err e → server_asked_of verdict r ≡ Err e
unfolding server_asked_of assign_of
at_assign verdict r job e here refused = rw (here, refused) refl

at_submit : (verdict : ℕ → List ℕ → Result ⊤ TokenError) (r : Request) (job : JobId) (e : Refusal)
    → assign_job r ≡ None → submit_job r ≡ Some job → job_test verdict r job ≡ Err e
    → server_asked_of verdict r ≡ Err e
unfolding server_asked_of submit_of
at_submit verdict r job e no_assign here refused = rw (no_assign, here, refused) refl

at_run : (verdict : ℕ → List ℕ → Result ⊤ TokenError) (r : Request) (job : JobId) (e : Refusal)
    → assign_job r ≡ None → submit_job r ≡ None → run_job r ≡ Some job → job_test verdict r job ≡ Err e
    → server_asked_of verdict r ≡ Err e
unfolding server_asked_of run_of
at_run verdict r job e no_assign no_submit here refused = rw (no_assign, no_submit, here, refused) refl

at_none : (verdict : ℕ → List ℕ → Result ⊤ TokenError) (r : Request)
    → assign_job r ≡ None → submit_job r ≡ None → run_job r ≡ None
    → server_asked_of verdict r ≡ Err NoRoute
unfolding server_asked_of
at_none verdict r no_assign no_submit no_run = rw (no_assign, no_submit, no_run) refl

by_jobs : (verdict : ℕ → List ℕ → Result ⊤ TokenError) (r : Request) (a s u : Option JobId)
    → assign_job r ≡ a → submit_job r ≡ s → run_job r ≡ u
    → of_job (job_refused verdict r)
    (of_job (job_refused verdict r) (of_job (job_refused verdict r) true u) s) a ≡ true
    → IsSettledFor verdict r
by_jobs verdict r (Some job) s u is_a is_s is_u h =
    let x = refused_step (job_test verdict r job) h in (
      x.0,
      λ body. at_assign verdict (with_body r body) job x.0 (same_assign r body ∙ is_a)
          (same_test verdict r job body ∙ x.1),
    )
by_jobs verdict r None (Some job) u is_a is_s is_u h =
    let x = refused_step (job_test verdict r job) h in (
      x.0,
      λ body. at_submit verdict (with_body r body) job x.0 (same_assign r body ∙ is_a)
          (same_submit r body ∙ is_s) (same_test verdict r job body ∙ x.1),
    )
by_jobs verdict r None None (Some job) is_a is_s is_u h =
    let x = refused_step (job_test verdict r job) h in (
      x.0,
      λ body. at_run verdict (with_body r body) job x.0 (same_assign r body ∙ is_a)
          (same_submit r body ∙ is_s) (same_run r body ∙ is_u) (same_test verdict r job body ∙ x.1),
    )
by_jobs verdict r None None None is_a is_s is_u h = (
  NoRoute,
  λ body. at_none verdict (with_body r body) (same_assign r body ∙ is_a)
      (same_submit r body ∙ is_s) (same_run r body ∙ is_u),
)

pub settled_for : (verdict : ℕ → List ℕ → Result ⊤ TokenError) (r : Request) → server_settled verdict r ≡ true
    → IsSettledFor verdict r
unfolding server_settled
settled_for verdict r h = by_jobs verdict r (assign_job r) (submit_job r) (run_job r) refl refl refl h

-- ---- the scheduler

-- a check that refuses the token, or is shown none, lets nobody in
not_admitted : (refuses : List ℕ → Bool) (token : Option (List ℕ)) (said : Option Admission)
    → MaySay refuses token said → client_refused refuses token ≡ true → said ≢ Some says.Admitted
not_admitted refuses None said may h = λ is. absurd (cc (may, is))
not_admitted refuses (Some token) said may h = may h

test_refused : (said : Option Admission) → said ≢ Some says.Admitted → (e : Refusal) × (client_test said ≡ Err e)
test_refused None other = (_, refl)
test_refused (Some says.Admitted) other = absurd (other refl)
test_refused (Some (says.Refused word text)) other = (_, refl)

shut_out : (r : Request) (said : Option Admission) (e : Refusal) → client_test said ≡ Err e
    → alloc_of r said ≡ Err e
unfolding alloc_of
shut_out r said e refused = rw refused refl

beat_refused : (serves : List ℕ → Option Addr) (r : Request) (peer : Addr) (e : Refusal)
    → server_of serves r peer ≡ Err e → beat_of serves r peer ≡ Err e
unfolding beat_of
beat_refused serves r peer e h = rw h refl

drain_refused : (serves : List ℕ → Option Addr) (r : Request) (peer : Addr) (e : Refusal)
    → server_of serves r peer ≡ Err e → drain_of serves r peer ≡ Err e
unfolding drain_of
drain_refused serves r peer e h = rw h refl

update_refused : (serves : List ℕ → Option Addr) (r : Request) (peer : Addr) (job : JobId) (e : Refusal)
    → server_of serves r peer ≡ Err e → update_of serves r peer job ≡ Err e
unfolding update_of
update_refused serves r peer job e h = rw h refl

report_by : (serves : List ℕ → Option Addr) (r : Request) (peer : Addr) (job : Option JobId) (e : Refusal)
    → state_job r ≡ job → server_of serves r peer ≡ Err e
    → report_of serves r peer ≡ of_job (λ j. Err e) (Err NoRoute) job
unfolding report_of
report_by serves r peer (Some job) e is h = rw is (update_refused serves r peer job e h)
report_by serves r peer None e is h = rw is refl

unreported : (serves : List ℕ → Option Addr) (r : Request) (peer : Addr) → state_job r ≡ None
    → report_of serves r peer ≡ Err NoRoute
unfolding report_of
unreported serves r peer none = rw none refl

same_report : (serves : List ℕ → Option Addr) (r : Request) (peer : Addr) (body : List ℕ) (job : Option JobId)
    → state_job r ≡ job → of_job (λ j. sender_refused serves r peer) true job ≡ true
    → report_of serves (with_body r body) peer ≡ report_of serves r peer
same_report serves r peer body (Some job) is h =
    let x = refused_step (server_of serves r peer) h in
    report_by serves (with_body r body) peer (Some job) x.0 (same_state r body ∙ is)
    (same_sender serves r peer body ∙ x.1) ∙ sym (report_by serves r peer (Some job) x.0 is x.1)
same_report serves r peer body None is h =
    unreported serves (with_body r body) peer (same_state r body ∙ is) ∙ sym (unreported serves r peer is)

by_tests : {X : Type 0} (a b c d t u v w : Bool) (p q s x y p' q' x' y' : X)
    → cond a t (cond b u (cond c true (cond d v w))) ≡ true
    → (t ≡ true → p' ≡ p) → (u ≡ true → q' ≡ q) → (v ≡ true → x' ≡ x) → (w ≡ true → y' ≡ y)
    → cond a p' (cond b q' (cond c s (cond d x' y'))) ≡ cond a p (cond b q (cond c s (cond d x y)))
by_tests true b c d t u v w p q s x y p' q' x' y' h first second third fourth = first h
by_tests false true c d t u v w p q s x y p' q' x' y' h first second third fourth = second h
by_tests false false true d t u v w p q s x y p' q' x' y' h first second third fourth = refl
by_tests false false false true t u v w p q s x y p' q' x' y' h first second third fourth = third h
by_tests false false false false t u v w p q s x y p' q' x' y' h first second third fourth = fourth h

pub settled_at : (rules : Rules) (refuses : List ℕ → Bool) (serves : List ℕ → Option Addr) (r : Request)
    (peer : Addr) → scheduler_settled rules refuses serves r peer ≡ true
    → IsSettledAt rules refuses serves r peer
unfolding scheduler_settled asked_of
settled_at rules refuses serves r peer h = λ body said may.
    let post = codes "POST" in
    let alloc = codes "/api/v1/scheduler/alloc_job" in
    let beat = codes "/api/v1/scheduler/heartbeat_server" in
    rw (
      same_place r body post alloc,
      same_place r body post beat,
      same_place r body (codes "GET") (codes "/api/v1/scheduler/status"),
      same_drain rules r body,
    )
    (by_tests (is_at post alloc r) (is_at post beat r) (is_at (codes "GET") (codes "/api/v1/scheduler/status") r)
    (at_drain rules r)
    (client_refused refuses (client_token r)) (sender_refused serves r peer) (sender_refused serves r peer)
    (of_job (λ j. sender_refused serves r peer) true (state_job r))
    (alloc_of r said) (beat_of serves r peer) (Ok Status) (drain_of serves r peer) (report_of serves r peer)
    (alloc_of (with_body r body) said) (beat_of serves (with_body r body) peer)
    (drain_of serves (with_body r body) peer) (report_of serves (with_body r body) peer) h
    (λ t. let x = test_refused said (not_admitted refuses (client_token r) said may t) in
    shut_out (with_body r body) said x.0 x.1 ∙ sym (shut_out r said x.0 x.1))
    (λ t. let x = refused_step (server_of serves r peer) t in
    beat_refused serves (with_body r body) peer x.0 (same_sender serves r peer body ∙ x.1)
    ∙ sym (beat_refused serves r peer x.0 x.1))
    (λ t. let x = refused_step (server_of serves r peer) t in
    drain_refused serves (with_body r body) peer x.0 (same_sender serves r peer body ∙ x.1)
    ∙ sym (drain_refused serves r peer x.0 x.1))
    (λ t. same_report serves r peer body (state_job r) refl t))
