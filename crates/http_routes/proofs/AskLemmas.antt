-- What is asked of a scheduler whose check of clients knows one token.
use Rattle.std.proofs.Common.{◌≡◌, inl, inr, ℕ, List, Option, Some, None, true, false, Result, Ok, refl, sym}
use Rattle.std.proofs.Common.{ap, ◌∙◌}
use Rattle.std.specs.Prelude.{codes, option_map, ⊤}
use Rattle.dist_types.specs.declared.addr.Addr.{Addr}
use Rattle.dist_types.specs.declared.rules.Rules.{Rules}
use Rattle.dist_types.specs.declared.token_error.TokenError.{TokenError}
use Rattle.dist_token.specs.Checks.{equal_verdict, fixed_shown}
use Rattle.http_head.specs.declared.request.Request.{Request}
use Rattle.http_head.proofs.HeadLemmas.{one_request}
use Rattle.http_routes.specs.declared.admission.Admission.{Admission}
use Rattle.http_routes.specs.declared.route.Asked.{Asked}
use Rattle.http_routes.specs.declared.route.SchedRouted.TheVariants.{Status}
use Rattle.http_routes.specs.Admission.{client_token, admission_by, Admits, MayBeAsked, equal_admission}
use Rattle.http_routes.specs.Asked.{IsAskedOf, IsAskedUnder, MayBeAskedBy}
use Rattle.http_routes.specs.Place.{is_at, at_drain}
use Rattle.http_routes.specs.Route.{beat_of, drain_of, report_of, asked_of, answered, question_under}

-- which answers the check of one token may give, and what it shows
abbrev pub may_equal : List ℕ → ℕ → List ℕ → Result ⊤ TokenError → List ℕ → Type 0
may_equal old now token answer new = (new ≡ old) × (answer ≡ equal_verdict old token)

abbrev pub shows_equal : List ℕ → TokenError → List ℕ
shows_equal check e = fixed_shown

equal_admits : (o : Option (List ℕ)) (now : ℕ) (old new : List ℕ) (said : Option Admission)
    → Admits may_equal shows_equal o now old said new
    → (said ≡ option_map (equal_admission old) o) × (new ≡ old)
equal_admits None now old new said (none, same) = (none, same)
equal_admits (Some token) now old new said (says, is, a) =
    (is ∙ ap Some (a.told ∙ ap (admission_by (λ e. fixed_shown)) a.answers.1), a.answers.0)

pub asked_equal : (rules : Rules) (serves : List ℕ → Option Addr) (bytes : List ℕ) (peer : Addr) (now : ℕ)
    (old new : List ℕ) (asked : Asked)
    → IsAskedOf rules may_equal shows_equal serves bytes peer now old asked new
    → IsAskedUnder rules (equal_admission old) serves bytes peer asked × (new ≡ old)
asked_equal rules serves bytes peer now old new asked (inl (r, x, routed, json)) =
    let m = equal_admits (client_token r) now old new routed.said routed.admits in (
      inl (
        r,
        x,
        λ i. record {
          what = (routed.routes
              ∙ ap (λ (s : Option Admission). answered (asked_of rules serves r peer s)) m.0) i;
          json = json i;
        },
      ),
      m.1,
    )
asked_equal rules serves bytes peer now old new asked (inr (none, is, same)) = (inr (none, is), same)

stays_equal : (o : Option (List ℕ)) (now : ℕ) (old new : List ℕ) → MayBeAsked may_equal o now old new
    → new ≡ old
stays_equal None now old new same = same
stays_equal (Some token) now old new asked = asked.1.0

-- the check of one token stays, whether it was asked or not
pub left_equal : (bytes : List ℕ) (now : ℕ) (old new : List ℕ) → MayBeAskedBy may_equal bytes now old new
    → new ≡ old
left_equal bytes now old new (inl same) = same
left_equal bytes now old new (inr (r, x, asked)) = stays_equal (client_token r) now old new asked

-- ---- a request at one of the scheduler's places

pub beat_asked : (rules : Rules) (serves : List ℕ → Option Addr) (r : Request) (peer : Addr)
    (said : Option Admission)
    → is_at (codes "POST") (codes "/api/v1/scheduler/alloc_job") r ≡ false
    → is_at (codes "POST") (codes "/api/v1/scheduler/heartbeat_server") r ≡ true
    → asked_of rules serves r peer said ≡ beat_of serves r peer
unfolding asked_of
beat_asked rules serves r peer said a b = rw (a, b) refl

pub status_asked : (rules : Rules) (serves : List ℕ → Option Addr) (r : Request) (peer : Addr)
    (said : Option Admission)
    → is_at (codes "POST") (codes "/api/v1/scheduler/alloc_job") r ≡ false
    → is_at (codes "POST") (codes "/api/v1/scheduler/heartbeat_server") r ≡ false
    → is_at (codes "GET") (codes "/api/v1/scheduler/status") r ≡ true
    → asked_of rules serves r peer said ≡ Ok Status
unfolding asked_of
status_asked rules serves r peer said a b s = rw (a, b, s) refl

pub drain_asked : (rules : Rules) (serves : List ℕ → Option Addr) (r : Request) (peer : Addr)
    (said : Option Admission)
    → is_at (codes "POST") (codes "/api/v1/scheduler/alloc_job") r ≡ false
    → is_at (codes "POST") (codes "/api/v1/scheduler/heartbeat_server") r ≡ false
    → is_at (codes "GET") (codes "/api/v1/scheduler/status") r ≡ false
    → at_drain rules r ≡ true
    → asked_of rules serves r peer said ≡ drain_of serves r peer
unfolding asked_of
drain_asked rules serves r peer said a b s d = rw (a, b, s, d) refl

-- a request that is at none of the four places tells a job's state, or is refused
pub elsewhere_asked : (rules : Rules) (serves : List ℕ → Option Addr) (r : Request) (peer : Addr)
    (said : Option Admission)
    → is_at (codes "POST") (codes "/api/v1/scheduler/alloc_job") r ≡ false
    → is_at (codes "POST") (codes "/api/v1/scheduler/heartbeat_server") r ≡ false
    → is_at (codes "GET") (codes "/api/v1/scheduler/status") r ≡ false
    → at_drain rules r ≡ false
    → asked_of rules serves r peer said ≡ report_of serves r peer
unfolding asked_of
elsewhere_asked rules serves r peer said a b s d = rw (a, b, s, d) refl

pub one_question : (rules : Rules) (lets : List ℕ → Admission) (serves : List ℕ → Option Addr)
    (bytes : List ℕ) (peer : Addr) (a b : Asked)
    → IsAskedUnder rules lets serves bytes peer a → IsAskedUnder rules lets serves bytes peer b → a ≡ b
one_question rules lets serves bytes peer a b (inl (r, x, e)) (inl (q, y, f)) =
    e ∙ (ap (λ s. question_under rules lets serves s peer) (one_request bytes r q x y) ∙ sym f)
one_question rules lets serves bytes peer a b (inl (r, x, e)) (inr (none, f)) = absurd (none r x)
one_question rules lets serves bytes peer a b (inr (none, e)) (inl (q, y, f)) = absurd (none q y)
one_question rules lets serves bytes peer a b (inr (none, e)) (inr (nothing, f)) = e ∙ sym f
