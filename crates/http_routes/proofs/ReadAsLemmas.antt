-- What bytes ask of a scheduler, whatever its check of clients says of the token that they show.
use Rattle.std.proofs.Common.{◌≡◌, ◌↔◌, inl, inr, ℕ, List, Option, Some, None, true, false, Result, Ok, refl}
use Rattle.std.proofs.Common.{sym, ap, subst, ◌∙◌}
use Rattle.std.specs.Prelude.{codes, ⊤}
use Rattle.dist_types.specs.declared.addr.Addr.{Addr}
use Rattle.dist_types.specs.declared.rules.Rules.{Rules}
use Rattle.dist_types.specs.declared.token_error.TokenError.{TokenError}
use Rattle.dist_wire.specs.Reading.{toolchain_at}
use Rattle.http_head.specs.declared.request.Request.{Request}
use Rattle.http_head.proofs.BearerLemmas.{shown_token}
use Rattle.http_head.proofs.HeadLemmas.{one_request}
use Rattle.http_routes.specs.declared.admission.Admission.{Admission}
use Rattle.http_routes.specs.declared.route.Asked.{Asked}
use Rattle.http_routes.specs.declared.route.SchedRouted.{SchedRouted}
use Rattle.http_routes.specs.Admission.{client_token, Admits}
use Rattle.http_routes.specs.Asked.{IsAskedOf}
use Rattle.http_routes.specs.Message.{message_in}
use Rattle.http_routes.specs.Place.{is_at}
use Rattle.http_routes.specs.ReadAs.{allocated, IsReadAs}
use Rattle.http_routes.specs.Route.{wants_json, alloc_of, asked_of, answered}
use Rattle.http_routes.specs.Sender.{Shows}

-- ---- a request at the place of requests for jobs

pub client_shows : (r : Request) (token : List ℕ)
    → is_at (codes "POST") (codes "/api/v1/scheduler/alloc_job") r ≡ true → Shows r token
    → client_token r ≡ Some token
unfolding client_token
client_shows r token at s = rw (at, s, shown_token token) refl

pub client_shows_none : (r : Request) → is_at (codes "POST") (codes "/api/v1/scheduler/alloc_job") r ≡ false
    → client_token r ≡ None
unfolding client_token
client_shows_none r at = rw at refl

pub asks_job : (rules : Rules) (serves : List ℕ → Option Addr) (r : Request) (peer : Addr)
    (said : Option Admission) (tc : List ℕ)
    → is_at (codes "POST") (codes "/api/v1/scheduler/alloc_job") r ≡ true
    → message_in toolchain_at r ≡ Ok tc → answered (asked_of rules serves r peer said) ≡ allocated tc said
unfolding asked_of alloc_of
asks_job rules serves r peer said tc at m = rw (at, m) refl

-- ---- what is found under a check of clients, in whatever state

module _ {K : Type 0} (may_answer : K → ℕ → List ℕ → Result ⊤ TokenError → K → Type 0)
    (texts : K → TokenError → List ℕ) (rules : Rules) (serves : List ℕ → Option Addr) (bytes : List ℕ)
    (shown : Option (List ℕ)) (what : Option Admission → SchedRouted) (peer : Addr) (now : ℕ) (old new : K)
    (asked : Asked) (reads : IsReadAs bytes shown what) where
  abbrev pub Finds : Type 0
  Finds = (said : Option Admission) × Admits may_answer texts shown now old said new
      × (asked ≡ record { what = what said; json = false })

  found : IsAskedOf rules may_answer texts serves bytes peer now old asked new → Finds
  found (inl (r, x, routed, json)) =
      let same = one_request bytes r reads.request x reads.is in (
        routed.said,
        subst (λ t. Admits may_answer texts t now old routed.said new) (ap client_token same ∙ reads.shows)
            routed.admits,
        λ i. record {
          what = (routed.routes
              ∙ (ap (λ q. answered (asked_of rules serves q peer routed.said)) same
              ∙ reads.asks rules serves peer routed.said)) i;
          json = (json ∙ (ap wants_json same ∙ reads.form)) i;
        },
      )
  found (inr (none, is, same)) = absurd (none reads.request reads.is)

  finds : Finds → IsAskedOf rules may_answer texts serves bytes peer now old asked new
  finds (said, admits, is) =
      inl (
        reads.request,
        reads.is,
        record {
          said = said;
          admits = subst (λ t. Admits may_answer texts t now old said new) (sym reads.shows) admits;
          routes = ap (λ (a : Asked). a.what) is ∙ sym (reads.asks rules serves peer said);
        },
        ap (λ (a : Asked). a.json) is ∙ sym reads.form,
      )

  pub read_under_checks : IsAskedOf rules may_answer texts serves bytes peer now old asked new ↔ Finds
  read_under_checks = (found, finds)
