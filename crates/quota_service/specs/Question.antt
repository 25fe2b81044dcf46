-- What a connection asks of a scheduler with quotas.
use Rattle.std.specs.Prelude.{ℕ, List, Bool, false, is_some, codes, Option, Some, None}
use Rattle.dist_types.specs.declared.addr.Addr.{Addr}
use Rattle.dist_types.specs.declared.rules.Rules.TheVariants.{One}
use Rattle.dist_token.specs.Checks.{fixed_shown}
use Rattle.http_head.specs.declared.request.Request.{Request}
use Rattle.http_head.specs.Bearer.{token_in}
use Rattle.http_head.specs.Fields.{header}
use Rattle.http_routes.specs.Admission.{admission_by}
use Rattle.http_routes.specs.Refusal.{refusal_response}
use Rattle.http_routes.specs.Route.{question_under}
use Rattle.http_routes.specs.declared.admission.Admission.{Admission}
use Rattle.http_routes.specs.declared.refusal.Refusal.TheVariants.{BadHead}
use Rattle.http_routes.specs.declared.route.SchedRouted.{SchedRouted}
use Rattle.http_routes.specs.declared.route.SchedRouted.TheVariants.{Done}
use Rattle.quota.specs.Clients.{Client, place_of}
use Rattle.quota_service.specs.Listed.{listed_verdict}

-- what the check of clients says of a token: each listed name is let in, and any other is refused, and shown
-- what the check of one token shows
abbrev pub listed_admission : List Client → List ℕ → Admission
listed_admission clients token = admission_by (λ e. fixed_shown) (listed_verdict clients token)

-- what was taken asks in version 1, where servers are accepted by their tokens: a request by its route, and
-- what is no request gets the reply to a bad head
abbrev pub what_of : List Client → (List ℕ → Option Addr) → Addr → Option Request → SchedRouted
what_of clients serves peer None = Done (refusal_response BadHead)
what_of clients serves peer (Some r) = (question_under One (listed_admission clients) serves r peer).what

-- the token that a request shows, which is the name of its client
abbrev pub asker_of : Option Request → Option (List ℕ)
asker_of None = None
asker_of (Some r) = token_in (header (codes "authorization") r.headers)

-- whether a token is shown that is the name of a client
abbrev pub is_listed : List Client → Option (List ℕ) → Bool
is_listed clients None = false
is_listed clients (Some name) = is_some (place_of clients name)
