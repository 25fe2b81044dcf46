-- What the bytes that a peer sent ask of the scheduler.
use Rattle.std.specs.Prelude.{◌≡◌, ◌⊎◌, ℕ, List, false, Option, Result, ⊤}
use Rattle.dist_types.specs.declared.addr.Addr.{Addr}
use Rattle.dist_types.specs.declared.rules.Rules.{Rules}
use Rattle.dist_types.specs.declared.token_error.TokenError.{TokenError}
use Rattle.dist_token.specs.Verdict.{plain_server}
use Rattle.http_head.specs.declared.request.Request.{Request}
use Rattle.http_head.specs.Head.{IsRequest, IsNoRequest}
use Rattle.http_routes.specs.declared.admission.Admission.{Admission}
use Rattle.http_routes.specs.declared.refusal.Refusal.TheVariants.{BadHead}
use Rattle.http_routes.specs.declared.route.Asked.{Asked}
use Rattle.http_routes.specs.declared.route.SchedRouted.TheVariants.{Done}
use Rattle.http_routes.specs.Admission.{client_token, MayBeAsked, equal_admission}
use Rattle.http_routes.specs.Refusal.{refusal_response}
use Rattle.http_routes.specs.Route.{wants_json, question_under, IsRouted}

-- what is asked by bytes that are no request
abbrev pub bad_question : Asked
bad_question = record { what = Done (refusal_response BadHead); json = false }

-- What the bytes ask, as a request of that peer or as a bad head, of a scheduler that goes by those rules,
-- lets clients in by their tokens, and accepts servers by theirs.
abbrev pub IsAskedUnder : Rules → (List ℕ → Admission) → (List ℕ → Option Addr) → List ℕ → Addr → Asked
    → Type 0
IsAskedUnder rules lets serves bytes peer asked =
    ((r : Request) × IsRequest bytes r × (asked ≡ question_under rules lets serves r peer))
    ⊎ (IsNoRequest bytes × (asked ≡ bad_question))

-- The same where a check of clients is asked, which may give those answers and shows those texts, and becomes
-- `new`.
abbrev pub IsAskedOf : {K : Type 0} → Rules → (K → ℕ → List ℕ → Result ⊤ TokenError → K → Type 0)
    → (K → TokenError → List ℕ) → (List ℕ → Option Addr) → List ℕ → Addr → ℕ → K → Asked → K → Type 0
IsAskedOf rules may_answer shown serves bytes peer now old asked new =
    ((r : Request) × IsRequest bytes r × IsRouted rules may_answer shown serves r peer now old asked.what new
    × (asked.json ≡ wants_json r))
    ⊎ (IsNoRequest bytes × (asked ≡ bad_question) × (new ≡ old))

-- what want of memory leaves of that check: it is as it was, or was asked about the token that the bytes show
-- as a request
abbrev pub MayBeAskedBy : {K : Type 0} → (K → ℕ → List ℕ → Result ⊤ TokenError → K → Type 0) → List ℕ → ℕ → K
    → K → Type 0
MayBeAskedBy may_answer bytes now old new = (new ≡ old)
    ⊎ ((r : Request) × IsRequest bytes r × MayBeAsked may_answer (client_token r) now old new)

-- what the bytes ask, under one token of all clients and one of all servers
abbrev pub IsAsked : Rules → List ℕ → Addr → List ℕ → List ℕ → Asked → Type 0
IsAsked rules bytes peer client expected asked = IsAskedUnder rules (equal_admission client)
    (plain_server expected) bytes peer asked
