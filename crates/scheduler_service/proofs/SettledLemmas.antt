-- What is replied to a request whose body was dropped.
use Rattle.std.proofs.Common.{◌≡◌, ◌≢◌, ℕ, Bool, true, List, Option, Some, None, Result, Ok, Err, refl}
use Rattle.std.proofs.Common.{◌∙◌, sym, ap, subst, inl, inr}
use Rattle.std.specs.Prelude.{⊤, is_err}
use Rattle.dist_types.specs.declared.addr.Addr.{Addr}
use Rattle.dist_types.specs.declared.rules.Rules.{Rules}
use Rattle.dist_types.specs.declared.token_error.TokenError.{TokenError}
use Rattle.http_head.specs.declared.request.Request.{Request}
use Rattle.http_routes.specs.Admission.{client_token, admission_by, Admits, MayBeAsked}
use Rattle.http_routes.specs.Route.{answered, wants_json}
use Rattle.http_routes.specs.Settled.{with_body, MaySay, IsSettledAt}
use Rattle.http_routes.specs.declared.admission.Admission.{Admission}
use Rattle.http_routes.specs.declared.admission.Admission.TheVariants.{Admitted}
use Rattle.http_routes.proofs.SettledLemmas.{same_client}
use Rattle.http_connections.specs.Served.{MadeReply}
use Rattle.http_connections.proofs.ConnectionLemmas.{AsWhole}
use Rattle.scheduler_service.specs.Connection.{Around, Routing, Asks, Does, IsReplied}

same_form : (r : Request) (body : List ℕ) → wants_json (with_body r body) ≡ wants_json r
unfolding wants_json
same_form r body = refl

some_same : (a b : Admission) → Some a ≡ Some b → a ≡ b
some_same a b e = cc e

-- an answer that refuses lets nobody in
lets_none_in : (shown : TokenError → List ℕ) (answer : Result ⊤ TokenError) → is_err answer ≡ true
    → admission_by shown answer ≢ Admitted
lets_none_in shown (Ok x) refused = absurd cc
lets_none_in shown (Err e) refused = λ is. absurd cc

-- no answer of a check accepts what it refuses whatever the moment is
abbrev pub Refusals : {K : Type 0} → (K → ℕ → List ℕ → Result ⊤ TokenError → K → Type 0) → (K → List ℕ → Bool)
    → Type 0
Refusals {K} may_answer refuses = (check : K) (now : ℕ) (token : List ℕ) (answer : Result ⊤ TokenError) (new : K)
    → may_answer check now token answer new → refuses check token ≡ true → is_err answer ≡ true

-- what the check says is what such a one may say
may_say : {K : Type 0} (may_answer : K → ℕ → List ℕ → Result ⊤ TokenError → K → Type 0)
    (shown : K → TokenError → List ℕ) (refuses : K → List ℕ → Bool) (law : Refusals may_answer refuses)
    (token : Option (List ℕ)) (now : ℕ) (old new : K) (said : Option Admission)
    → Admits may_answer shown token now old said new → MaySay (refuses old) token said
may_say may_answer shown refuses law None now old new said admits = admits.0
may_say may_answer shown refuses law (Some token) now old new said (says, is_said, x) = λ refused is.
    lets_none_in (shown new) x.answer (law old now token x.answer new x.answers refused)
    (sym x.told ∙ some_same says Admitted (sym is_said ∙ is))

asks_alike : {K : Type 0} (rules : Rules) (may_answer : K → ℕ → List ℕ → Result ⊤ TokenError → K → Type 0)
    (shown : K → TokenError → List ℕ) (refuses : K → List ℕ → Bool) (law : Refusals may_answer refuses)
    (serves : List ℕ → Option Addr) (peer : Addr) (r : Request)
    (body : List ℕ) (now : ℕ) (old new : K) (routing : Routing)
    → IsSettledAt rules (refuses old) serves r peer
    → Asks rules may_answer shown serves peer (Some r) now old routing new
    → Asks rules may_answer shown serves peer (Some (with_body r body)) now old routing new
asks_alike rules may_answer shown refuses law serves peer r body now old new (Ok routed) settled asks =
    let may = may_say may_answer shown refuses law (client_token r) now old new asks.said asks.admits in
    record {
      said = asks.said;
      admits = subst (λ t. Admits may_answer shown t now old asks.said new) (sym (same_client r body)) asks.admits;
      routes = asks.routes ∙ ap answered (sym (settled body asks.said may));
    }
asks_alike rules may_answer shown refuses law serves peer r body now old new (Err e) settled asks =
    subst (λ t. MayBeAsked may_answer t now old new) (sym (same_client r body)) asks

-- a request that asks the same with any body is replied to as it would be with its own
pub replied_whole : {K : Type 0} (rules : Rules) (may_answer : K → ℕ → List ℕ → Result ⊤ TokenError → K → Type 0)
    (shown : K → TokenError → List ℕ) (refuses : K → List ℕ → Bool) (law : Refusals may_answer refuses)
    (serves : List ℕ → Option Addr) (peer : Addr) (old new : Around K)
    (made : MadeReply) → rules ≡ old.means.pass.start.rules
    → AsWhole (λ r. IsSettledAt rules (refuses old.client) serves r peer) (IsReplied may_answer shown serves peer)
    old new made
replied_whole rules may_answer shown refuses law serves peer old new made same whole taken (inl is) did =
    subst (λ r. IsReplied may_answer shown serves peer (Some r) old new made) is did
replied_whole rules may_answer shown refuses law serves peer old new made same whole taken (inr (settled, is)) did =
    let with : with_body taken whole.body ≡ whole = ap (λ r. with_body r whole.body) is in
    subst (λ r. IsReplied may_answer shown serves peer (Some r) old new made) with (record {
      between = did.between;
      read = did.read;
      routing = did.routing;
      asks = asks_alike old.means.pass.start.rules may_answer shown refuses law serves peer taken whole.body
          did.between.last old.client new.client did.routing
          (subst (λ v. IsSettledAt v (refuses old.client) serves taken peer) same settled) did.asks;
      done = subst (λ json. Does json did.routing (record old.means { clock = did.between }) new.means made)
          (sym (same_form taken whole.body)) did.done;
    })
