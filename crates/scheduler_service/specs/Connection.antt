-- What serving one connection of a scheduler does.
use Rattle.std.specs.Prelude.{◌≡◌, ℕ, Bool, List, Option, Some, None, Result, Ok, Err, ⊤}
use Rattle.dist_types.specs.declared.addr.Addr.{Addr}
use Rattle.dist_types.specs.declared.fault.Memory as want
use Rattle.dist_types.specs.declared.rules.Rules.{Rules}
use Rattle.dist_types.specs.declared.token_error.TokenError.{TokenError}
use Rattle.http_head.specs.declared.request.Request.{Request}
use Rattle.http_routes.specs.Admission.{client_token, MayBeAsked}
use Rattle.http_routes.specs.Refusal.{refusal_response}
use Rattle.http_routes.specs.Route.{IsRouted}
use Rattle.http_routes.specs.declared.refusal.Refusal.TheVariants.{BadHead}
use Rattle.http_routes.specs.declared.route.SchedRouted.{SchedRouted}
use Rattle.http_routes.specs.declared.route.SchedRouted.TheVariants.{Done}
use Rattle.sched.specs.Outside.{Moments, IsRead}
use Rattle.http_connections.specs.Form.{form_of}
use Rattle.http_connections.specs.Served.{MadeReply}
use Rattle.scheduler_service.specs.ByEntries.{IsDoneAt}
use Rattle.scheduler_service.specs.Replied.{Means}

-- what the caller lends beside the link: the means of the handlers, and the check of clients' tokens
pub record Around (K : Type 0) : Type 0 where
  pub means : Means
  pub client : K

-- what is asked, or that memory ran out before that was known
abbrev pub Routing : Type 0
Routing = Result SchedRouted want.Memory

-- What was taken asks that at a moment, by those rules: a request by its route, and what is no request gets the
-- reply to a bad head. Where memory ran out, the check of clients stays, or was asked once about the token that is
-- shown.
abbrev pub Asks : {K : Type 0} → Rules → (K → ℕ → List ℕ → Result ⊤ TokenError → K → Type 0)
    → (K → TokenError → List ℕ) → (List ℕ → Option Addr) → Addr → Option Request → ℕ → K → Routing → K
    → Type 0
Asks rules may_answer shown serves peer None now old (Ok routed) new =
    (routed ≡ Done (refusal_response BadHead)) × (new ≡ old)
Asks rules may_answer shown serves peer None now old (Err e) new = new ≡ old
Asks rules may_answer shown serves peer (Some request) now old (Ok routed) new =
    IsRouted rules may_answer shown serves request peer now old routed new
Asks rules may_answer shown serves peer (Some request) now old (Err e) new =
    MayBeAsked may_answer (client_token request) now old new

-- What is asked is done, and replied to by the entries that it made; where memory ran out before it was
-- known, there is no reply, and nothing changes.
abbrev pub Does : Bool → Routing → Means → Means → MadeReply → Type 0
Does json (Ok routed) old new made = IsDoneAt json routed old new made
Does json (Err e) old new made = (made ≡ Err e) × (new ≡ old)

-- The reply to what was taken, or that memory ran out before it was made: the clock is read once for its
-- route, which goes by the rules of the pass's scheduler, and what it asks is then done.
pub record IsReplied {K : Type 0} (may_answer : K → ℕ → List ℕ → Result ⊤ TokenError → K → Type 0)
    (shown : K → TokenError → List ℕ) (serves : List ℕ → Option Addr) (peer : Addr)
    (request : Option Request) (old new : Around K) (made : MadeReply) : Type 0 where
  pub between : Moments
  pub read : IsRead old.means.clock between
  pub routing : Routing
  pub asks : Asks old.means.pass.start.rules may_answer shown serves peer request between.last old.client
      routing new.client
  pub done : Does (form_of request) routing (record old.means { clock = between }) new.means made
