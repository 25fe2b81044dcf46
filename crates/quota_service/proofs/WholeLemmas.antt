-- What is replied to a request whose body was dropped, and the parts of a connection put together.
use Rattle.std.proofs.Common.{◌≡◌, ◌≢◌, ◌⊎◌, ℕ, true, List, Option, Some, None, Result, Ok, Err, refl, sym, ap}
use Rattle.std.proofs.Common.{◌∙◌, subst, inl, inr}
use Rattle.std.specs.Prelude.{⊤, is_err, option_map}
use Rattle.dist_types.specs.declared.addr.Addr.{Addr}
use Rattle.dist_types.specs.declared.fault.Memory as want
use Rattle.dist_types.specs.declared.rules.Rules.TheVariants.{One}
use Rattle.dist_types.specs.declared.token_error.TokenError.{TokenError}
use Rattle.dist_token.specs.Checks.{fixed_shown}
use Rattle.http_head.specs.declared.request.Request.{Request}
use Rattle.http_routes.specs.Admission.{client_token, admission_by}
use Rattle.http_routes.specs.Route.{asked_of, answered, wants_json}
use Rattle.http_routes.specs.Settled.{with_body, MaySay, IsSettledAt}
use Rattle.http_routes.specs.declared.admission.Admission.TheVariants.{Admitted}
use Rattle.http_routes.specs.declared.route.SchedRouted.{SchedRouted}
use Rattle.http_routes.proofs.SettledLemmas.{same_client}
use Rattle.http_connections.specs.Form.{form_of}
use Rattle.http_connections.specs.Served.{MadeReply}
use Rattle.http_connections.specs.Taking.{IsTakenAs}
use Rattle.http_connections.proofs.ConnectionLemmas.{AsWhole}
use Rattle.sched.specs.Outside.{Moments, IsRead}
use Rattle.quota.specs.Clients.{Client}
use Rattle.quota_service.specs.Connection.{IsAnswered, IsReplied}
use Rattle.quota_service.specs.Listed.{listed_verdict, listed_refuses}
use Rattle.quota_service.specs.Question.{listed_admission, what_of, asker_of}
use Rattle.quota_service.specs.Replied.{Means, IsDone}
use Rattle.quota_service.proofs.QuestionLemmas.{same_some}

same_form : (r : Request) (body : List ℕ) → wants_json (with_body r body) ≡ wants_json r
unfolding wants_json
same_form r body = refl

lets_none_in : (answer : Result ⊤ TokenError) → is_err answer ≡ true
    → admission_by (λ e. fixed_shown) answer ≢ Admitted
lets_none_in (Ok x) refused = absurd cc
lets_none_in (Err e) refused = λ is. absurd cc

may_say : (clients : List Client) (token : Option (List ℕ))
    → MaySay (listed_refuses clients) token (option_map (listed_admission clients) token)
may_say clients None = refl
may_say clients (Some token) = λ refused is.
    lets_none_in (listed_verdict clients token) refused (same_some (listed_admission clients token) Admitted is)

-- a request whose head settles what it asks, asks the same with any body
same_what : (clients : List Client) (serves : List ℕ → Option Addr) (peer : Addr) (r : Request) (body : List ℕ)
    → IsSettledAt One (listed_refuses clients) serves r peer
    → what_of clients serves peer (Some (with_body r body)) ≡ what_of clients serves peer (Some r)
same_what clients serves peer r body settled =
    ap
    (λ t. answered (asked_of One serves (with_body r body) peer (option_map (listed_admission clients) t)))
    (same_client r body)
    ∙ ap answered (settled body (option_map (listed_admission clients) (client_token r))
    (may_say clients (client_token r)))

answered_alike : (serves : List ℕ → Option Addr) (peer : Addr) (r : Request) (body : List ℕ) (now : ℕ)
    (old new : Means) (made : MadeReply) → IsSettledAt One (listed_refuses old.quota.clients) serves r peer
    → IsAnswered serves peer (Some r) now old new made
    → IsAnswered serves peer (Some (with_body r body)) now old new made
answered_alike serves peer r body now old new made settled (inl none) = inl none
answered_alike serves peer r body now old new made settled (inr done) =
    inr (subst (λ w. IsDone w (wants_json (with_body r body)) (asker_of (Some r)) now old new made)
    (sym (same_what old.quota.clients serves peer r body settled))
    (subst (λ json. IsDone (what_of old.quota.clients serves peer (Some r)) json (asker_of (Some r)) now old new
    made) (sym (same_form r body)) done))

-- a request that asks the same with any body is replied to as it would be with its own
pub replied_whole : (serves : List ℕ → Option Addr) (peer : Addr) (old new : Means) (made : MadeReply)
    → AsWhole (λ r. IsSettledAt One (listed_refuses old.quota.clients) serves r peer) (IsReplied serves peer)
    old new made
replied_whole serves peer old new made whole taken (inl is) did =
    subst (λ r. IsReplied serves peer (Some r) old new made) is did
replied_whole serves peer old new made whole taken (inr (settled, is)) did =
    let with : with_body taken whole.body ≡ whole = ap (λ r. with_body r whole.body) is in
    subst (λ r. IsReplied serves peer (Some r) old new made) with (record {
      between = did.between;
      read = did.read;
      answered = answered_alike serves peer taken whole.body did.between.last
          (record old { clock = did.between }) new made settled did.answered;
    })

-- what is asked at a moment, and done, is the reply to what was taken
pub replied : (serves : List ℕ → Option Addr) (peer : Addr) (request : Option Request) (old new : Means)
    (between : Moments) (now : ℕ) (what : SchedRouted) (made : MadeReply)
    → IsRead old.clock between → between.last ≡ now → what ≡ what_of old.quota.clients serves peer request
    → IsDone what (form_of request) (asker_of request) now (record old { clock = between }) new made
    → IsReplied serves peer request old new made
replied serves peer request old new between now what made read is asks done =
    record {
      between = between;
      read = read;
      answered = subst (λ n. IsAnswered serves peer request n (record old { clock = between }) new made) (sym is)
          (inr (subst (λ w. IsDone w (form_of request) (asker_of request) now (record old { clock = between }) new
          made) asks done));
    }

-- where memory ran out before what is asked was known, nothing is done
pub unrouted : (serves : List ℕ → Option Addr) (peer : Addr) (request : Option Request) (old : Means)
    (between : Moments) (e : want.Memory) → IsRead old.clock between
    → IsReplied serves peer request old (record old { clock = between }) (Err e)
unrouted serves peer request old between e read =
    record { between = between; read = read; answered = inl (refl, refl) }
