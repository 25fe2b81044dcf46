-- What is replied to a request whose body was dropped.
use Rattle.std.proofs.Common.{◌≡◌, ◌⊎◌, ℕ, List, [], Option, Some, None, Result, Ok, Err, refl, sym, ap, subst, ◌∙◌, inl, inr}
use Rattle.std.specs.Prelude.{⊤, IfOk}
use Rattle.dist_types.specs.Outgoing.{Peer}
use Rattle.dist_types.specs.declared.token_error.TokenError.{TokenError}
use Rattle.http_head.specs.declared.request.Request.{Request}
use Rattle.http_routes.specs.Refusal.{refusal_response}
use Rattle.http_routes.specs.ServerRoute.{server_asked_of, server_answered}
use Rattle.http_routes.specs.Settled.{with_body, IsSettledFor}
use Rattle.http_routes.specs.declared.refusal.Refusal.{Refusal}
use Rattle.http_routes.specs.declared.server_route.ServerRouted.TheVariants.{Done}
use Rattle.http_connections.specs.Form.{form_of}
use Rattle.http_connections.specs.Served.{MadeReply}
use Rattle.http_connections.specs.Taking.{IsTakenAs}
use Rattle.http_connections.proofs.ConnectionLemmas.{AsWhole}
use Rattle.server_service.specs.Replied.{Means, Routing, Does, IsDone, IsReplied}
use Rattle.server_service.specs.Routed.{body_of}

-- what is done where the route refused is the refusal's reply, whatever form and body it had
refused_alike : (verdict : ℕ → List ℕ → Result ⊤ TokenError) (peer : Peer) (whole taken : Request) (e : Refusal)
    (old new : Means) (made : MadeReply) (routing : Routing)
    → server_asked_of verdict whole ≡ Err e → server_asked_of verdict taken ≡ Err e
    → IfOk routing (λ routed. routed ≡ server_answered (server_asked_of verdict taken))
    → Does peer (form_of (Some taken)) (body_of (Some taken)) routing old new made
    → IsReplied verdict peer (Some whole) old new made
refused_alike verdict peer whole taken e old new made (Err m) whole_is taken_is routes done =
    record { routing = Err m; routes = tt; done = done }
refused_alike verdict peer whole taken e old new made (Ok routed) whole_is taken_is routes done =
    let is : routed ≡ Done (refusal_response e) = routes ∙ ap server_answered taken_is in
    record {
      routing = Ok (Done (refusal_response e));
      routes = sym (ap server_answered whole_is);
      done = subst (λ r. IsDone peer (form_of (Some taken)) (body_of (Some taken)) r old new made) is done;
    }

-- a request whose head settles that it is refused is replied to as it would be with its body
pub replied_whole : (verdict : ℕ → List ℕ → Result ⊤ TokenError) (peer : Peer) (old new : Means)
    (made : MadeReply) → AsWhole (IsSettledFor verdict) (IsReplied verdict peer) old new made
replied_whole verdict peer old new made whole taken (inl is) did =
    subst (λ r. IsReplied verdict peer (Some r) old new made) is did
replied_whole verdict peer old new made whole taken (inr (settled, is)) did =
    let with : with_body taken whole.body ≡ whole = ap (λ r. with_body r whole.body) is in
    refused_alike verdict peer whole taken settled.0 old new made did.routing
    (subst (λ r. server_asked_of verdict r ≡ Err settled.0) with (settled.1 whole.body))
    (settled.1 taken.body) did.routes did.done
