-- What was taken of a connection asks of a build server.
use Rattle.std.specs.Prelude.{ℕ, List, [], Option, Some, None, Result, ⊤}
use Rattle.dist_types.specs.declared.token_error.TokenError.{TokenError}
use Rattle.http_head.specs.declared.request.Request.{Request}
use Rattle.http_routes.specs.Refusal.{refusal_response}
use Rattle.http_routes.specs.ServerRoute.{server_asked_of, server_answered}
use Rattle.http_routes.specs.declared.refusal.Refusal.TheVariants.{BadHead}
use Rattle.http_routes.specs.declared.server_route.ServerRouted.{ServerRouted}
use Rattle.http_routes.specs.declared.server_route.ServerRouted.TheVariants.{Done}

-- what a request asks by its route, or the reply to its refusal; what is no request gets the reply to a bad
-- head
abbrev pub routed_of : (ℕ → List ℕ → Result ⊤ TokenError) → Option Request → ServerRouted
routed_of verdict None = Done (refusal_response BadHead)
routed_of verdict (Some request) = server_answered (server_asked_of verdict request)

-- the body of what was taken
abbrev pub body_of : Option Request → List ℕ
body_of None = []
body_of (Some request) = request.body
