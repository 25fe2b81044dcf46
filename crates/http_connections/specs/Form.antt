-- The form of a reply, by what was taken.
use Rattle.std.specs.Prelude.{Bool, false, Option, Some, None}
use Rattle.http_head.specs.declared.request.Request.{Request}
use Rattle.http_routes.specs.Route.{wants_json}

-- whether the reply is to be in JSON
abbrev pub form_of : Option Request → Bool
form_of None = false
form_of (Some request) = wants_json request
