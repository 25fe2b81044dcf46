-- What the far side of a mirror replies to a connection.
use Rattle.std.specs.Prelude.{◌≡◌, Option, Some, None, Ok}
use Rattle.http_connections.specs.Served.{MadeReply}
use Rattle.http_head.specs.declared.request.Request.{Request}
use Rattle.http_routes.specs.declared.reply.Response.TheVariants.{NotFound}
use Rattle.mirror.specs.Caches.{Cache}
use Rattle.mirror.specs.Routing.{Routes}

-- the reply to what was taken: that of the route; and 404 where it is no request, which leaves the cache
abbrev pub IsMirrored : Option Request → Cache → Cache → MadeReply → Type 0
IsMirrored (Some request) old new made = Routes request made old new
IsMirrored None old new made = (made ≡ Ok NotFound) × (new ≡ old)
