-- The text of a reply.
use Rattle.std.specs.Prelude.{ℕ, Bool, List, [], ◌++◌, length, if◌then◌else◌, codes}
use Rattle.std.specs.Fmt.{decimal}
use Rattle.json.specs.Json as tree
use Rattle.dist_wire.specs.Json.{json_text}
use Rattle.http_head.specs.Text.{◌⧺◌}
use Rattle.http_head.specs.Word.{word_text}
use Rattle.http_routes.specs.declared.reply.Response.{Response}
use Rattle.http_routes.specs.declared.reply.Response.TheVariants.{Binary, Json, BadRequest, ServerError}
use Rattle.http_routes.specs.declared.reply.Response.TheVariants.{BadRealIp, Unauthorised, NotFound}

-- the status line, and the fields before the length
abbrev pub opening_text : Response → List ℕ
opening_text (Binary body) = codes "HTTP/1.1 200 OK\r\nContent-Type: application/octet-stream\r\n"
opening_text (Json body) = codes "HTTP/1.1 200 OK\r\nContent-Type: application/json\r\n"
opening_text (BadRequest body) = codes "HTTP/1.1 400 Bad Request\r\nContent-Type: application/json\r\n"
opening_text (ServerError body) =
    codes "HTTP/1.1 500 Internal Server Error\r\nContent-Type: application/json\r\n"
opening_text BadRealIp = codes "HTTP/1.1 400 Bad Request\r\n"
opening_text (Unauthorised word body) =
    codes "HTTP/1.1 401 Unauthorized\r\nWWW-Authenticate: Bearer error=\"" ⧺ word_text word ⧺ codes "\"\r\n"
opening_text NotFound = codes "HTTP/1.1 404 Not Found\r\n"

-- the body
abbrev pub body_of : Response → List ℕ
body_of (Binary body) = body
body_of (Json body) = body
body_of (BadRequest body) = body
body_of (ServerError body) = body
body_of BadRealIp = []
body_of (Unauthorised word body) = body
body_of NotFound = []

-- the head, which tells the body's length
abbrev pub head_text : Response → List ℕ
head_text r = opening_text r ⧺ codes "Content-Length: " ⧺ decimal (length (body_of r))
    ⧺ codes "\r\nConnection: close\r\n\r\n"

-- the bytes of the reply
unfoldable pub reply_text : Response → List ℕ
reply_text r = head_text r ++ body_of r

-- the reply with a message, in JSON or in binary, by the text and the JSON of messages of its type
abbrev pub response_of : {M : Type 0} → (M → List ℕ) → (M → tree.Json) → Bool → M → Response
response_of text json_of json m = if json then Json (json_text (json_of m)) else Binary (text m)
