-- What a reader sees of a reply that was written.
use Rattle.std.specs.Prelude.{ℕ, List, [], ◌∷◌, ◌++◌, length, codes}
use Rattle.std.specs.Fmt.{decimal}
use Rattle.http_routes.specs.declared.reply.Response.{Response}
use Rattle.http_routes.specs.declared.reply.Response.TheVariants.{Binary, Json, BadRequest, ServerError}
use Rattle.http_routes.specs.declared.reply.Response.TheVariants.{BadRealIp, Unauthorised, NotFound}
use Rattle.http_head.specs.declared.reply.Reply.{Reply}
use Rattle.http_head.specs.Fields.{Field}
use Rattle.http_head.specs.Word.{word_text}
use Rattle.http_routes.specs.Reply.{body_of}

-- the code
abbrev pub code_of : Response → ℕ
code_of (Binary body) = 200
code_of (Json body) = 200
code_of (BadRequest body) = 400
code_of (ServerError body) = 500
code_of BadRealIp = 400
code_of (Unauthorised word body) = 401
code_of NotFound = 404

-- the fields before the length
abbrev pub first_fields : Response → List Field
first_fields (Binary body) = (codes "Content-Type", codes "application/octet-stream") ∷ []
first_fields (Json body) = (codes "Content-Type", codes "application/json") ∷ []
first_fields (BadRequest body) = (codes "Content-Type", codes "application/json") ∷ []
first_fields (ServerError body) = (codes "Content-Type", codes "application/json") ∷ []
first_fields BadRealIp = []
first_fields (Unauthorised word body) =
    (codes "WWW-Authenticate", codes "Bearer error=\"" ++ (word_text word ++ codes "\"")) ∷ []
first_fields NotFound = []

-- all fields
abbrev pub fields_of : Response → List Field
fields_of r = first_fields r ++ ((codes "Content-Length", decimal (length (body_of r))) ∷
    (codes "Connection", codes "close") ∷ [])

-- what a reader sees
abbrev pub seen : Response → Reply
seen r = record { code = code_of r; headers = fields_of r; body = body_of r }
