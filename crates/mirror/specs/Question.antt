-- The request for an archive, and which one a request asks for.
use Rattle.std.specs.Prelude.{ℕ, List, ◌∷◌, ◌++◌, codes, bytes_eq, if◌then◌else◌, Option, Some, None}
use Rattle.std.specs.Fmt.{decimal}
use Rattle.dist_types.specs.Toolchain.{digest_in}
use Rattle.http_head.specs.declared.request.Request.{Request}
use Rattle.http_head.specs.declared.written_request.Method.TheVariants.{Get}
use Rattle.http_head.specs.declared.written_request.WrittenRequest.{WrittenRequest}
use Rattle.http_head.specs.Fields.{path_of}
use Rattle.http_routes.specs.Place.{stripped}

-- the host and the port, as a head names them
abbrev pub host_at : List ℕ → ℕ → List ℕ
host_at host port = host ++ (58 ∷ decimal port)

-- the request for the archive of that id: a GET with neither token nor body
unfoldable pub mirror_question : List ℕ → ℕ → List ℕ → WrittenRequest
mirror_question host port id = record {
  method = Get;
  target = codes "/api/v1/mirror/" ++ id;
  host = host_at host port;
  token = None;
  body = None;
}

-- the id that a text says, where one is given
abbrev pub given_id : Option (List ℕ) → Option (List ℕ)
given_id None = None
given_id (Some text) = digest_in text

-- the id whose archive a request asks for: that of a GET behind the front of the route
unfoldable pub id_asked : Request → Option (List ℕ)
id_asked r =
    if bytes_eq r.method (codes "GET") then given_id (stripped (codes "/api/v1/mirror/") (path_of r.target))
    else None
