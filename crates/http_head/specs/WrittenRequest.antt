-- A request that is written, its text, and which ones can be sent.
use Rattle.std.specs.Prelude.{◌≡◌, ◌≢◌, ℕ, ◌<◌, ◌≤◌, Bool, true, not, ◌&&◌, ◌==◌, nat_lt, nat_le, List, []}
use Rattle.std.specs.Prelude.{◌∷◌, ◌++◌, length, Option, Some, None, unwrap_or, IfSome, IsUtf8, codes}
use Rattle.std.specs.Fmt.{decimal}
use Rattle.std.specs.List.{list_all}
use Rattle.http_head.specs.declared.request.Request.{Request}
use Rattle.http_head.specs.declared.written_request.Method.{Method}
use Rattle.http_head.specs.declared.written_request.Method.TheVariants.{Get, Post}
use Rattle.http_head.specs.declared.written_request.WrittenRequest.{WrittenRequest}
use Rattle.http_head.specs.Bearer.{token_in}
use Rattle.http_head.specs.Fields.{Field, header}
use Rattle.http_head.specs.Text.{◌⧺◌}

-- ---- the text

abbrev pub method_text : Method → List ℕ
method_text Get = codes "GET"
method_text Post = codes "POST"

-- the line of a token, if there is one
abbrev pub token_line : Option (List ℕ) → List ℕ
token_line None = []
token_line (Some token) = codes "Authorization: Bearer " ⧺ token ⧺ codes "\r\n"

-- the lines of a body of so many bytes
abbrev pub content_lines : Method → ℕ → List ℕ
content_lines Get len = []
content_lines Post len = codes "Content-Type: application/octet-stream\r\nContent-Length: " ⧺ decimal len
    ⧺ codes "\r\n"

-- the body, which is empty where none was given
abbrev pub body_of : WrittenRequest → List ℕ
body_of w = unwrap_or w.body []

-- the head, up to the empty line, for a body of so many bytes
abbrev pub head_with : Method → List ℕ → List ℕ → Option (List ℕ) → ℕ → List ℕ
head_with method target host token len =
    method_text method ⧺ codes " " ⧺ target ⧺ codes " HTTP/1.1\r\nHost: " ⧺ host ⧺ codes "\r\n"
    ⧺ token_line token ⧺ content_lines method len ⧺ codes "Connection: close\r\n\r\n"

abbrev pub head_text : WrittenRequest → List ℕ
head_text w = head_with w.method w.target w.host w.token (length (body_of w))

-- the bytes of the request
unfoldable pub request_text : WrittenRequest → List ℕ
request_text w = head_text w ++ body_of w

-- ---- what can be sent

-- no control byte
abbrev pub is_printed : ℕ → Bool
is_printed b = nat_le 32 b && not (b == 127)

-- no control byte and no space
abbrev pub is_visible : ℕ → Bool
is_visible b = nat_lt 32 b && not (b == 127)

-- a token that a field carries as it is: a text that is not empty, with no control byte and no space at its
-- end
pub record IsToken (token : List ℕ) : Type 0 where
  pub some : 0 < length token
  pub text : IsUtf8 token
  pub printed : list_all is_printed token ≡ true
  pub end : (front : List ℕ) → token ≢ front ++ (32 ∷ [])

-- a GET has no body
abbrev pub HasBodyFor : Method → List ℕ → Type 0
HasBodyFor Get body = body ≡ []
HasBodyFor Post body = Unit {0}

-- head and body are within the limits of what is read
pub record IsWithinLimits (w : WrittenRequest) : Type 0 where
  pub head : length (head_text w) ≤ 65536
  pub body : length (body_of w) ≤ 1073741824

-- The request can be sent: its target is a text that is not empty, target and host have no control byte and
-- no space, its token is one that a field carries, and it is within the limits.
pub record IsSendable (w : WrittenRequest) : Type 0 where
  pub some_target : 0 < length w.target
  pub target_text : IsUtf8 w.target
  pub target : list_all is_visible w.target ≡ true
  pub host : list_all is_visible w.host ≡ true
  pub token : IfSome w.token IsToken
  pub plain : HasBodyFor w.method (body_of w)
  pub limits : IsWithinLimits w

-- ---- what a reader sees

-- the field of a token, if there is one
abbrev pub token_fields : Option (List ℕ) → List Field
token_fields None = []
token_fields (Some token) = (codes "Authorization", codes "Bearer " ++ token) ∷ []

-- the fields of a body of so many bytes
abbrev pub content_fields : Method → ℕ → List Field
content_fields Get len = []
content_fields Post len = (codes "Content-Type", codes "application/octet-stream") ∷
    (codes "Content-Length", decimal len) ∷ []

-- all fields
abbrev pub fields_of : WrittenRequest → List Field
fields_of w =
    (codes "Host", w.host)
    ∷ (token_fields w.token ++
    (content_fields w.method (length (body_of w)) ++ ((codes "Connection", codes "close") ∷ [])))

-- what a reader sees
abbrev pub read_back : WrittenRequest → Request
read_back w = record {
  method = method_text w.method;
  target = w.target;
  headers = fields_of w;
  body = body_of w;
}

-- the content type that a method has
abbrev pub content_of : Method → Option (List ℕ)
content_of Get = None
content_of Post = Some (codes "application/octet-stream")

-- the request that was read has the parts that were written, and no field beside them that a route looks for
pub record Carries (w : WrittenRequest) (r : Request) : Type 0 where
  pub method : r.method ≡ method_text w.method
  pub target : r.target ≡ w.target
  pub token : token_in (header (codes "authorization") r.headers) ≡ w.token
  pub content : header (codes "content-type") r.headers ≡ content_of w.method
  pub no_real_ip : header (codes "x-real-ip") r.headers ≡ None
  pub no_accept : header (codes "accept") r.headers ≡ None
  pub body : r.body ≡ body_of w
