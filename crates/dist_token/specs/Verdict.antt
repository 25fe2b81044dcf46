-- The tests that a token passes, in order.
use Rattle.std.specs.Prelude.{◌≡◌, ℕ, suc, ◌==◌, ◌&&◌, List, [], ◌∷◌, length, nat_lt, codes, Bool, false}
use Rattle.std.specs.Prelude.{if◌then◌else◌, Option, Some, None, ok_or, option_and_then, option_map, Result}
use Rattle.std.specs.Prelude.{Ok, Err, ⊤}
use Rattle.std.specs.List.{position_or_len, before_first, after_first}
use Rattle.std.specs.Str.{is_utf8, bytes_eq}
use Rattle.base64.specs.Engines.{url_safe_no_pad}
use Rattle.base64.specs.GeneralPurpose.{decoded_of}
use Rattle.serde_json.specs.Data.{Data, Members, no_members, member}
use Rattle.serde_json.specs.Read.{read}
use Rattle.serde_json.specs.Find.{get, as_number, as_object, as_str, as_u64}
use Rattle.dist_types.specs.Addr.{addr_in}
use Rattle.dist_types.specs.declared.addr.Addr.{Addr}
use Rattle.dist_types.specs.declared.token_error.Part.TheVariants.{Shape, Mac, Header, Claims}
use Rattle.dist_types.specs.declared.token_error.TokenError.{TokenError}
use Rattle.dist_types.specs.declared.token_error.TokenError.TheVariants.{BadToken, BadMac, MismatchedClaims}
use Rattle.dist_token.specs.Mac.{hmac_of}
use Rattle.dist_token.specs.Dots.{dot_parts}
use Rattle.dist_token.specs.Token.{encoded, header_text, signed_text}

-- the second test is made where the first passes
abbrev pub and_then : {T U : Type 0} → Result T TokenError → (T → Result U TokenError) → Result U TokenError
and_then (Ok x) next = next x
and_then (Err e) next = Err e

-- ---- the parts

-- the three parts of a token
pub record Parts : Type 0 where
  pub header : List ℕ
  pub claims : List ℕ
  pub mac : List ℕ

-- three parts, and no more and no fewer
abbrev pub three : List (List ℕ) → Option Parts
three [] = None
three (header ∷ []) = None
three (header ∷ claims ∷ []) = None
three (header ∷ claims ∷ mac ∷ []) = Some (record { header = header; claims = claims; mac = mac })
three (header ∷ claims ∷ mac ∷ more ∷ rest) = None

-- the parts between dots, where there are three
abbrev pub parts_of : List ℕ → Option Parts
parts_of token = three (dot_parts token)

-- the bytes that a part stands for, in base64url with zero spare bits and no padding
unfoldable pub bytes_of : List ℕ → Option (List ℕ)
bytes_of part = decoded_of url_safe_no_pad part

-- the value that bytes are as JSON
abbrev pub json_of : List ℕ → Option Data
json_of bytes = if is_utf8 bytes then read bytes else None

-- the value that a part says
abbrev pub value_of : List ℕ → Option Data
value_of part = option_and_then json_of (bytes_of part)

-- the header and the claims are written as in a token that is made for these claims
abbrev pub IsWritten : List ℕ → Parts → Type 0
IsWritten claims p = (p.header ≡ encoded header_text) × (p.claims ≡ encoded claims)

-- ---- what the values say

-- whether there is a text, and it is this one
abbrev pub is_text : List ℕ → Option (List ℕ) → Bool
is_text text None = false
is_text text (Some other) = bytes_eq other text

-- an object whose algorithm is HS256
abbrev pub is_hs256 : Data → Bool
is_hs256 header = is_text (codes "HS256") (option_and_then as_str (get (codes "alg") header))

-- the whole number that a value is, if it is one
abbrev pub u64_of : Data → Option ℕ
u64_of value = option_and_then as_u64 (as_number value)

-- how many members an object has
abbrev pub count_of : Members → ℕ
count_of no_members = 0
count_of (member key value rest) = suc (count_of rest)

-- whether there is an object, of exactly two members
abbrev pub are_two : Option Members → Bool
are_two None = false
are_two (Some members) = count_of members == 2

-- the expiry and the subject in an object of exactly these two members
abbrev pub claims_of : {S : Type 0} → List ℕ → (Data → Option S) → Data → Option (ℕ × S)
claims_of name subject value =
    if are_two (as_object value) then
    option_and_then (λ exp. option_map (λ who. (exp, who)) (option_and_then subject (get name value)))
    (option_and_then u64_of (get (codes "exp") value))
    else None

-- ---- the tests

-- the third part is the MAC of the first two
abbrev pub mac_test : List ℕ → Parts → Result ⊤ TokenError
mac_test key p =
    and_then (ok_or (bytes_of p.mac) (BadToken Mac))
    (λ mac. if bytes_eq mac (hmac_of key (signed_text p.header p.claims)) then Ok tt else Err BadMac)

-- whether there is a value, whose alg is HS256
abbrev pub is_header : Option Data → Bool
is_header None = false
is_header (Some header) = is_hs256 header

-- the first part reads as a header
abbrev pub header_test : Parts → Result ⊤ TokenError
header_test p = if is_header (value_of p.header) then Ok tt else Err (BadToken Header)

-- the value that the claims are, where the header passes
abbrev pub said : Parts → Result Data TokenError
said p = and_then (header_test p) (λ _. ok_or (value_of p.claims) (BadToken Claims))

-- the token has three parts
abbrev pub shape_test : List ℕ → Result Parts TokenError
shape_test token = ok_or (parts_of token) (BadToken Shape)

-- the value that the claims are, where the parts, the MAC and the header pass
abbrev pub tested : List ℕ → List ℕ → Result Data TokenError
tested key token = and_then (shape_test token) (λ p. and_then (mac_test key p) (λ _. said p))

-- the same without the tests of the MAC
abbrev pub untested : List ℕ → Result Data TokenError
untested token = and_then (shape_test token) said

-- the expiry and the number of the job that the claims say
abbrev pub job_claims : Data → Option (ℕ × ℕ)
job_claims = claims_of (codes "job_id") u64_of

-- no expiry, and the job's number
abbrev pub match_test : ℕ → ℕ × ℕ → Result ⊤ TokenError
match_test id claims = if (claims.0 == 0) && (claims.1 == id) then Ok tt else Err MismatchedClaims

-- whether the header and the claims say this job, and if not by which test
abbrev pub job_said : ℕ → Parts → Result ⊤ TokenError
job_said id p =
    and_then (said p) (λ value. and_then (ok_or (job_claims value) (BadToken Claims)) (match_test id))

-- whether a token is accepted for a job under a key, and if not by which test
abbrev pub job_verdict : List ℕ → ℕ → List ℕ → Result ⊤ TokenError
job_verdict key id token =
    and_then (tested key token) (λ value.
    and_then (ok_or (job_claims value) (BadToken Claims)) (match_test id))

-- ---- servers

-- the address that a value says
abbrev pub address_in : Data → Option Addr
address_in value = option_and_then addr_in (as_str value)

-- the expiry and the address of the server that the claims say
abbrev pub server_claims : Data → Option (ℕ × Addr)
server_claims = claims_of (codes "server_id") address_in

-- the server that the claims name, whatever their expiry
abbrev pub server_test : Data → Result Addr TokenError
server_test value = ok_or (option_map (λ claims. claims.1) (server_claims value)) (BadToken Claims)

-- the server that a token is accepted for under a key, or by which test it is refused
abbrev pub server_verdict : List ℕ → List ℕ → Result Addr TokenError
server_verdict key token = and_then (tested key token) server_test

-- the same without the tests of the MAC
abbrev pub extracted : List ℕ → Result Addr TokenError
extracted token = and_then (untested token) server_test

-- a space
abbrev pub is_space : ℕ → Bool
is_space byte = byte == 32

-- the server that a plain token names before its first space, where what follows is the shared token
abbrev pub plain_server : List ℕ → List ℕ → Option Addr
plain_server shared token =
    if nat_lt (position_or_len is_space token) (length token) && bytes_eq (after_first is_space token) shared
    then addr_in (before_first is_space token) else None
