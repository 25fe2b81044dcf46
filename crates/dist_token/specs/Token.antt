-- The text of a token.
use Rattle.std.specs.Prelude.{ℕ, List, ◌∷◌, ◌++◌, codes, decimal}
use Rattle.base64.specs.Engines.{url_safe_no_pad}
use Rattle.base64.specs.GeneralPurpose.{encode_of}
use Rattle.dist_token.specs.Mac.{hmac_of}

-- base64url without padding
unfoldable pub encoded : List ℕ → List ℕ
encoded bytes = encode_of url_safe_no_pad bytes

-- the header that is written
abbrev pub header_text : List ℕ
header_text = codes "{\"typ\":\"JWT\",\"alg\":\"HS256\"}"

-- the claims of the token for a job
abbrev pub job_claims_text : ℕ → List ℕ
job_claims_text id = codes "{\"exp\":0,\"job_id\":" ++ decimal id ++ codes "}"

-- two parts and the dot between them, which the MAC is over
abbrev pub signed_text : List ℕ → List ℕ → List ℕ
signed_text header claims = header ++ 46 ∷ claims

-- the token that says these claims, under a key
abbrev pub token_text : List ℕ → List ℕ → List ℕ
token_text key claims =
    let signed = signed_text (encoded header_text) (encoded claims) in
    signed ++ 46 ∷ encoded (hmac_of key signed)

-- the claims of the token for a server
abbrev pub server_claims_text : List ℕ → List ℕ
server_claims_text address = codes "{\"exp\":0,\"server_id\":\"" ++ address ++ codes "\"}"

-- the plain token for a server
abbrev pub plain_text : List ℕ → List ℕ → List ℕ
plain_text address shared = address ++ 32 ∷ shared
