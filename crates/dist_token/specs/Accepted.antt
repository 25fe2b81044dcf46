-- What an accepted token is, in one piece.
use Rattle.std.specs.Prelude.{◌≡◌, ℕ, List, ◌∷◌, ◌++◌, true, Some}
use Rattle.serde_json.specs.Data.{Data}
use Rattle.dist_token.specs.Mac.{hmac_of}
use Rattle.dist_token.specs.Token.{encoded, signed_text}
use Rattle.dist_types.specs.declared.addr.Addr.{Addr}
use Rattle.dist_token.specs.Verdict.{value_of, is_hs256, job_claims, server_claims}

-- the token is a header that says HS256, claims that say the value, and the MAC of the two under
-- the key, joined by dots
pub record IsSignedClaims (key token : List ℕ) (value : Data) : Type 0 where
  pub header : List ℕ
  pub claims : List ℕ
  pub says : Data
  pub text : token ≡ signed_text header claims ++ 46 ∷ encoded (hmac_of key (signed_text header claims))
  pub header_reads : value_of header ≡ Some says
  pub algorithm : is_hs256 says ≡ true
  pub claims_read : value_of claims ≡ Some value

-- and the value is an object of no expiry and this job alone
pub record IsTokenFor (key : List ℕ) (id : ℕ) (token : List ℕ) : Type 0 where
  pub value : Data
  pub is_signed : IsSignedClaims key token value
  pub claims : job_claims value ≡ Some (0, id)

-- and the value is an object of any expiry and this server alone
pub record IsServerTokenFor (key : List ℕ) (server : Addr) (token : List ℕ) : Type 0 where
  pub value : Data
  pub is_signed : IsSignedClaims key token value
  pub expiry : ℕ
  pub claims : server_claims value ≡ Some (expiry, server)
