-- The token that is made is accepted.
use Rattle.std.proofs.Common.{◌≡◌, ℕ, ◌^◌, ◌<◌, List, [], ◌∷◌, ◌++◌, Some, Ok, Err, IsOkUnless, codes}
use Rattle.std.proofs.Common.{decimal, Bool, true, nat_lt, ◌&&◌, refl, ap, sym, ◌∙◌, append_assoc, eqb}
use Rattle.std.proofs.Common.{eq-eqb}
use Rattle.std.specs.Prelude.{⊤, Result}
use Rattle.std.specs.Str.{IsAscii, bytes_eq}
use Rattle.std.proofs.lemmas.Bool.{and_parts, ltb-true}
use Rattle.std.proofs.lemmas.Str.{IsAscii-append}
use Rattle.std.proofs.lemmas.Str.Ascii.{IsAscii-nil, IsAscii-cons}
use Rattle.std.proofs.lemmas.Fmt.{IsAscii-decimal}
use Rattle.std.proofs.lemmas.Slice.Eq.{bytes_eq-Decides}
use Rattle.serde_json.specs.Data.{Data}
use Rattle.serde_json.specs.Read.{read}
use Rattle.dist_types.specs.Answers.{IsTokenAnswer}
use Rattle.dist_types.specs.declared.token_error.TokenError.{TokenError}
use Rattle.dist_types.specs.declared.token_error.TokenError.TheVariants.{BadToken, BadMac, MismatchedClaims}
use Rattle.dist_types.specs.declared.token_error.TokenError.TheVariants.{FixedMismatch, ForwardRefused}
use Rattle.dist_types.specs.declared.token_error.TokenError.TheVariants.{LinkFault, Memory}
use Rattle.dist_token.specs.Mac.{hmac_of}
use Rattle.dist_token.specs.Token.{encoded, header_text, signed_text, token_text, job_claims_text}
use Rattle.dist_token.specs.Verdict.{Parts, three, parts_of, mac_test, header_test, tested, job_verdict}
use Rattle.dist_token.specs.Verdict.{value_of, IsWritten, job_said}
use Rattle.dist_token.proofs.Dotless.{parts_of_last, parts_of_more}
use Rattle.dist_token.proofs.Bytes.{bytes_of-encoded, encoded_header, value_of-encoded, hmac_bytes}
use Rattle.dist_token.proofs.Claims.{read-header_text, job_value, read-job_claims_text}

same : (xs : List ℕ) → bytes_eq xs xs ≡ true
same xs = (bytes_eq-Decides xs xs).1 refl

-- the parts of a token that was made
abbrev made : List ℕ → List ℕ → Parts
made key claims = record {
  header = encoded header_text;
  claims = encoded claims;
  mac = encoded (hmac_of key (signed_text (encoded header_text) (encoded claims)));
}

parts_of-token_text : (key claims : List ℕ) → parts_of (token_text key claims) ≡ Some (made key claims)
parts_of-token_text key claims =
    let h = encoded header_text in
    let c = encoded claims in
    let m = encoded (hmac_of key (signed_text h c)) in
    ap parts_of (append_assoc h (46 ∷ c) (46 ∷ m))
    ∙ ap three (parts_of_more header_text (c ++ 46 ∷ m)
    ∙ ap (λ l. h ∷ l) (parts_of_more claims m
    ∙ ap (λ l. c ∷ l) (parts_of_last (hmac_of key (signed_text h c)))))

mac_test-made : (key claims : List ℕ) → mac_test key (made key claims) ≡ Ok tt
mac_test-made key claims =
    let mac = hmac_of key (signed_text (encoded header_text) (encoded claims)) in
    rw (bytes_of-encoded mac (hmac_bytes key _)) (rw (same mac))

abbrev pub are_low : List ℕ → Bool
are_low [] = true
are_low (b ∷ bs) = nat_lt b 128 && are_low bs

-- a literal is ASCII where this computes
pub ascii : (bs : List ℕ) → are_low bs ≡ true → IsAscii bs
ascii [] h = IsAscii-nil
ascii (b ∷ bs) h = let both = and_parts (nat_lt b 128) (are_low bs) h in IsAscii-cons b bs
    (ltb-true b 128 both.0) (ascii bs both.1)

-- a part that is written so is the header of every token that is made
pub made_header : (part : List ℕ) → bytes_eq part (codes "eyJ0eXAiOiJKV1QiLCJhbGciOiJIUzI1NiJ9") ≡ true
    → part ≡ encoded header_text
made_header part same = (bytes_eq-Decides part (codes "eyJ0eXAiOiJKV1QiLCJhbGciOiJIUzI1NiJ9")).0 same
    ∙ sym encoded_header

header_ascii : IsAscii header_text
header_ascii = ascii header_text refl

-- the header of every token that is made passes
pub header_test-written : (p : Parts) → p.header ≡ encoded header_text → header_test p ≡ Ok tt
header_test-written p is = rw is (rw (value_of-encoded header_text header_ascii ∙ read-header_text) refl)

header_test-made : (key claims : List ℕ) → header_test (made key claims) ≡ Ok tt
header_test-made key claims = header_test-written (made key claims) refl

-- what the claims of a token that was made say
pub tested-token_text : (key claims : List ℕ) (d : Data) → IsAscii claims → read claims ≡ Some d
    → tested key (token_text key claims) ≡ Ok d
tested-token_text key claims d ascii means =
    rw (parts_of-token_text key claims)
    (rw (mac_test-made key claims)
    (rw (header_test-made key claims) (rw (value_of-encoded claims ascii ∙ means))))

job_claims_ascii : (id : ℕ) → id < 2 ^ 64 → IsAscii (job_claims_text id)
job_claims_ascii id h =
    let start = codes "{\"exp\":0,\"job_id\":" in
    IsAscii-append (start ++ decimal id) (codes "}")
    (IsAscii-append start (decimal id) (ascii start refl) (IsAscii-decimal id h)) (ascii (codes "}") refl)

equal : (n : ℕ) → eqb n n ≡ true
equal n = eq-eqb n n refl

-- parts that are written as in the token that is made for a job say that job
pub job_said-written : (id : ℕ) (p : Parts) → id < 2 ^ 64 → IsWritten (job_claims_text id) p
    → job_said id p ≡ Ok tt
job_said-written id p h is =
    let says : value_of p.claims ≡ Some (job_value id) =
    ap value_of is.1 ∙ value_of-encoded (job_claims_text id) (job_claims_ascii id h)
    ∙ read-job_claims_text id h in
    rw (header_test-written p is.0) (rw says (rw (equal id)))

pub accepted : (key : List ℕ) (id : ℕ) → id < 2 ^ 64
    → job_verdict key id (token_text key (job_claims_text id)) ≡ Ok tt
accepted key id h = rw (tested-token_text key (job_claims_text id) (job_value id) (job_claims_ascii id h)
    (read-job_claims_text id h)) (rw (equal id))

only_memory : (e : TokenError) → ¬ ¬ (e ≡ Memory) → e ≡ Memory
only_memory (BadToken part) h = absurd (h (λ e. cc))
only_memory BadMac h = absurd (h (λ e. cc))
only_memory MismatchedClaims h = absurd (h (λ e. cc))
only_memory FixedMismatch h = absurd (h (λ e. cc))
only_memory (ForwardRefused code) h = absurd (h (λ e. cc))
only_memory LinkFault h = absurd (h (λ e. cc))
only_memory Memory h = refl

-- an answer that its definition accepts is no refusal
pub accepts : (verdict answer : Result ⊤ TokenError) → IsTokenAnswer (λ x. x) verdict answer → verdict ≡ Ok tt
    → IsOkUnless answer Memory
accepts verdict (Ok x) h ok = tt
accepts verdict (Err e) h ok = only_memory e (λ other. let no = sym ok ∙ h other in cc)
