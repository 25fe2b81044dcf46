-- What is encoded is read again.
use Rattle.std.proofs.Common.{◌≡◌, ℕ, zero, suc, ◌<◌, List, [], ◌∷◌, ◌++◌, Some, refl, ap, arith, lit<, codes}
use Rattle.std.specs.Prelude.{slice_index}
use Rattle.std.specs.Int.{w32, to_be_bytes, byte_at}
use Rattle.std.specs.Result.{result_ok}
use Rattle.std.specs.Str.{IsAscii}
use Rattle.std.proofs.lemmas.Str.{IsUtf8-from_ascii}
use Rattle.base64.specs.Engines.{url_safe_no_pad}
use Rattle.base64.specs.GeneralPurpose.{IsBytes, decoded_of}
use Rattle.base64.proofs.EngineFacts.{decode_of-encode_of}
use Rattle.base64.proofs.OnLiterals.{base64_on_literals}
use Rattle.sha2.specs.Sha256.{sha256, digest_bytes}
use Rattle.serde_json.specs.Read.{read}
use Rattle.dist_token.specs.Mac.{hmac_of}
use Rattle.dist_token.specs.Token.{encoded, header_text}
use Rattle.dist_token.specs.Verdict.{bytes_of, value_of}
use Rattle.dist_token.proofs.Json.{json_of-utf8}

pub bytes_of-encoded : (bytes : List ℕ) → IsBytes bytes → bytes_of (encoded bytes) ≡ Some bytes
unfolding encoded bytes_of decoded_of
bytes_of-encoded bytes h = ap result_ok (decode_of-encode_of url_safe_no_pad bytes refl h)

pub bytes_from_ascii : (bytes : List ℕ) → IsAscii bytes → IsBytes bytes
bytes_from_ascii bytes h i = let low = h i in omega arith

pub value_of-encoded : (text : List ℕ) → IsAscii text → value_of (encoded text) ≡ read text
value_of-encoded text h = rw (bytes_of-encoded text (bytes_from_ascii text h))
    (json_of-utf8 text (IsUtf8-from_ascii text h))

-- the header of every token that is made, in base64url
pub encoded_header : encoded header_text ≡ codes "eyJ0eXAiOiJKV1QiLCJhbGciOiJIUzI1NiJ9"
unfolding encoded base64_on_literals
encoded_header = refl

-- ---- a digest is bytes

cons : (b : ℕ) (bs : List ℕ) → b < 256 → IsBytes bs → IsBytes (b ∷ bs)
cons b bs h k zero = h
cons b bs h k (suc i) = k i

append : (xs ys : List ℕ) → IsBytes xs → IsBytes ys → IsBytes (xs ++ ys)
append [] ys h k = k
append (x ∷ xs) ys h k = cons x (xs ++ ys) (h 0) (append xs ys (λ i. h (suc i)) k)

byte : (i n : ℕ) → byte_at i n < 256
byte zero n = omega arith
byte (suc i) n = omega arith

word : (n : ℕ) → IsBytes (to_be_bytes w32 n)
word n zero = byte 3 n
word n (suc zero) = byte 2 n
word n (suc (suc zero)) = byte 1 n
word n (suc (suc (suc zero))) = byte 0 n
word n (suc (suc (suc (suc i)))) = lit< tt

digest : (h : List ℕ) (n : ℕ) → IsBytes (digest_bytes h n)
unfolding digest_bytes
digest h zero = λ i. lit< tt
digest h (suc n) = append (digest_bytes h n) (to_be_bytes w32 (slice_index h n)) (digest h n)
    (word (slice_index h n))

pub hmac_bytes : (key text : List ℕ) → IsBytes (hmac_of key text)
unfolding hmac_of sha256
hmac_bytes key text = digest _ 8
