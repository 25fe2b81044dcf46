-- A token is accepted exactly where it says an object of no expiry and the job, or of the server.
use Rattle.std.proofs.Common.{◌≡◌, ℕ, suc, ◌==◌, ◌&&◌, List, [], ◌∷◌, ◌++◌, true, Option, Some, None, Ok, Err}
use Rattle.std.proofs.Common.{ok_or, refl, ap, ap₂, sym, ◌∙◌, subst, eq-eqb, append_assoc, option_map}
use Rattle.std.specs.Prelude.{⊤, Result}
use Rattle.std.specs.List.{join_with_byte}
use Rattle.std.specs.Result.{result_ok}
use Rattle.std.specs.Str.{bytes_eq}
use Rattle.std.proofs.lemmas.Bool.{and_parts, eqb-true}
use Rattle.std.proofs.lemmas.List.Splits.{join_with_byte-slice_split}
use Rattle.std.proofs.lemmas.Slice.Eq.{bytes_eq-Decides}
use Rattle.base64.specs.Engines.{url_safe_no_pad}
use Rattle.base64.specs.GeneralPurpose.{IsBytes, IsStrict, decode_of, decoded_of}
use Rattle.base64.proofs.EngineFacts.{decode_of_strict, front_bytes}
use Rattle.serde_json.specs.Data.{Data}
use Rattle.dist_types.specs.declared.token_error.TokenError.{TokenError}
use Rattle.dist_types.specs.declared.token_error.TokenError.TheVariants.{BadToken, BadMac, MismatchedClaims}
use Rattle.dist_types.specs.declared.token_error.Part.TheVariants.{Shape, Mac, Header, Claims}
use Rattle.dist_token.specs.Mac.{hmac_of}
use Rattle.dist_token.specs.Dots.{dot_parts}
use Rattle.dist_token.specs.Token.{encoded, signed_text}
use Rattle.dist_token.specs.Verdict.{Parts, three, parts_of, bytes_of, value_of, json_of, is_header, is_hs256}
use Rattle.dist_token.specs.Verdict.{and_then, mac_test, header_test, said, shape_test, tested, job_claims}
use Rattle.dist_token.specs.Verdict.{match_test, job_verdict, server_claims, server_test, server_verdict}
use Rattle.dist_types.specs.declared.addr.Addr.{Addr}
use Rattle.dist_token.specs.Accepted.{IsSignedClaims, IsTokenFor, IsServerTokenFor}
use Rattle.dist_token.proofs.Inversions.{and_then-ok, ok_or-ok, option_and_then-some, passes_if, tested-ok}
use Rattle.dist_token.proofs.Inversions.{three-some}
use Rattle.dist_token.proofs.Dotless.{parts_of_last, parts_of_more}
use Rattle.dist_token.proofs.Bytes.{bytes_of-encoded, hmac_bytes}

-- ---- parts that stand for bytes

strict : IsStrict url_safe_no_pad
strict = (refl, refl)

from_some : {T E : Type 0} (r : Result T E) (x : T) → result_ok r ≡ Some x → r ≡ Ok x
from_some (Ok y) x h = let same : y ≡ x = cc in ap Ok same
from_some (Err e) x h = absurd (cc)

-- such a part is the encoding of its bytes
part_is : (part bytes : List ℕ) → IsBytes part → bytes_of part ≡ Some bytes → part ≡ encoded bytes
unfolding bytes_of decoded_of encoded
part_is part bytes h e = decode_of_strict url_safe_no_pad part bytes strict h
    (from_some (decode_of url_safe_no_pad part) bytes e)

back_bytes : (xs ys : List ℕ) → IsBytes (xs ++ ys) → IsBytes ys
back_bytes [] ys h = h
back_bytes (x ∷ xs) ys h = back_bytes xs ys (λ i. h (suc i))

-- ---- from the tests to what the token says

is_header-some : (o : Option Data) → is_header o ≡ true → (d : Data) × (o ≡ Some d) × (is_hs256 d ≡ true)
is_header-some None h = absurd (cc)
is_header-some (Some d) h = (d, refl, h)

whole : (token : List ℕ) (p : Parts) → parts_of token ≡ Some p
    → token ≡ signed_text p.header p.claims ++ 46 ∷ p.mac
unfolding dot_parts
whole token p h =
    sym (join_with_byte-slice_split 46 token) ∙ ap (join_with_byte 46) (three-some (dot_parts token) p h)
    ∙ sym (append_assoc p.header (46 ∷ p.claims) (46 ∷ p.mac))

mac_is : (key : List ℕ) (p : Parts) (x : ⊤) → IsBytes p.mac → mac_test key p ≡ Ok x
    → p.mac ≡ encoded (hmac_of key (signed_text p.header p.claims))
mac_is key p x bytes h =
    let wanted = hmac_of key (signed_text p.header p.claims) in
    let m = and_then-ok (ok_or (bytes_of p.mac) (BadToken Mac))
    (λ mac. passes_if (bytes_eq mac wanted) BadMac) x h in
    let equal : m.0 ≡ wanted = (bytes_eq-Decides m.0 wanted).0 (tested-ok (bytes_eq m.0 wanted) BadMac x m.2)
    in
    part_is p.mac m.0 bytes (ok_or-ok (bytes_of p.mac) (BadToken Mac) m.0 m.1) ∙ ap encoded equal

pub tested-to_says : (key token : List ℕ) (value : Data) → IsBytes token → tested key token ≡ Ok value
    → IsSignedClaims key token value
tested-to_says key token value bytes h =
    let a = and_then-ok (shape_test token) (λ p. and_then (mac_test key p) (λ _. said p)) value h in
    let p = a.0 in
    let b = and_then-ok (mac_test key p) (λ _. said p) value a.2 in
    let c = and_then-ok (header_test p) (λ _. ok_or (value_of p.claims) (BadToken Claims)) value b.2 in
    let head = is_header-some (value_of p.header)
    (tested-ok (is_header (value_of p.header)) (BadToken Header) c.0 c.1) in
    let split = whole token p (ok_or-ok (parts_of token) (BadToken Shape) p a.1) in
    let mac_bytes : IsBytes p.mac = back_bytes (46 ∷ []) p.mac
    (back_bytes (signed_text p.header p.claims) (46 ∷ p.mac) (subst IsBytes split bytes)) in
    record {
      header = p.header;
      claims = p.claims;
      says = head.0;
      text = split ∙ ap (λ m. signed_text p.header p.claims ++ 46 ∷ m) (mac_is key p b.0 mac_bytes b.1);
      header_reads = head.1;
      algorithm = head.2;
      claims_read = ok_or-ok (value_of p.claims) (BadToken Claims) value c.2;
    }

-- ---- and back

-- a text that stands for a value is the encoding of bytes
encoding : (part : List ℕ) (value : Data) → IsBytes part → value_of part ≡ Some value → (bytes : List ℕ)
    × (part ≡ encoded bytes)
encoding part value h e = let b = option_and_then-some (bytes_of part) json_of value e
    in (b.0, part_is part b.0 h b.1)

dotless : (part rest : List ℕ) (value : Data) → IsBytes part → value_of part ≡ Some value
    → dot_parts (part ++ 46 ∷ rest) ≡ part ∷ dot_parts rest
dotless part rest value h e =
    let b = encoding part value h e in
    ap (λ s. dot_parts (s ++ 46 ∷ rest)) b.1 ∙ parts_of_more b.0 rest ∙ ap (λ s. s ∷ dot_parts rest) (sym b.1)

equal_bytes : (xs : List ℕ) → bytes_eq xs xs ≡ true
equal_bytes xs = (bytes_eq-Decides xs xs).1 refl

pub says-to_tested : (key token : List ℕ) (value : Data) → IsBytes token → IsSignedClaims key token value
    → tested key token ≡ Ok value
says-to_tested key token value bytes s =
    let signed = signed_text s.header s.claims in
    let wanted = hmac_of key signed in
    let rest = s.claims ++ 46 ∷ encoded wanted in
    let joined : token ≡ s.header ++ 46 ∷ rest = s.text ∙ append_assoc s.header (46 ∷ s.claims)
    (46 ∷ encoded wanted) in
    let all : IsBytes (s.header ++ 46 ∷ rest) = subst IsBytes joined bytes in
    let rest_bytes : IsBytes rest = back_bytes (46 ∷ []) rest (back_bytes s.header (46 ∷ rest) all) in
    let made : Parts = record { header = s.header; claims = s.claims; mac = encoded wanted } in
    let parts : parts_of token ≡ Some made =
    ap parts_of joined ∙ ap three
    (dotless s.header rest s.says (front_bytes s.header (46 ∷ rest) all) s.header_reads
    ∙ ap (λ l. s.header ∷ l)
    (dotless s.claims (encoded wanted) value (front_bytes s.claims (46 ∷ encoded wanted) rest_bytes)
    s.claims_read ∙ ap (λ l. s.claims ∷ l) (parts_of_last wanted))) in
    let mac : mac_test key made ≡ Ok tt = rw (bytes_of-encoded wanted (hmac_bytes key signed))
    (rw (equal_bytes wanted)) in
    let head : header_test made ≡ Ok tt = rw s.header_reads (rw s.algorithm) in
    rw parts (rw mac (rw head (rw s.claims_read)))

-- ---- the token for a job

pair : (c : ℕ × ℕ) (n : ℕ) → c.0 ≡ 0 → c.1 ≡ n → c ≡ (0, n)
pair (a, b) n e f = ap₂ (λ x y. (x, y)) e f

-- the job that an accepted token names
job_of : (key : List ℕ) (id : ℕ) (token : List ℕ) → job_verdict key id token ≡ Ok tt → (value : Data)
    × (tested key token ≡ Ok value) × (job_claims value ≡ Some (0, id))
job_of key id token h =
    let a = and_then-ok (tested key token) (λ value. and_then (ok_or (job_claims value) (BadToken Claims))
    (match_test id)) tt h in
    let b = and_then-ok (ok_or (job_claims a.0) (BadToken Claims)) (match_test id) tt a.2 in
    let both = and_parts (b.0.0 == 0) (b.0.1 == id)
    (tested-ok ((b.0.0 == 0) && (b.0.1 == id)) MismatchedClaims tt b.2) in (
      a.0,
      a.1,
      ok_or-ok (job_claims a.0) (BadToken Claims) b.0 b.1
          ∙ ap Some (pair b.0 id (eqb-true b.0.0 0 both.0) (eqb-true b.0.1 id both.1)),
    )

pub verdict-to_token : (key : List ℕ) (id : ℕ) (token : List ℕ) → IsBytes token
    → job_verdict key id token ≡ Ok tt → IsTokenFor key id token
verdict-to_token key id token bytes h =
    let j = job_of key id token h in
    record { value = j.0; is_signed = tested-to_says key token j.0 bytes j.1; claims = j.2 }

pub token-to_verdict : (key : List ℕ) (id : ℕ) (token : List ℕ) → IsBytes token → IsTokenFor key id token
    → job_verdict key id token ≡ Ok tt
token-to_verdict key id token bytes t = rw (says-to_tested key token t.value bytes t.is_signed)
    (rw t.claims (rw (eq-eqb id id refl)))

abbrev second : Option (ℕ × ℕ) → ℕ
second None = 0
second (Some c) = c.1

second_of : {A : Type 0} (a b : A) (m n : ℕ) (f : A → Option (ℕ × ℕ)) → a ≡ b → f a ≡ Some (0, m)
    → f b ≡ Some (0, n) → m ≡ n
second_of a b m n f e h k = sym (ap second h) ∙ ap second (ap f e ∙ k)

ok_same : {T : Type 0} (r : Result T TokenError) (a b : T) → r ≡ Ok a → r ≡ Ok b → a ≡ b
ok_same (Ok x) a b h k = let p : x ≡ a = cc in let q : x ≡ b = cc in sym p ∙ q
ok_same (Err e) a b h k = absurd (cc)

pub one_job : (key : List ℕ) (first second : ℕ) (token : List ℕ) → job_verdict key first token ≡ Ok tt
    → job_verdict key second token ≡ Ok tt → first ≡ second
one_job key first second token h k =
    let a = job_of key first token h in
    let b = job_of key second token k in
    second_of a.0 b.0 first second job_claims (ok_same (tested key token) a.0 b.0 a.1 b.1) a.2 b.2

-- ---- the token for a server

expiry_of : (o : Option (ℕ × Addr)) (server : Addr) → option_map (λ claims. claims.1) o ≡ Some server
    → (expiry : ℕ) × (o ≡ Some (expiry, server))
expiry_of None server h = absurd (cc)
expiry_of (Some c) server h = let same : c.1 ≡ server = cc in (c.0, ap (λ s. Some (c.0, s)) same)

pub verdict-to_server : (key : List ℕ) (server : Addr) (token : List ℕ) → IsBytes token
    → server_verdict key token ≡ Ok server → IsServerTokenFor key server token
verdict-to_server key server token bytes h =
    let a = and_then-ok (tested key token) server_test server h in
    let c = expiry_of (server_claims a.0) server
    (ok_or-ok (option_map (λ claims. claims.1) (server_claims a.0)) (BadToken Claims) server a.2) in
    record { value = a.0; is_signed = tested-to_says key token a.0 bytes a.1; expiry = c.0; claims = c.1 }

pub server-to_verdict : (key : List ℕ) (server : Addr) (token : List ℕ) → IsBytes token
    → IsServerTokenFor key server token → server_verdict key token ≡ Ok server
server-to_verdict key server token bytes t = rw (says-to_tested key token t.value bytes t.is_signed)
    (rw t.claims refl)
