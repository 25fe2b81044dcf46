-- A reply that was printed is read as it was meant.
use Rattle.std.proofs.Common.{◌≡◌, ℕ, ◌<◌, ◌≤◌, ◌^◌, ◌&&◌, ◌==◌, nat_le, true, List, [], ◌∷◌, ◌++◌, length}
use Rattle.std.proofs.Common.{map, codes, decimal, Some, refl, ap, sym, ◌∙◌, arith, append_assoc}
use Rattle.std.proofs.Common.{length-append, lit<}
use Rattle.std.specs.List.{list_all, AllByRecursion}
use Rattle.std.specs.Char.{is_ascii_digit}
use Rattle.std.specs.Str.Parse.{digits_value}
use Rattle.std.proofs.lemmas.Bool.Decides.{nat_tests}
use Rattle.std.proofs.lemmas.Fmt.{digits_decimal, digits_value-decimal, decimal_nonempty, length-decimal-le}
use Rattle.httparse.specs.Grammar.{crlf, ResponseHead, print_response, is_token_byte, is_value_byte, trim_ows}
use Rattle.httparse.proofs.GrammarLemmas.{print_response-append}
use Rattle.http_head.specs.declared.word.Word.{Word}
use Rattle.http_head.specs.declared.word.Word.TheVariants.{NoBearerAuth, BearerAuthFailed, InvalidBearerToken}
use Rattle.http_head.specs.declared.word.Word.TheVariants.{MismatchedAddress, InvalidJwt, LinkFailed}
use Rattle.http_routes.specs.declared.reply.Response.{Response}
use Rattle.http_routes.specs.declared.reply.Response.TheVariants.{Binary, Json, BadRequest, ServerError}
use Rattle.http_routes.specs.declared.reply.Response.TheVariants.{BadRealIp, Unauthorised, NotFound}
use Rattle.http_head.specs.Fields.{is_number, allows}
use Rattle.http_head.specs.Head.{IsReply}
use Rattle.http_routes.specs.Reply.{body_of, reply_text, head_text}
use Rattle.http_head.specs.Word.{word_text}
use Rattle.http_routes.specs.ReadBack.{code_of, fields_of, seen}
use Rattle.http_head.proofs.FieldLemmas.{digits}
use Rattle.http_head.proofs.LineLemmas.{all_pass, line_of, IsPlain, lines_valid, lines_values, length_plain}
use Rattle.http_head.proofs.LineLemmas.{text_then, section_then}

-- ---- the length

short_decimal : (n : ℕ) → n ≤ 1073741824 → length (decimal n) ≤ 10
short_decimal n low = length-decimal-le 10 n (omega arith) (omega arith) (omega arith)

pub length_told : (n : ℕ) → n ≤ 1073741824
    → (is_number (decimal n) && nat_le (digits_value 10 (decimal n)) 1073741824
    && digits_value 10 (decimal n) == n) ≡ true
length_told n low =
    let fits : n < 2 ^ 64 = omega arith in
    let all = digits_decimal digits n fits in
    let some = decimal_nonempty n fits in
    let short = length-decimal-le 10 n (omega arith) (omega arith) fits in
    rw (digits_value-decimal digits n fits) (grind (arith, nat_tests))

-- ---- replies

abbrev digits_of : Response → List ℕ
digits_of (Binary body) = codes "200"
digits_of (Json body) = codes "200"
digits_of (BadRequest body) = codes "400"
digits_of (ServerError body) = codes "500"
digits_of BadRealIp = codes "400"
digits_of (Unauthorised word body) = codes "401"
digits_of NotFound = codes "404"

abbrev reason_of : Response → List ℕ
reason_of (Binary body) = codes "OK"
reason_of (Json body) = codes "OK"
reason_of (BadRequest body) = codes "Bad Request"
reason_of (ServerError body) = codes "Internal Server Error"
reason_of BadRealIp = codes "Bad Request"
reason_of (Unauthorised word body) = codes "Unauthorized"
reason_of NotFound = codes "Not Found"

abbrev pub head_of : Response → ResponseHead
head_of r = record {
  blank = [];
  minor = 1;
  digits = digits_of r;
  reason = Some (reason_of r);
  line_end = crlf;
  fields = map line_of (fields_of r);
  last = crlf;
}

word_plain : (w : Word) → IsPlain
    (codes "WWW-Authenticate", codes "Bearer error=\"" ++ (word_text w ++ codes "\""))
unfolding is_token_byte trim_ows
word_plain NoBearerAuth = (lit< tt, refl, refl, refl)
word_plain BearerAuthFailed = (lit< tt, refl, refl, refl)
word_plain InvalidBearerToken = (lit< tt, refl, refl, refl)
word_plain MismatchedAddress = (lit< tt, refl, refl, refl)
word_plain InvalidJwt = (lit< tt, refl, refl, refl)
word_plain LinkFailed = (lit< tt, refl, refl, refl)

word_short : (w : Word) → length (word_text w) ≤ 100
word_short NoBearerAuth = omega arith
word_short BearerAuthFailed = omega arith
word_short InvalidBearerToken = omega arith
word_short MismatchedAddress = omega arith
word_short InvalidJwt = omega arith
word_short LinkFailed = omega arith

last_plain : (n : ℕ) → n ≤ 1073741824
    → AllByRecursion IsPlain ((codes "Content-Length", decimal n) ∷ (codes "Connection", codes "close") ∷ [])
unfolding is_token_byte trim_ows
last_plain n low = (length_plain n low, ((lit< tt, refl, refl, refl), record {}))

pub fields_plain : (r : Response) → length (body_of r) ≤ 1073741824 → AllByRecursion IsPlain (fields_of r)
unfolding is_token_byte trim_ows
fields_plain (Binary body) low = ((lit< tt, refl, refl, refl), last_plain (length body) low)
fields_plain (Json body) low = ((lit< tt, refl, refl, refl), last_plain (length body) low)
fields_plain (BadRequest body) low = ((lit< tt, refl, refl, refl), last_plain (length body) low)
fields_plain (ServerError body) low = ((lit< tt, refl, refl, refl), last_plain (length body) low)
fields_plain BadRealIp low = last_plain 0 low
fields_plain (Unauthorised word body) low = (word_plain word, last_plain (length body) low)
fields_plain NotFound low = last_plain 0 low

status_valid : (r : Response) → (length (digits_of r) ≡ 3) × (list_all is_ascii_digit (digits_of r) ≡ true)
    × (list_all is_value_byte (reason_of r) ≡ true)
status_valid (Binary body) = (refl, refl, refl)
status_valid (Json body) = (refl, refl, refl)
status_valid (BadRequest body) = (refl, refl, refl)
status_valid (ServerError body) = (refl, refl, refl)
status_valid BadRealIp = (refl, refl, refl)
status_valid (Unauthorised word body) = (refl, refl, refl)
status_valid NotFound = (refl, refl, refl)

abbrev plain_text : Response → List ℕ
plain_text r = codes "HTTP/1.1 " ++
    (digits_of r ++ (32 ∷ reason_of r ++ (13 ∷ 10 ∷ text_then (fields_of r) (13 ∷ 10 ∷ body_of r))))

text_is : (r : Response) → reply_text r ≡ plain_text r
unfolding reply_text
text_is (Binary body) = simp append_assoc refl
text_is (Json body) = simp append_assoc refl
text_is (BadRequest body) = simp append_assoc refl
text_is (ServerError body) = simp append_assoc refl
text_is BadRealIp = simp append_assoc refl
text_is (Unauthorised word body) = simp append_assoc refl
text_is NotFound = simp append_assoc refl

pub printed : (r : Response) → reply_text r ≡ print_response (head_of r) ++ body_of r
printed r =
    text_is r ∙ sym (print_response-append (head_of r) (body_of r)
    ∙ (λ i. codes "HTTP/1.1 " ++
    (digits_of r ++ (32 ∷ reason_of r ++ (13 ∷ 10 ∷ section_then (fields_of r) (body_of r) i)))))

pub allowed : (r : Response) → length (body_of r) ≤ 1073741824
    → allows (fields_of r) (length (body_of r)) ≡ true
unfolding allows
allowed (Binary body) low = length_told (length body) low
allowed (Json body) low = length_told (length body) low
allowed (BadRequest body) low = length_told (length body) low
allowed (ServerError body) low = length_told (length body) low
allowed BadRealIp low = length_told 0 low
allowed (Unauthorised word body) low = length_told (length body) low
allowed NotFound low = length_told 0 low

few_fields : (r : Response) → length (map line_of (fields_of r)) ≤ 100
few_fields (Binary body) = omega arith
few_fields (Json body) = omega arith
few_fields (BadRequest body) = omega arith
few_fields (ServerError body) = omega arith
few_fields BadRealIp = omega arith
few_fields (Unauthorised word body) = omega arith
few_fields NotFound = omega arith

code_is : (r : Response) → code_of r ≡ digits_value 10 (digits_of r)
code_is (Binary body) = refl
code_is (Json body) = refl
code_is (BadRequest body) = refl
code_is (ServerError body) = refl
code_is BadRealIp = refl
code_is (Unauthorised word body) = refl
code_is NotFound = refl

short_text : (r : Response) → length (body_of r) ≤ 1073741824 → length (head_text r) ≤ 65536
short_text (Binary body) low = let d = short_decimal (length body) low in simp length-append (omega arith)
short_text (Json body) low = let d = short_decimal (length body) low in simp length-append (omega arith)
short_text (BadRequest body) low = let d = short_decimal (length body) low in simp length-append (omega arith)
short_text (ServerError body) low = let d = short_decimal (length body) low in simp length-append
    (omega arith)
short_text BadRealIp low = let d = short_decimal 0 low in simp length-append (omega arith)
short_text (Unauthorised word body) low = let d = short_decimal (length body) low in let w = word_short word
    in simp length-append (omega arith)
short_text NotFound low = let d = short_decimal 0 low in simp length-append (omega arith)

pub short_head : (r : Response) → length (body_of r) ≤ 1073741824
    → length (print_response (head_of r)) ≤ 65536
unfolding reply_text
short_head r low =
    let total = ap length (printed r) in
    let sum = length-append (print_response (head_of r)) (body_of r) in
    let whole = length-append (head_text r) (body_of r) in
    let small = short_text r low in
    omega arith

-- a reply that was printed is read as it was meant
pub read_back : (r : Response) → length (body_of r) ≤ 1073741824 → IsReply (reply_text r) (seen r)
read_back r low =
    let plain = fields_plain r low in
    let status = status_valid r in (
      head_of r,
      record {
        opens = record {
          reads = (
            record {
              minor = omega arith;
              digits = (status.0, all_pass is_ascii_digit (digits_of r) status.1);
              reason = all_pass is_value_byte (reason_of r) status.2;
              fields = lines_valid (fields_of r) plain;
            },
            printed r,
          );
          within = record { few = few_fields r; short = short_head r low };
        };
        body = rw (lines_values (fields_of r) plain) (allowed r low);
        code = code_is r;
        headers = sym (lines_values (fields_of r) plain);
      },
    )
