-- A request that was written is read as it was meant.
use Rattle.std.proofs.Common.{◌≡◌, ℕ, ◌<◌, ◌≤◌, ◌^◌, ◌==◌, nat_le, nat_lt, Bool, true, false, not, List, []}
use Rattle.std.proofs.Common.{◌∷◌, ◌++◌, length, map, reverse, codes, decimal, Option, Some, None, refl, ap}
use Rattle.std.proofs.Common.{sym, subst, ◌∙◌, arith, append_assoc, length-append, lit<}
use Rattle.std.specs.Prelude.{IsTrue, IsUtf8, IfSome, All}
use Rattle.std.specs.List.{list_all, AllByRecursion}
use Rattle.std.proofs.lemmas.Bool.Decides.{nat_tests}
use Rattle.std.proofs.lemmas.List.{reverse-append, reverse-reverse}
use Rattle.std.proofs.lemmas.List.Elements.{All-nil, All-cons, All-head}
use Rattle.std.proofs.lemmas.Fmt.{digits_decimal, digits_value-decimal, decimal_nonempty, length-decimal-le}
use Rattle.std.proofs.lemmas.Str.{IsUtf8-append, IsUtf8-from_ascii}
use Rattle.std.proofs.lemmas.Str.Ascii.{IsAscii-from_all}
use Rattle.httparse.specs.Grammar.{crlf, RequestHead, print_request, is_token_byte, is_uri_byte}
use Rattle.httparse.specs.Grammar.{is_value_byte, is_ows, skip_ows, trim_ows, AllPass}
use Rattle.httparse.proofs.GrammarLemmas.{print_request-append}
use Rattle.httparse.proofs.TrimLemmas.{trim_ows_space, AllPass-reverse}
use Rattle.http_head.specs.declared.request.Request.{Request}
use Rattle.http_head.specs.declared.written_request.Method.{Method}
use Rattle.http_head.specs.declared.written_request.Method.TheVariants.{Get, Post}
use Rattle.http_head.specs.declared.written_request.WrittenRequest.{WrittenRequest}
use Rattle.http_head.specs.Bearer.{token_in}
use Rattle.http_head.specs.Fields.{is_number, length_in, body_length, as_text, header}
use Rattle.http_head.specs.Head.{IsRequest}
use Rattle.http_head.specs.WrittenRequest.{method_text, token_line, content_lines, body_of, head_text}
use Rattle.http_head.specs.WrittenRequest.{request_text, is_printed, is_visible, IsToken, HasBodyFor}
use Rattle.http_head.specs.WrittenRequest.{IsSendable, token_fields, content_fields, fields_of, read_back}
use Rattle.http_head.specs.WrittenRequest.{content_of, Carries}
use Rattle.http_head.proofs.BearerLemmas.{shown_token}
use Rattle.http_head.proofs.FieldLemmas.{digits, text_is}
use Rattle.http_head.proofs.LineLemmas.{and_left, and_right, all_pass, weaker, line_of, IsPlain, lines_valid}
use Rattle.http_head.proofs.LineLemmas.{lines_values, text_then, section_then, whole, length_plain}

-- ---- values that are read as they are printed

visible_value : (b : ℕ) → is_visible b ≡ true → is_value_byte b ≡ true
visible_value b h = grind (arith, nat_tests)

visible_no_blank : (b : ℕ) → is_visible b ≡ true → not (is_ows b) ≡ true
visible_no_blank b h = grind (arith, nat_tests)

visible_uri : (b : ℕ) → is_visible b ≡ true → is_uri_byte b ≡ true
visible_uri b h = grind (arith, nat_tests)

printed_value : (b : ℕ) → is_printed b ≡ true → is_value_byte b ≡ true
printed_value b h = grind (arith, nat_tests)

host_plain : (host : List ℕ) → list_all is_visible host ≡ true → IsPlain (codes "Host", host)
unfolding is_token_byte
host_plain host h = (
  lit< tt,
  refl,
  weaker is_visible is_value_byte visible_value host h,
  whole host (weaker is_visible (λ b. not (is_ows b)) visible_no_blank host h),
)

-- the last byte of a token is no blank, so what stands behind it when it is turned round stays
token_end : (token : List ℕ) → IsToken token → (more : List ℕ)
    → skip_ows (reverse token ++ more) ≡ reverse token ++ more
token_end token h more = by_turned (reverse token) (reverse-reverse token)
    (AllPass-reverse is_printed token (all_pass is_printed token h.printed))
  where
    by_turned : (turned : List ℕ) → reverse turned ≡ token → AllPass is_printed turned
        → skip_ows (turned ++ more) ≡ turned ++ more
    by_turned [] is printed = absurd (let none = ap length is in let some = h.some in omega arith)
    by_turned (b ∷ bs) is printed =
        let this : is_printed b ≡ true = All-head (λ x. IsTrue (is_printed x)) b bs printed in
        let parts : token ≡ reverse bs ++ (b ∷ []) = sym is ∙ reverse-append (b ∷ []) bs in
        let no_space : (b == 32) ≡ false = by_test (b == 32) refl parts in
        let other : is_ows b ≡ false = grind (arith, nat_tests) in
        rw other refl
      where
        by_test : (t : Bool) → (b == 32) ≡ t → token ≡ reverse bs ++ (b ∷ []) → t ≡ false
        by_test false e parts = refl
        by_test true e parts =
            let same : b ≡ 32 = grind (arith, nat_tests)
            in absurd (h.end (reverse bs) (subst (λ (c : ℕ). token ≡ reverse bs ++ (c ∷ [])) same parts))

token_plain : (token : List ℕ) → IsToken token → IsPlain (codes "Authorization", codes "Bearer " ++ token)
unfolding is_token_byte
token_plain token h = (
  lit< tt,
  refl,
  weaker is_printed is_value_byte printed_value token h.printed,
  trim_ows_space (codes "Bearer " ++ token) refl
      (rw (reverse-append (codes "Bearer ") token) (token_end token h (reverse (codes "Bearer ")))),
)

close_plain : AllByRecursion IsPlain ((codes "Connection", codes "close") ∷ [])
unfolding is_token_byte trim_ows
close_plain = ((lit< tt, refl, refl, refl), record {})

content_plain : (method : Method) (n : ℕ) → n ≤ 1073741824
    → AllByRecursion IsPlain (content_fields method n ++ ((codes "Connection", codes "close") ∷ []))
unfolding is_token_byte trim_ows
content_plain Get n low = close_plain
content_plain Post n low = ((lit< tt, refl, refl, refl), (length_plain n low, close_plain))

rest_plain : (token : Option (List ℕ)) (method : Method) (n : ℕ) → IfSome token IsToken → n ≤ 1073741824
    → AllByRecursion IsPlain
    (token_fields token ++ (content_fields method n ++ ((codes "Connection", codes "close") ∷ [])))
rest_plain None method n h low = content_plain method n low
rest_plain (Some token) method n h low = (token_plain token h, content_plain method n low)

fields_plain : (w : WrittenRequest) → IsSendable w → AllByRecursion IsPlain (fields_of w)
fields_plain w s = (
  host_plain w.host s.host,
  rest_plain w.token w.method
      (length (body_of w)) s.token s.limits.body,
)

-- ---- the text

abbrev pub head_of : WrittenRequest → RequestHead
head_of w = record {
  blank = [];
  method = method_text w.method;
  target = w.target;
  minor = 1;
  line_end = crlf;
  fields = map line_of (fields_of w);
  last = crlf;
}

abbrev plain_text : List ℕ → List ℕ → List ℕ → Option (List ℕ) → Method → List ℕ → List ℕ
plain_text verb target host token method body =
    verb ++ (32 ∷ target ++ (32 ∷ codes "HTTP/1.1" ++ (13 ∷ 10 ∷ text_then
    ((codes "Host", host) ∷ (token_fields token ++
    (content_fields method (length body) ++ ((codes "Connection", codes "close") ∷ []))))
    (13 ∷ 10 ∷ body))))

abbrev given_text : List ℕ → List ℕ → List ℕ → Option (List ℕ) → Method → List ℕ → List ℕ
given_text verb target host token method body =
    (verb ++ (codes " " ++ (target ++ (codes " HTTP/1.1\r\nHost: " ++ (host ++ (codes "\r\n"
    ++ (token_line token ++ (content_lines method (length body) ++ codes "Connection: close\r\n\r\n"))))))))
    ++ body

regrouped : (verb target host : List ℕ) (token : Option (List ℕ)) (method : Method) (body : List ℕ)
    → given_text verb target host token method body ≡ plain_text verb target host token method body
regrouped verb target host None Get body = simp append_assoc refl
regrouped verb target host None Post body = simp append_assoc refl
regrouped verb target host (Some token) Get body = simp append_assoc refl
regrouped verb target host (Some token) Post body = simp append_assoc refl

pub printed : (w : WrittenRequest) → request_text w ≡ print_request (head_of w) ++ body_of w
unfolding request_text
printed w =
    regrouped (method_text w.method) w.target w.host w.token w.method (body_of w)
    ∙ sym (print_request-append (head_of w) (body_of w)
    ∙ (λ i. method_text w.method ++
    (32 ∷ w.target ++ (32 ∷ codes "HTTP/1.1" ++ (13 ∷ 10 ∷ section_then (fields_of w) (body_of w) i)))))

-- ---- the limits

length_read : (n : ℕ) → n ≤ 1073741824 → length_in (decimal n) ≡ Some n
length_read n low =
    let fits : n < 2 ^ 64 = omega arith in
    let value = digits_value-decimal digits n fits in
    let all = digits_decimal digits n fits in
    let some = decimal_nonempty n fits in
    let short = length-decimal-le 10 n (omega arith) (omega arith) fits in
    let number : is_number (decimal n) ≡ true = grind (arith, nat_tests) in
    let small : nat_le n 1073741824 ≡ true = grind (arith, nat_tests) in
    rw (value, number, small) refl

body_told : (host : List ℕ) (token : Option (List ℕ)) (method : Method) (body : List ℕ)
    → HasBodyFor method body → length body ≤ 1073741824
    → body_length ((codes "Host", host) ∷
    (token_fields token ++ (content_fields method (length body) ++
    ((codes "Connection", codes "close") ∷ [])))) ≡ Some (length body)
unfolding body_length
body_told host None Get body h low = ap (λ (b : List ℕ). Some (length b)) (sym h)
body_told host (Some token) Get body h low = ap (λ (b : List ℕ). Some (length b)) (sym h)
body_told host None Post body h low = length_read (length body) low
body_told host (Some token) Post body h low = length_read (length body) low

few_fields : (host : List ℕ) (token : Option (List ℕ)) (method : Method) (n : ℕ)
    → length (map line_of ((codes "Host", host) ∷
    (token_fields token ++ (content_fields method n ++ ((codes "Connection", codes "close") ∷ [])))))
    ≤ 100
few_fields host None Get n = omega arith
few_fields host None Post n = omega arith
few_fields host (Some token) Get n = omega arith
few_fields host (Some token) Post n = omega arith

short_head : (w : WrittenRequest) → IsSendable w → length (print_request (head_of w)) ≤ 65536
unfolding request_text
short_head w s =
    let total = ap length (printed w) in
    let sum = length-append (print_request (head_of w)) (body_of w) in
    let all = length-append (head_text w) (body_of w) in
    let small = s.limits.head in
    omega arith

-- ---- the whole

verb_valid : (method : Method) → (0 < length (method_text method))
    × (list_all is_token_byte (method_text method) ≡ true)
unfolding is_token_byte
verb_valid Get = (lit< tt, refl)
verb_valid Post = (lit< tt, refl)

pub is_read_back : (w : WrittenRequest) → IsSendable w → IsRequest (request_text w) (read_back w)
is_read_back w s =
    let plain = fields_plain w s in
    let verb = verb_valid w.method in (
      head_of w,
      record {
        opens = record {
          reads = (
            record {
              method = (verb.0, all_pass is_token_byte (method_text w.method) verb.1);
              target = (
                s.some_target,
                all_pass is_uri_byte w.target
                    (weaker is_visible is_uri_byte visible_uri w.target s.target),
              );
              target_text = s.target_text;
              minor = omega arith;
              fields = lines_valid (fields_of w) plain;
            },
            printed w,
          );
          within = record {
            few = few_fields w.host w.token w.method (length (body_of w));
            short = short_head w s;
          };
        };
        body = rw (lines_values (fields_of w) plain)
            (body_told w.host w.token w.method (body_of w) s.plain s.limits.body);
        method = refl;
        target = refl;
        headers = sym (lines_values (fields_of w) plain);
      },
    )

-- ---- the parts

abbrev is_small : ℕ → Bool
is_small b = nat_lt b 128

small : (b : ℕ) → is_small b ≡ true → b < 128
small b h = grind (arith, nat_tests)

all_small : (xs : List ℕ) → list_all is_small xs ≡ true → All (λ b. b < 128) xs
all_small [] h = All-nil (λ b. b < 128)
all_small (x ∷ xs) h =
    All-cons (λ b. b < 128) x xs (small x (and_left (is_small x) (list_all is_small xs) h))
    (all_small xs (and_right (is_small x) (list_all is_small xs) h))

-- ASCII is text
pub ascii_text : (xs : List ℕ) → list_all (λ b. nat_lt b 128) xs ≡ true → IsUtf8 xs
ascii_text xs h = IsUtf8-from_ascii xs (IsAscii-from_all xs (all_small xs h))

shown_is_text : (token : List ℕ) → IsToken token → as_text (Some (codes "Bearer " ++ token)) ≡ Some
    (codes "Bearer " ++ token)
shown_is_text token h = text_is (codes "Bearer " ++ token)
    (IsUtf8-append (codes "Bearer ") token (ascii_text (codes "Bearer ") refl) h.text)

token_none : token_in None ≡ None
unfolding token_in
token_none = refl

abbrev rows : List ℕ → Option (List ℕ) → Method → ℕ → List (List ℕ × List ℕ)
rows host token method n =
    (codes "Host", host) ∷ (token_fields token ++
    (content_fields method n ++ ((codes "Connection", codes "close") ∷ [])))

token_carried : (host : List ℕ) (token : Option (List ℕ)) (method : Method) (n : ℕ) → IfSome token IsToken
    → token_in (header (codes "authorization") (rows host token method n)) ≡ token
token_carried host None Get n h = token_none
token_carried host None Post n h = token_none
token_carried host (Some token) Get n h = ap token_in (shown_is_text token h) ∙ shown_token token
token_carried host (Some token) Post n h = ap token_in (shown_is_text token h) ∙ shown_token token

content_carried : (host : List ℕ) (token : Option (List ℕ)) (method : Method) (n : ℕ)
    → header (codes "content-type") (rows host token method n) ≡ content_of method
content_carried host None Get n = refl
content_carried host (Some token) Get n = refl
content_carried host None Post n = text_is (codes "application/octet-stream")
    (ascii_text (codes "application/octet-stream") refl)
content_carried host (Some token) Post n = text_is (codes "application/octet-stream")
    (ascii_text (codes "application/octet-stream") refl)

no_real_ip : (host : List ℕ) (token : Option (List ℕ)) (method : Method) (n : ℕ)
    → header (codes "x-real-ip") (rows host token method n) ≡ None
no_real_ip host None Get n = refl
no_real_ip host (Some token) Get n = refl
no_real_ip host None Post n = refl
no_real_ip host (Some token) Post n = refl

no_accept : (host : List ℕ) (token : Option (List ℕ)) (method : Method) (n : ℕ)
    → header (codes "accept") (rows host token method n) ≡ None
no_accept host None Get n = refl
no_accept host (Some token) Get n = refl
no_accept host None Post n = refl
no_accept host (Some token) Post n = refl

pub carried : (w : WrittenRequest) → IsSendable w → Carries w (read_back w)
carried w s =
    let n = length (body_of w) in
    record {
      method = refl;
      target = refl;
      token = token_carried w.host w.token w.method n s.token;
      content = content_carried w.host w.token w.method n;
      no_real_ip = no_real_ip w.host w.token w.method n;
      no_accept = no_accept w.host w.token w.method n;
      body = refl;
    }

pub requests_read_back : (w : WrittenRequest) → IsSendable w → (r : Request) × IsRequest (request_text w) r
    × Carries w r
requests_read_back w s = (read_back w, is_read_back w s, carried w s)
