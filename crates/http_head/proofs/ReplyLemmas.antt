-- Bytes are one reply at most, and begin with one head of a reply at most.
use Rattle.std.proofs.Common.{◌≡◌, ℕ, ◌≤◌, true, List, length, drop, map, Option, Some, None, refl, arith, ap}
use Rattle.std.proofs.Common.{sym, ◌∙◌, []}
use Rattle.std.specs.Prelude.{unwrap_or}
use Rattle.std.proofs.lemmas.List.{length-map}
use Rattle.httparse.specs.declared.borrowed.Response as parsed
use Rattle.httparse.specs.Borrowed.{HoldsSomeResponse, header_parts}
use Rattle.httparse.specs.Grammar.{print_response, status_code}
use Rattle.httparse.specs.Spans.{name_and_value}
use Rattle.httparse.proofs.GrammarLemmas.{response_unique}
use Rattle.http_head.specs.declared.reply.Reply.{Reply}
use Rattle.http_head.specs.Fields.{allows}
use Rattle.http_head.specs.Head.{IsReply, IsNoReply, HasNoReplyHead, IsReplyHeld, HasStatus}

-- ---- the head that begins the bytes

-- where the parser holds a head that is not within the limits, there is none
pub none_by : (bytes : List ℕ) (len : ℕ) (p : parsed.Response) → HoldsSomeResponse bytes p len
    → (length p.headers.now ≤ 100 → len ≤ 65536 → ⊥) → HasNoReplyHead bytes
none_by bytes len p (h, x) refused k rest y =
    let same = response_unique bytes h k (drop len bytes) rest x.reads y.reads in
    let fields = x.fields ∙ ap (λ t. map name_and_value t.fields) same.0 in
    let count : length p.headers.now ≡ length k.fields = simp length-map at (ap length fields) in
    refused (omega (arith, y.within.few, count))
    (omega (arith, y.within.short, x.len_is, ap (λ t. length (print_response t)) same.0))

pub one_status : (bytes : List ℕ) (a b : Option ℕ) → HasStatus bytes a → HasStatus bytes b → a ≡ b
one_status bytes (Some a) (Some b) (h, r, x, e) (k, q, y, f) =
    ap Some (e ∙ (ap status_code (response_unique bytes h k r q x.reads y.reads).0 ∙ sym f))
one_status bytes (Some a) None (h, r, x, e) none = absurd (none h r x)
one_status bytes None (Some b) none (k, q, y, f) = absurd (none k q y)
one_status bytes None None none nothing = refl

-- ---- the reply that the bytes are

pub is_reply : (bytes body : List ℕ) (p : parsed.Response) (code len : ℕ) → IsReplyHeld bytes p len
    → p.code ≡ Some code → body ≡ drop len bytes
    → allows (map header_parts p.headers.now) (length body) ≡ true
    → IsReply bytes (record { code = code; headers = map header_parts p.headers.now; body = body })
is_reply bytes body p code len x is_code after allowed = (
  x.head,
  record {
    opens = record { reads = rw after x.holds.reads; within = x.within };
    body = rw (← x.holds.fields) allowed;
    code = (λ i. unwrap_or ((sym is_code ∙ x.holds.code) i) 0);
    headers = x.holds.fields;
  },
)

pub no_reply : (bytes body : List ℕ) (p : parsed.Response) (len : ℕ) → IsReplyHeld bytes p len
    → body ≡ drop len bytes
    → (allows (map header_parts p.headers.now) (length body) ≡ true → ⊥) → IsNoReply bytes
no_reply bytes body p len x after refused r (k, y) =
    let same = response_unique bytes x.head k (drop len bytes) r.body x.holds.reads y.opens.reads in
    let fields = x.holds.fields ∙ ap (λ t. map name_and_value t.fields) same.0 in
    refused (rw (fields, after, same.1) y.body)

pub one_reply : (bytes : List ℕ) (r q : Reply) → IsReply bytes r → IsReply bytes q → r ≡ q
one_reply bytes r q (h, x) (k, y) =
    let same = response_unique bytes h k r.body q.body x.opens.reads y.opens.reads in
    same_reply r q
    (x.code ∙ (ap status_code same.0 ∙ sym y.code))
    (x.headers ∙ (ap (λ t. map name_and_value t.fields) same.0 ∙ sym y.headers))
    same.1
  where
    same_reply : (r q : Reply) → r.code ≡ q.code → r.headers ≡ q.headers → r.body ≡ q.body → r ≡ q
    same_reply r q a b c = λ i. record { code = a i; headers = b i; body = c i }

-- ---- what the parser refuses
