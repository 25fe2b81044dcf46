-- Bytes are one request at most, and begin with one head at most.
use Rattle.std.proofs.Common.{◌≡◌, ℕ, ◌≤◌, List, [], Bor, length, drop, Some, arith, ap, sym, ◌∙◌}
use Rattle.std.specs.Prelude.{map, option_copied, unwrap_or}
use Rattle.std.proofs.lemmas.List.{length-map}
use Rattle.httparse.specs.declared.borrowed.Request as parsed
use Rattle.httparse.specs.Borrowed.{HoldsSomeRequest, header_parts}
use Rattle.httparse.specs.Grammar.{print_request}
use Rattle.httparse.specs.Spans.{name_and_value}
use Rattle.httparse.proofs.GrammarLemmas.{request_unique}
use Rattle.http_head.specs.declared.request.Request.{Request}
use Rattle.http_head.specs.Fields.{body_length}
use Rattle.http_head.specs.Head.{HasNoHead, IsRequest, IsNoRequest, IsHeld}

pub same_request : (r q : Request) → r.method ≡ q.method → r.target ≡ q.target → r.headers ≡ q.headers
    → r.body ≡ q.body → r ≡ q
same_request r q a b c d = λ i. record { method = a i; target = b i; headers = c i; body = d i }

pub one_request : (bytes : List ℕ) (r q : Request) → IsRequest bytes r → IsRequest bytes q → r ≡ q
one_request bytes r q (h, x) (k, y) =
    let same = request_unique bytes h k r.body q.body x.opens.reads y.opens.reads in
    same_request r q
    (x.method ∙ (ap (λ t. t.method) same.0 ∙ sym y.method))
    (x.target ∙ (ap (λ t. t.target) same.0 ∙ sym y.target))
    (x.headers ∙ (ap (λ t. map name_and_value t.fields) same.0 ∙ sym y.headers))
    same.1

-- where the parser holds a head that is not within the limits, there is none
pub none_by : (bytes : List ℕ) (len : ℕ) (p : parsed.Request) → HoldsSomeRequest bytes p len
    → (length p.headers.now ≤ 100 → len ≤ 65536 → ⊥) → HasNoHead bytes
none_by bytes len p (h, x) refused k rest y =
    let same = request_unique bytes h k (drop len bytes) rest x.reads y.reads in
    let fields = x.fields ∙ ap (λ t. map name_and_value t.fields) same.0 in
    let count : length p.headers.now ≡ length k.fields = simp length-map at (ap length fields) in
    refused (omega (arith, y.within.few, count))
    (omega (arith, y.within.short, x.len_is, ap (λ t. length (print_request t)) same.0))

pub is_request : (bytes body : List ℕ) (p : parsed.Request) (method target : Bor (List ℕ)) (len : ℕ)
    → IsHeld bytes p len
    → p.method ≡ Some method → p.path ≡ Some target → body ≡ drop len bytes
    → body_length (map header_parts p.headers.now) ≡ Some (length body)
    → IsRequest bytes (record {
      method = method.now;
      target = target.now;
      headers = map header_parts p.headers.now;
      body = body;
    })
is_request bytes body p method target len x is_method is_target after says = (
  x.head,
  record {
    opens = record { reads = rw after x.holds.reads; within = x.within };
    body = rw (← x.holds.fields) says;
    method = (λ i. unwrap_or ((ap option_copied (sym is_method) ∙ x.holds.method) i) []);
    target = (λ i. unwrap_or ((ap option_copied (sym is_target) ∙ x.holds.path) i) []);
    headers = x.holds.fields;
  },
)

pub no_request : (bytes body : List ℕ) (p : parsed.Request) (len : ℕ) → IsHeld bytes p len
    → body ≡ drop len bytes
    → (body_length (map header_parts p.headers.now) ≡ Some (length body) → ⊥) → IsNoRequest bytes
no_request bytes body p len x after refused r (k, y) =
    let same = request_unique bytes x.head k (drop len bytes) r.body x.holds.reads y.opens.reads in
    let fields = x.holds.fields ∙ ap (λ t. map name_and_value t.fields) same.0 in
    refused (rw (fields, after, same.1) y.body)
