-- The head that the parser holds is the one that begins the bytes.
use Rattle.std.proofs.Common.{◌≡◌, ℕ, List, [], drop, Some, ap, ◌∙◌}
use Rattle.std.specs.Prelude.{map}
use Rattle.httparse.specs.declared.borrowed.Request as parsed
use Rattle.httparse.specs.Borrowed.{header_parts}
use Rattle.httparse.specs.Spans.{name_and_value}
use Rattle.httparse.proofs.GrammarLemmas.{request_unique}
use Rattle.http_head.specs.Fields.{body_length}
use Rattle.http_head.specs.Head.{IsHeld}
use Rattle.http_head.specs.Opening.{AnnouncesNone}

pub announces_none : (bytes : List ℕ) (len : ℕ) (p : parsed.Request) → IsHeld bytes p len
    → ((n : ℕ) → body_length (map header_parts p.headers.now) ≡ Some n → ⊥) → AnnouncesNone bytes
announces_none bytes len p x refused k rest n y =
    let same = request_unique bytes x.head k (drop len bytes) rest x.holds.reads y.opens.reads in
    let fields = x.holds.fields ∙ ap (λ t. map name_and_value t.fields) same.0 in
    refused n (rw fields y.body)
