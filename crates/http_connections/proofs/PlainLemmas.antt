-- What a plain stop says: it waits for nobody, and has no body.
use Rattle.std.proofs.Common.{◌≡◌, ℕ, ◌<◌, Bool, true, false, cond, not, ◌&&◌, ◌||◌, ◌==◌, List, [], ◌∷◌, ◌++◌, length}
use Rattle.std.proofs.Common.{take, map, flat_map, Option, Some, None, refl, sym, ap, ◌∙◌, append_assoc, arith, codes}
use Rattle.std.proofs.Common.{drop, find}
use Rattle.std.proofs.lemmas.Bool.{eqb-true}
use Rattle.std.proofs.lemmas.List.{length-map, length-take, take_at}
use Rattle.std.proofs.lemmas.Slice.Eq.{bytes_eq-Decides}
use Rattle.std.specs.Char.{to_ascii_lowercase}
use Rattle.std.specs.List.{starts_with}
use Rattle.std.specs.Option.{option_map}
use Rattle.httparse.specs.Grammar.{Field, LineEnd, crlf, lf, print_end, print_blank, print_field, print_section}
use Rattle.httparse.specs.Grammar.{print_version, RequestHead, print_request}
use Rattle.httparse.specs.Spans.{name_and_value}
use Rattle.http_head.specs.Fields.{same_name, is_named, is_refused, length_given, value_of, body_length}
use Rattle.http_head.specs.Opening.{FindsOpening, IsOpening}
use Rattle.http_head.specs.declared.opening.Head.{Head}
use Rattle.http_routes.specs.Kind.{kind_of}
use Rattle.http_routes.specs.declared.kind.Kind.TheVariants.{Quick}
use Rattle.http_routes.specs.declared.kind.Role.{Role}
use Rattle.http_routes.specs.declared.kind.Role.TheVariants.{Scheduler, Server}
use Rattle.http_connections.specs.Plain.{is_length, has_length, is_plain}

-- ---- tests

or_left : (a b : Bool) → a || b ≡ false → a ≡ false
or_left true b h = h
or_left false b h = refl

or_right : (a b : Bool) → a || b ≡ false → b ≡ false
or_right true b h = absurd cc
or_right false b h = h

and_left : (a b : Bool) → a && b ≡ true → a ≡ true
and_left true b h = refl
and_left false b h = absurd cc

and_right : (a b : Bool) → a && b ≡ true → b ≡ true
and_right true b h = h
and_right false b h = absurd cc

not_so : (a : Bool) → not a ≡ true → a ≡ false
not_so true h = absurd cc
not_so false h = refl

-- ---- the name

-- what is shorter than the name does not begin with it
pub too_short : (bytes : List ℕ) → length bytes < 14 → is_length bytes ≡ false
too_short bytes short = by (is_length bytes) refl
  where
    by : (b : Bool) → is_length bytes ≡ b → is_length bytes ≡ false
    by true e =
        let same = (bytes_eq-Decides (map to_ascii_lowercase (take 14 bytes))
        (map to_ascii_lowercase (codes "content-length"))).0 e in
        let long : length (take 14 bytes) ≡ 14 = sym (length-map (take 14 bytes) to_ascii_lowercase) ∙ ap length same in
        absurd (omega (arith, long, length-take 14 bytes, short))
    by false e = e

-- what stands behind a front announces none
after : (begins : Bool) (front bytes : List ℕ) → has_length begins (front ++ bytes) ≡ false
    → (b : Bool) × (has_length b bytes ≡ false)
after begins [] bytes h = (begins, h)
after begins (x ∷ front) bytes h =
    after (x == 10) front bytes
    (or_right (begins && is_length (x ∷ front ++ bytes)) (has_length (x == 10) (front ++ bytes)) h)

skip : (begins : Bool) (front more rest : List ℕ) → has_length begins ((front ++ more) ++ rest) ≡ false
    → (b : Bool) × (has_length b (more ++ rest) ≡ false)
skip begins front more rest h =
    after begins front (more ++ rest) (ap (has_length begins) (sym (append_assoc front more rest)) ∙ h)

skip_byte : (begins : Bool) (b : ℕ) (bytes : List ℕ) → has_length begins (b ∷ bytes) ≡ false
    → has_length (b == 10) bytes ≡ false
skip_byte begins b bytes h = or_right (begins && is_length (b ∷ bytes)) (has_length (b == 10) bytes) h

-- a line begins behind a line end
behind_end : (begins : Bool) (end : LineEnd) (bytes : List ℕ) → has_length begins (print_end end ++ bytes) ≡ false
    → has_length true bytes ≡ false
behind_end begins crlf bytes h = skip_byte false 10 bytes (skip_byte begins 13 (10 ∷ bytes) h)
behind_end begins lf bytes h = skip_byte begins 10 bytes h

first_line : (bytes : List ℕ) → has_length true bytes ≡ false → is_length bytes ≡ false
first_line [] h = too_short [] (omega arith)
first_line (b ∷ bytes) h = or_left (is_length (b ∷ bytes)) (has_length (b == 10) bytes) h

-- a field of that name would begin its line with it
other_name : (name more : List ℕ) → is_length (name ++ more) ≡ false
    → same_name name (codes "content-length") ≡ false
other_name name more h = by (same_name name (codes "content-length")) refl
  where
    by : (b : Bool) → same_name name (codes "content-length") ≡ b → same_name name (codes "content-length") ≡ false
    by true e =
        let same = (bytes_eq-Decides (map to_ascii_lowercase name)
        (map to_ascii_lowercase (codes "content-length"))).0 e in
        let long : length name ≡ 14 = sym (length-map name to_ascii_lowercase) ∙ ap length same in
        let front : take 14 (name ++ more) ≡ name = take_at name more 14 long in
        absurd (cc (ap (λ l. same_name l (codes "content-length")) front ∙ e, h))
    by false e = e

no_field : (fields : List Field) (tail : List ℕ) → has_length true (flat_map print_field fields ++ tail) ≡ false
    → find (is_named (codes "content-length")) (map name_and_value fields) ≡ None
no_field [] tail h = refl
no_field (f ∷ fs) tail h =
    let rest = flat_map print_field fs ++ tail in
    let value = 58 ∷ f.raw in
    let ended = print_end f.end ++ rest in
    let one : has_length true (print_field f ++ rest) ≡ false =
    ap (has_length true) (sym (append_assoc (print_field f) (flat_map print_field fs) tail)) ∙ h in
    let two : has_length true ((f.name ++ value) ++ ended) ≡ false =
    ap (has_length true) (sym (append_assoc (f.name ++ value) (print_end f.end) rest)) ∙ one in
    let first : is_length (f.name ++ (value ++ ended)) ≡ false =
    first_line (f.name ++ (value ++ ended)) (ap (has_length true) (sym (append_assoc f.name value ended)) ∙ two) in
    let named = skip true f.name value ended two in
    let raw = after (58 == 10) f.raw ended (skip_byte named.0 58 (f.raw ++ ended) named.1) in
    let next = behind_end raw.0 f.end rest raw.1 in
    ap (λ t. cond t (Some (name_and_value f)) (find (is_named (codes "content-length")) (map name_and_value fs)))
    (other_name f.name (value ++ ended) first) ∙ no_field fs tail next

-- ---- the body

of_some : (a b : ℕ) → Some a ≡ Some b → a ≡ b
of_some a b e = cc e

none_told : (t : Bool) (v : Option (List ℕ)) (n : ℕ) → v ≡ None → cond t None (length_given v) ≡ Some n → n ≡ 0
none_told true v n none is = absurd cc
none_told false v n none is = of_some n 0 (sym is ∙ ap length_given none)

no_body : (fields : List Field) (tail : List ℕ) (n : ℕ)
    → has_length true (flat_map print_field fields ++ tail) ≡ false
    → body_length (map name_and_value fields) ≡ Some n → n ≡ 0
unfolding body_length
no_body fields tail n h is =
    let none : value_of (codes "content-length") (map name_and_value fields) ≡ None =
    ap (option_map (λ f. f.1)) (no_field fields tail h) in
    none_told (is_refused (map name_and_value fields)) (value_of (codes "content-length") (map name_and_value fields)) n
    none is

section_of : (h : RequestHead) (rest : List ℕ) → has_length true (print_request h ++ rest) ≡ false
    → has_length true (flat_map print_field h.fields ++ (print_end h.last ++ rest)) ≡ false
unfolding print_request
section_of h rest none =
    let section = print_section h.fields h.last in
    let front = ((print_blank h.blank ++ h.method) ++ (32 ∷ h.target)) ++ (32 ∷ print_version h.minor) in
    let whole : has_length true ((front ++ print_end h.line_end) ++ (section ++ rest)) ≡ false =
    ap (has_length true) (sym (append_assoc (front ++ print_end h.line_end) section rest)) ∙ none in
    let line = skip true front (print_end h.line_end) (section ++ rest) whole in
    let fields = behind_end line.0 h.line_end (section ++ rest) line.1 in
    ap (has_length true) (sym (append_assoc (flat_map print_field h.fields) (print_end h.last) rest)) ∙ fields

-- ---- the kind

begins_get : (blank : List LineEnd) (method more : List ℕ) → 0 < length method
    → starts_with (λ (a b : ℕ). a == b) (print_blank blank ++ (method ++ more)) (codes "GET ") ≡ true
    → (tail : List ℕ) × (method ≡ 71 ∷ tail)
begins_get (crlf ∷ ends) method more some h = absurd cc
begins_get (lf ∷ ends) method more some h = absurd cc
begins_get [] [] more some h = absurd (omega (arith, some))
begins_get [] (a ∷ method) more some h =
    (method, ap (λ b. b ∷ method) (sym (eqb-true 71 a (and_left (71 == a) _ h))))

method_of : (h : RequestHead) (rest : List ℕ) → 0 < length h.method
    → starts_with (λ (a b : ℕ). a == b) (print_request h ++ rest) (codes "GET ") ≡ true
    → (tail : List ℕ) × (h.method ≡ 71 ∷ tail)
unfolding print_request
method_of h rest some is =
    let front = print_blank h.blank ++ h.method in
    let target = 32 ∷ h.target in
    let version = 32 ∷ print_version h.minor in
    let section = print_section h.fields h.last ++ rest in
    let ended = print_end h.line_end ++ section in
    let whole = append_assoc (((front ++ target) ++ version) ++ print_end h.line_end)
    (print_section h.fields h.last) rest
    ∙ (append_assoc ((front ++ target) ++ version) (print_end h.line_end) section
    ∙ (append_assoc (front ++ target) version ended
    ∙ (append_assoc front target (version ++ ended)
    ∙ append_assoc (print_blank h.blank) h.method (target ++ (version ++ ended))))) in
    begins_get h.blank h.method (target ++ (version ++ ended)) some
    (ap (λ l. starts_with (λ (a b : ℕ). a == b) l (codes "GET ")) (sym whole) ∙ is)

quick_get : (role : Role) (tail target : List ℕ) → kind_of role (71 ∷ tail) target ≡ Quick
quick_get Scheduler tail target = refl
quick_get Server tail target = refl

-- the head of a plain stop asks for what waits for nobody, and has no body
pub plain_says : (role : Role) (stop : List ℕ) (head : Head) → is_plain stop ≡ true
    → FindsOpening stop (Some head)
    → (kind_of role head.method head.target ≡ Quick) × (head.body_len ≡ 0)
unfolding is_plain
plain_says role stop head plain (h, x) =
    let reads = x.announces.opens.reads in
    let rest = drop head.len stop in
    let begins = and_left (starts_with (λ (a b : ℕ). a == b) stop (codes "GET ")) (not (has_length true stop)) plain in
    let none = not_so (has_length true stop)
    (and_right (starts_with (λ (a b : ℕ). a == b) stop (codes "GET ")) (not (has_length true stop)) plain) in
    let get = method_of h rest reads.0.method.0
    (ap (λ l. starts_with (λ (a b : ℕ). a == b) l (codes "GET ")) (sym reads.1) ∙ begins) in (
      ap (λ m. kind_of role m head.target) (x.method ∙ get.1) ∙ quick_get role get.0 head.target,
      no_body h.fields (print_end h.last ++ rest) head.body_len
          (section_of h rest (ap (has_length true) (sym reads.1) ∙ none)) x.announces.body,
    )
