-- A field that is printed plainly is read as it was meant.
use Rattle.std.proofs.Common.{◌≡◌, ℕ, ◌<◌, ◌≤◌, ◌&&◌, Bool, true, false, not, List, [], ◌∷◌, ◌++◌, length}
use Rattle.std.proofs.Common.{map, reverse, codes, decimal, refl, sym, ◌∙◌, arith, append_assoc, lit<}
use Rattle.std.specs.Prelude.{IsTrue, All}
use Rattle.std.specs.List.{list_all, AllByRecursion, flat_map}
use Rattle.std.specs.Char.{is_ascii_digit}
use Rattle.std.proofs.lemmas.Bool.Decides.{nat_tests}
use Rattle.std.proofs.lemmas.List.Elements.{All-nil, All-cons}
use Rattle.std.proofs.lemmas.Fmt.{digits_decimal}
use Rattle.httparse.specs.Grammar.{crlf, Field, IsField, print_field, print_section, is_token_byte}
use Rattle.httparse.specs.Grammar.{is_value_byte, is_ows, skip_ows, trim_ows, AllPass}
use Rattle.httparse.specs.Spans.{name_and_value}
use Rattle.httparse.proofs.TrimLemmas.{trim_ows_space, AllPass-reverse}
use Rattle.http_head.proofs.FieldLemmas.{digits}

-- ---- tests

pub and_left : (a b : Bool) → (a && b) ≡ true → a ≡ true
and_left true b h = refl
and_left false b h = h

pub and_right : (a b : Bool) → (a && b) ≡ true → b ≡ true
and_right true b h = h
and_right false b h = absurd (cc)

pub all_pass : (test : ℕ → Bool) (xs : List ℕ) → list_all test xs ≡ true → AllPass test xs
all_pass test [] h = All-nil (λ b. IsTrue (test b))
all_pass test (x ∷ xs) h = All-cons (λ b. IsTrue (test b)) x xs (and_left (test x) (list_all test xs) h)
    (all_pass test xs (and_right (test x) (list_all test xs) h))

-- a test that is weaker passes too
pub weaker : (p q : ℕ → Bool) → ((b : ℕ) → p b ≡ true → q b ≡ true) → (xs : List ℕ) → list_all p xs ≡ true
    → list_all q xs ≡ true
weaker p q less [] h = refl
weaker p q less (x ∷ xs) h =
    let this = less x (and_left (p x) (list_all p xs) h) in
    let later = weaker p q less xs (and_right (p x) (list_all p xs) h) in
    rw (this, later) refl

digit_value : (b : ℕ) → is_ascii_digit b ≡ true → is_value_byte b ≡ true
digit_value b h = grind (arith, nat_tests)

digit_no_blank : (b : ℕ) → is_ascii_digit b ≡ true → not (is_ows b) ≡ true
digit_no_blank b h = grind (arith, nat_tests)

-- ---- lines

-- a name, a colon, a space and the value
abbrev pub line_of : List ℕ × List ℕ → Field
line_of f = record { name = f.0; raw = 32 ∷ f.1; end = crlf }

-- a field that is read as it is printed
abbrev pub IsPlain : List ℕ × List ℕ → Type 0
IsPlain f =
    (0 < length f.0) × (list_all is_token_byte f.0 ≡ true) × (list_all is_value_byte f.1 ≡ true)
    × (trim_ows (32 ∷ f.1) ≡ f.1)

line_valid : (f : List ℕ × List ℕ) → IsPlain f → IsField (line_of f)
line_valid f h = record {
  name = (h.0, all_pass is_token_byte f.0 h.1);
  raw = all_pass is_value_byte
      (32 ∷ f.1) h.2;
}

pub lines_valid : (fs : List (List ℕ × List ℕ)) → AllByRecursion IsPlain fs → All IsField (map line_of fs)
lines_valid [] h = All-nil IsField
lines_valid (f ∷ fs) h = All-cons IsField (line_of f) (map line_of fs) (line_valid f h.0) (lines_valid fs h.1)

pub lines_values : (fs : List (List ℕ × List ℕ)) → AllByRecursion IsPlain fs
    → map name_and_value (map line_of fs) ≡ fs
lines_values [] h = refl
lines_values (f ∷ fs) h = λ i. (f.0, h.0.3 i) ∷ lines_values fs h.1 i

-- fields as text, nested to the right, and what follows them
abbrev pub text_then : List (List ℕ × List ℕ) → List ℕ → List ℕ
text_then [] rest = rest
text_then (f ∷ fs) rest = f.0 ++ (58 ∷ 32 ∷ f.1 ++ (13 ∷ 10 ∷ text_then fs rest))

field_then : (a b rest : List ℕ) → (a ++ (58 ∷ 32 ∷ b) ++ (13 ∷ 10 ∷ [])) ++ rest ≡ a ++
    (58 ∷ 32 ∷ b ++ (13 ∷ 10 ∷ rest))
field_then a b rest = append_assoc (a ++ (58 ∷ 32 ∷ b)) (13 ∷ 10 ∷ []) rest ∙ append_assoc a (58 ∷ 32 ∷ b)
    (13 ∷ 10 ∷ rest)

pub section_then : (fs : List (List ℕ × List ℕ)) (rest : List ℕ)
    → print_section (map line_of fs) crlf ++ rest ≡ text_then fs (13 ∷ 10 ∷ rest)
section_then [] rest = refl
section_then (f ∷ fs) rest =
    let more = section_then fs rest in
    let later : flat_map print_field (map line_of fs) ++ (13 ∷ 10 ∷ rest) ≡ text_then fs (13 ∷ 10 ∷ rest) =
    sym (append_assoc (flat_map print_field (map line_of fs)) (13 ∷ 10 ∷ []) rest) ∙ more in
    append_assoc (print_field (line_of f) ++ flat_map print_field (map line_of fs)) (13 ∷ 10 ∷ []) rest
    ∙ append_assoc (print_field (line_of f)) (flat_map print_field (map line_of fs)) (13 ∷ 10 ∷ rest)
    ∙ field_then f.0 f.1 (flat_map print_field (map line_of fs) ++ (13 ∷ 10 ∷ rest))
    ∙ (λ i. f.0 ++ (58 ∷ 32 ∷ f.1 ++ (13 ∷ 10 ∷ later i)))

-- ---- values that are read as they are printed

no_blank : (v : List ℕ) → AllPass (λ b. not (is_ows b)) v → skip_ows v ≡ v
no_blank [] h = refl
no_blank (b ∷ v) h = let this : not (is_ows b) ≡ true = h 0 0 (omega arith) in let other : is_ows b ≡ false =
    grind (arith, nat_tests) in rw other refl

-- a value without blanks
pub whole : (v : List ℕ) → list_all (λ b. not (is_ows b)) v ≡ true → trim_ows (32 ∷ v) ≡ v
whole v h =
    let blank = all_pass (λ b. not (is_ows b)) v h in
    trim_ows_space v (no_blank v blank) (no_blank (reverse v) (AllPass-reverse (λ b. not (is_ows b)) v blank))

pub length_plain : (n : ℕ) → n ≤ 1073741824 → IsPlain (codes "Content-Length", decimal n)
unfolding is_token_byte
length_plain n low =
    let all = digits_decimal digits n (omega arith) in (
      lit< tt,
      refl,
      weaker is_ascii_digit is_value_byte digit_value (decimal n) all,
      whole (decimal n) (weaker is_ascii_digit (λ b. not (is_ows b)) digit_no_blank (decimal n) all),
    )
