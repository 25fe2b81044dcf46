-- What a field reads is spelled so, and what is spelled so is read.
use Rattle.std.proofs.Common.{◌≡◌, ◌≢◌, ℕ, ◌+◌, ◌-◌, ◌*◌, ◌^◌, ◌<◌, ◌≤◌, ◌==◌, ◌⊎◌, Bool, true, false, ◌&&◌}
use Rattle.std.proofs.Common.{◌||◌, cond, nat_eq, nat_lt, nat_le, List, [], ◌∷◌, length, get_or, Option, Some}
use Rattle.std.proofs.Common.{None, Result, Ok, Err, codes, refl, sym, ap, subst, ◌∙◌, inl, inr, arith, lit<}
use Rattle.std.proofs.Common.{rules, suc}
use Rattle.std.specs.Prelude.{ℤ, pos, negsuc}
use Rattle.std.specs.Str.{is_utf8, IsUtf8}
use Rattle.std.proofs.lemmas.Str.{is_utf8-from_IsUtf8, IsUtf8-from_is_utf8}
use Rattle.std.specs.List.{list_all}
use Rattle.std.specs.Char.{is_ascii_digit}
use Rattle.std.specs.Str.{all_ascii_digits}
use Rattle.std.specs.Fmt.{decimal}
use Rattle.std.specs.Cmp.Lexicographic.{pointwise}
use Rattle.std.proofs.lemmas.Bool.{eqb-false, ne_eqb, ltb-true, ltb-false, lt-ltb, leb-true, le-leb, cases_lt}
use Rattle.std.proofs.lemmas.Bool.Decides.{nat_tests}
use Rattle.std.proofs.lemmas.Option.{cond_some, same_Some}
use Rattle.std.proofs.lemmas.Slice.Eq.{bytes_eq-Decides}
use Rattle.std.proofs.lemmas.Str.Parse.{IsNumeralModel, numerals_by_fold, tells_all_ascii_digits}
use Rattle.std.proofs.lemmas.Fmt.{decimal_nonempty, length-decimal-le, first_decimal, digits_decimal}
use Rattle.std.proofs.lemmas.Fmt.{digits_value-decimal, decimal-digits_value}
use Rattle.hex.specs.Hex.{decode_of}
use Rattle.dist_types.specs.Addr.{◌>>=◌, addr_in, is_scoped}
use Rattle.dist_types.specs.declared.addr.Addr.{Addr}
use Rattle.dist_types.proofs.AddrLemmas.{bind_some, addr_of, addr_is, scoped_of, scoped_is, scoped_none}
use Rattle.line_program.proofs.FirstFaultyLemmas.{choice}
use Rattle.farm_script.specs.Words.{is_visible}
use Rattle.farm_script.specs.declared.lines.Scopes.{Scopes}
use Rattle.farm_script.specs.declared.lines.Scopes.TheVariants.{Refused, Taken}
use Rattle.farm_script.specs.Fields.{append_digit, digits_on, number_at, below_zero, from_zero, code_at}
use Rattle.farm_script.specs.Fields.{addr_at, any_addr_at, nowhere, host_at, is_token, token_at, hex_at}
use Rattle.farm_script.specs.Fields.{ok_of, as_key, key_at, as_name, name_at}
use Rattle.farm_script.specs.Grammar.{IsNumber, IsCode, IsAddrWord, IsHost, IsToken, IsHex, IsKey, IsName}
use Rattle.farm_script.proofs.HexLemmas.{decoded_lack}
use Rattle.farm_script.proofs.VisibleLemmas.{both}
use Rattle.farm_script.proofs.WordLemmas.{guard_off, IsReader, Lacks, visible_lacks}

-- the number that digits spell behind n
abbrev pub value_on : ℕ → List ℕ → ℕ
value_on n [] = n
value_on n (c ∷ cs) = value_on (n * 10 + (c - 48)) cs

-- ---- numbers

own : IsNumeralModel (λ ds. all_ascii_digits ds ≡ true) (value_on 0)
own = numerals_by_fold _ tells_all_ascii_digits value_on (search rules)

value_le : (n : ℕ) (t : List ℕ) → n ≤ value_on n t
value_le n [] = omega arith
value_le n (c ∷ cs) = omega (arith, value_le (n * 10 + (c - 48)) cs)

digits_sound : (n : ℕ) (t : List ℕ) (m : ℕ) → n < 2 ^ 64 → digits_on n t ≡ Some m
    → (all_ascii_digits t ≡ true) × (m ≡ value_on n t) × (m < 2 ^ 64)
unfolding digits_on
digits_sound n [] m lt e = (refl, sym (same_Some n m e), subst (λ (k : ℕ). k < 2 ^ 64) (same_Some n m e) lt)
digits_sound n (c ∷ cs) m lt e =
    let a = bind_some (append_digit n c) (λ k. digits_on k cs) m e in
    let b = cond_some (is_ascii_digit c && nat_lt (n * 10 + (c - 48)) 18446744073709551616)
    (n * 10 + (c - 48)) a.0 a.1 in
    let p = both (is_ascii_digit c) (nat_lt (n * 10 + (c - 48)) 18446744073709551616) b.0 in
    let small : n * 10 + (c - 48) < 2 ^ 64 = ltb-true (n * 10 + (c - 48)) 18446744073709551616 p.1 in
    let r = digits_sound a.0 cs m (subst (λ (k : ℕ). k < 2 ^ 64) b.1 small) a.2 in
    (rw (p.0, r.0) refl, r.1 ∙ ap (λ (k : ℕ). value_on k cs) (sym b.1), r.2)

digits_complete : (n : ℕ) (t : List ℕ) → all_ascii_digits t ≡ true → value_on n t < 2 ^ 64
    → digits_on n t ≡ Some (value_on n t)
unfolding digits_on
digits_complete n [] e lt = refl
digits_complete n (c ∷ cs) e lt =
    let p = both (is_ascii_digit c) (all_ascii_digits cs) e in
    let small : nat_lt (n * 10 + (c - 48)) 18446744073709551616 ≡ true =
    lt-ltb (n * 10 + (c - 48)) 18446744073709551616 (omega (arith, value_le (n * 10 + (c - 48)) cs)) in
    let one : append_digit n c ≡ Some (n * 10 + (c - 48)) = rw (p.0, small) refl in
    ap (λ (o : Option ℕ). o >>= λ k. digits_on k cs) one ∙ digits_complete (n * 10 + (c - 48)) cs p.1 lt

neither : (a b : Bool) → (a || b) ≡ false → (a ≡ false) × (b ≡ false)
neither true b e = absurd cc
neither false b e = (refl, e)

or_off : (a b : Bool) → a ≡ false → b ≡ false → (a || b) ≡ false
or_off true b e f = absurd cc
or_off false b e f = f

not_both : (a b : Bool) → (a && b) ≡ false → (a ≡ false) ⊎ (b ≡ false)
not_both true b e = inr e
not_both false b e = inl refl

and_off : (a b : Bool) → (a ≡ true → b ≡ false) → (a && b) ≡ false
and_off true b h = h refl
and_off false b h = refl

pub number_sound : (t : List ℕ) (n : ℕ) → number_at t ≡ Some n → IsNumber t n
number_sound t n e =
    let g = guard_off ((length t == 0) || (nat_lt 1 (length t) && (get_or t 0 0 == 48))) (digits_on 0 t) n e
    in
    let off = neither (length t == 0) (nat_lt 1 (length t) && (get_or t 0 0 == 48)) g.0 in
    let none : (length t == 0) ≡ false = off.0 in
    let some : 0 < length t = grind (arith, nat_tests) in
    let lead : get_or t 0 0 ≡ 48 → length t ≡ 1 = λ zero_first.
    elim (not_both (nat_lt 1 (length t)) (get_or t 0 0 == 48) off.1) [
      | inl short ↦ omega (arith, ltb-false 1 (length t) short)
      | inr other ↦ absurd (eqb-false (get_or t 0 0) 48 other zero_first)
    ] in
    let d = digits_sound 0 t n (lit< tt) g.1 in
    let bound : value_on 0 t < 2 ^ 64 = subst (λ (k : ℕ). k < 2 ^ 64) d.1 d.2 in
    (sym (ap decimal d.1 ∙ decimal-digits_value own t d.0 some lead bound), d.2)

number_of : (t : List ℕ) (n : ℕ) → all_ascii_digits t ≡ true → value_on 0 t ≡ n → n < 2 ^ 64 → 0 < length t
    → (1 < length t → get_or t 0 0 ≢ 48) → number_at t ≡ Some n
number_of t n digits is lt some lead =
    let none : (length t == 0) ≡ false = ne_eqb (length t) 0 (λ same. absurd (omega arith)) in
    let first : (nat_lt 1 (length t) && (get_or t 0 0 == 48)) ≡ false = and_off (nat_lt 1 (length t))
    (get_or t 0 0 == 48) (λ long. ne_eqb (get_or t 0 0) 48 (lead (ltb-true 1 (length t) long))) in
    let all : digits_on 0 t ≡ Some n = digits_complete 0 t digits (subst (λ (k : ℕ). k < 2 ^ 64) (sym is) lt)
    ∙ ap (λ (k : ℕ). Some k) is in
    ap (λ (v : Bool). cond v None (digits_on 0 t))
    (or_off (length t == 0) (nat_lt 1 (length t) && (get_or t 0 0 == 48)) none first) ∙ all

long_first : (n : ℕ) → n < 2 ^ 64 → 1 < length (decimal n) → get_or (decimal n) 0 0 ≢ 48
long_first n lt long same = elim (cases_lt 0 n) [
  | inl some ↦ omega (arith, first_decimal n some lt)
  | inr none ↦ omega (arith, length-decimal-le 1 n (lit< tt) (omega arith) lt)
]

pub number_complete : (t : List ℕ) (n : ℕ) → IsNumber t n → number_at t ≡ Some n
number_complete t n is =
    ap number_at is.0 ∙ number_of (decimal n) n (digits_decimal own n is.1)
    (digits_value-decimal own n is.1) is.1 (decimal_nonempty n is.1) (long_first n is.1)

pub number_law : IsReader number_at IsNumber
number_law = record { sound = number_sound; complete = number_complete }

-- ---- tokens and bytes

pub token_law : IsReader token_at IsToken
token_law = record {
  sound = λ t x e.
      let g = cond_some (is_token t) t x e in
      let p = both (nat_le 1 (length t) && nat_le (length t) 1024) (list_all is_visible t) g.0 in
      let q = both (nat_le 1 (length t)) (nat_le (length t) 1024) p.0 in
      record {
        same = sym g.1;
        some = leb-true 1 (length t) q.0;
        short = leb-true (length t) 1024 q.1;
        visible = p.1;
      };
  complete = λ t x is.
      rw (le-leb 1 (length t) is.some, le-leb (length t) 1024 is.short, is.visible, is.same) refl;
}

cond_true : {A : Type 0} (b : Bool) (o : Option A) (y : A) → cond b o None ≡ Some y → (b ≡ true)
    × (o ≡ Some y)
cond_true true o y e = (refl, e)
cond_true false o y e = absurd cc

-- which way a test went
ok_of_some : {A E : Type 0} (r : Result A E) (x : A) → ok_of r ≡ Some x → r ≡ Ok x
ok_of_some (Ok y) x e = ap (λ z. Ok z) (same_Some y x e)
ok_of_some (Err d) x e = absurd cc

hex_sound : (t bytes : List ℕ) → hex_at t ≡ Some bytes → IsHex t bytes
hex_sound t bytes e = elim
    (choice (pointwise nat_eq t (codes "-")) (Some []) (cond (length t == 0) None (ok_of (decode_of t)))
    (Some bytes) e) [
      | inl p ↦ inl ((bytes_eq-Decides t (codes "-")).0 p.0, sym (same_Some [] bytes p.1))
      | inr p ↦
          let g = guard_off (length t == 0) (ok_of (decode_of t)) bytes p.1 in
          let none : (length t == 0) ≡ false = g.0 in
          inr (grind (arith, nat_tests), ok_of_some (decode_of t) bytes g.1)
    ]

pub off_by : (b : Bool) → (b ≡ true → ⊥) → b ≡ false
off_by true h = absurd (h refl)
off_by false h = refl

dash_odd : (bytes : List ℕ) → decode_of (codes "-") ≡ Ok bytes → ⊥
dash_odd bytes e = cc

no_dash : (t bytes : List ℕ) → decode_of t ≡ Ok bytes → pointwise nat_eq t (codes "-") ≡ false
no_dash t bytes e = off_by (pointwise nat_eq t (codes "-"))
    (λ on. absurd (dash_odd bytes (sym (ap decode_of ((bytes_eq-Decides t (codes "-")).0 on)) ∙ e)))

hex_complete : (t bytes : List ℕ) → IsHex t bytes → hex_at t ≡ Some bytes
hex_complete t bytes (inl p) = ap hex_at p.0 ∙ ap (λ (x : List ℕ). Some x) (sym p.1)
hex_complete t bytes (inr p) =
    let none : (length t == 0) ≡ false = ne_eqb (length t) 0 (λ same. absurd (omega (arith, p.0))) in
    rw (no_dash t bytes p.1, none, p.1) refl

pub hex_law : IsReader hex_at IsHex
hex_law = record { sound = hex_sound; complete = hex_complete }

-- ---- addresses

pub addr_law : IsReader addr_at IsAddrWord
addr_law = record {
  sound = λ t a e.
      let g = cond_true (list_all is_visible t) (addr_in t) a e in
      (g.0, addr_is t a g.1);
  complete = λ t a is. ap (λ (v : Bool). cond v (addr_in t) None) is.0 ∙ addr_of t a is.1;
}

pub addr_lacks : (t : List ℕ) (addr : Addr) → IsAddrWord t addr → Lacks t
addr_lacks t addr is = visible_lacks t is.0

pub token_lacks : (t x : List ℕ) → IsToken t x → Lacks t
token_lacks t x is = visible_lacks t is.visible

pub decimal_digits : (n : ℕ) → n < 2 ^ 64 → all_ascii_digits (decimal n) ≡ true
decimal_digits n lt = digits_decimal own n lt

digits_lack : (t : List ℕ) → all_ascii_digits t ≡ true → Lacks t
digits_lack [] e = tt
digits_lack (b ∷ bs) e =
    let p = both (is_ascii_digit b) (all_ascii_digits bs) e in
    let digit : is_ascii_digit b ≡ true = p.0 in
    let low : 48 ≤ b = grind (arith, nat_tests) in
    (ne_eqb b 32 (λ same. absurd (omega arith)), digits_lack bs p.1)

pub decimal_lacks : (n : ℕ) → n < 2 ^ 64 → Lacks (decimal n)
decimal_lacks n lt = digits_lack (decimal n) (digits_decimal own n lt)

-- ---- exit codes

pub cond_is : {A : Type 0} (b : Bool) (x y : A) → b ≡ true → cond b x y ≡ x
cond_is true x y e = refl
cond_is false x y e = absurd cc

pub cond_off : {A : Type 0} (b : Bool) (x y : A) → b ≡ false → cond b x y ≡ y
cond_off true x y e = absurd cc
cond_off false x y e = refl

below_sound : (n : ℕ) (z : ℤ) → below_zero n ≡ Some z → (m : ℕ) × (n ≡ suc m) × (m < 2 ^ 31) × (z ≡ negsuc m)
below_sound n z e =
    let g = cond_some (nat_le 1 n && nat_le n 2147483648) (negsuc (n - 1)) z e in
    let p = both (nat_le 1 n) (nat_le n 2147483648) g.0 in
    let low : 1 ≤ n = leb-true 1 n p.0 in
    let high : n ≤ 2147483648 = leb-true n 2147483648 p.1 in
    (n - 1, omega arith, omega arith, sym g.1)

code_of : (c : ℕ) (cs : List ℕ) (z : ℤ) → code_at (c ∷ cs) ≡ Some z → IsCode (c ∷ cs) z
unfolding code_at
code_of c cs z e = elim (choice (c == 45) (number_at cs >>= below_zero) (number_at (c ∷ cs) >>= from_zero)
    (Some z) e) [
      | inl p ↦
          let a = bind_some (number_at cs) below_zero z p.1 in
          let b = below_sound a.0 z a.2 in
          let is = number_sound cs a.0 a.1 in
          let dash : c ≡ 45 = grind (arith, nat_tests, p.0) in
          let text : cs ≡ decimal (suc b.0) = is.0 ∙ ap decimal b.1 in
          let own_code : IsCode (c ∷ cs) (negsuc b.0) = (cc, b.2) in
          subst (IsCode (c ∷ cs)) (sym b.3) own_code
      | inr p ↦
          let a = bind_some (number_at (c ∷ cs)) from_zero z p.1 in
          let g = cond_some (nat_le a.0 2147483647) (pos a.0) z a.2 in
          let high : a.0 ≤ 2147483647 = leb-true a.0 2147483647 g.0 in
          let is = number_sound (c ∷ cs) a.0 a.1 in
          let own_code : IsCode (c ∷ cs) (pos a.0) = (is.0, omega arith) in
          subst (IsCode (c ∷ cs)) g.1 own_code
    ]

code_sound : (t : List ℕ) (z : ℤ) → code_at t ≡ Some z → IsCode t z
unfolding code_at
code_sound [] z e = absurd cc
code_sound (c ∷ cs) z e = code_of c cs z e

-- digits do not begin with a dash
digits_code : (ds : List ℕ) → 0 < length ds → all_ascii_digits ds ≡ true
    → code_at ds ≡ (number_at ds >>= from_zero)
unfolding code_at
digits_code [] some e = absurd (omega arith)
digits_code (d ∷ ds) some e =
    let p = both (is_ascii_digit d) (all_ascii_digits ds) e in
    let digit : is_ascii_digit d ≡ true = p.0 in
    let low : 48 ≤ d = grind (arith, nat_tests) in
    cond_off (d == 45) (number_at ds >>= below_zero) (number_at (d ∷ ds) >>= from_zero)
    (ne_eqb d 45 (λ same. absurd (omega arith)))

code_complete : (t : List ℕ) (z : ℤ) → IsCode t z → code_at t ≡ Some z
unfolding code_at
code_complete t (pos n) is =
    let fits : n < 2 ^ 64 = omega (arith, is.1) in
    let high : n ≤ 2147483647 = omega (arith, is.1) in
    ap code_at is.0 ∙ digits_code (decimal n) (decimal_nonempty n fits) (digits_decimal own n fits)
    ∙ ap (λ (o : Option ℕ). o >>= from_zero) (number_complete (decimal n) n (refl, fits))
    ∙ cond_is (nat_le n 2147483647) (Some (pos n)) None (le-leb n 2147483647 high)
code_complete t (negsuc n) is =
    let fits : suc n < 2 ^ 64 = omega (arith, is.1) in
    let low : 1 ≤ suc n = omega arith in
    let high : suc n ≤ 2147483648 = omega (arith, is.1) in
    let less : suc n - 1 ≡ n = omega arith in
    ap code_at is.0 ∙ ap (λ (o : Option ℕ). o >>= below_zero)
    (number_complete (decimal (suc n)) (suc n) (refl, fits))
    ∙ rw (le-leb 1 (suc n) low, le-leb (suc n) 2147483648 high, less) refl

pub code_law : IsReader code_at IsCode
code_law = record { sound = code_sound; complete = code_complete }

pub code_lacks : (t : List ℕ) (z : ℤ) → IsCode t z → Lacks t
code_lacks t (pos n) is = subst Lacks (sym is.0) (decimal_lacks n (omega (arith, is.1)))
code_lacks t (negsuc n) is =
    let rest : Lacks (decimal (suc n)) = decimal_lacks (suc n) (omega (arith, is.1)) in
    let all : Lacks (45 ∷ decimal (suc n)) = (refl, rest) in
    subst Lacks (sym is.0) all

-- ---- bytes have no space

pub hex_lacks : (t bytes : List ℕ) → IsHex t bytes → Lacks t
hex_lacks t bytes (inl p) = subst Lacks (sym p.0) (refl, tt)
hex_lacks t bytes (inr p) = decoded_lack t bytes p.1

-- ---- keys and names

pub key_law : IsReader key_at IsKey
key_law = record {
  sound = λ t x e.
      let a = bind_some (hex_at t) as_key x e in
      let g = cond_some (nat_le 1 (length a.0) && nat_le (length a.0) 1024) a.0 x a.2 in
      let p = both (nat_le 1 (length a.0)) (nat_le (length a.0) 1024) g.0 in (
        subst (IsHex t) g.1 (hex_sound t a.0 a.1),
        (
          subst (λ (k : List ℕ). 1 ≤ length k) g.1 (leb-true 1 (length a.0) p.0),
          subst (λ (k : List ℕ). length k ≤ 1024) g.1 (leb-true (length a.0) 1024 p.1),
        ),
      );
  complete = λ t x is.
      ap (λ (o : Option (List ℕ)). o >>= as_key) (hex_complete t x is.0)
      ∙ rw (le-leb 1 (length x) is.1.0, le-leb (length x) 1024 is.1.1) refl;
}

pub key_lacks : (t key : List ℕ) → IsKey t key → Lacks t
key_lacks t key is = hex_lacks t key is.0

pub name_law : IsReader name_at IsName
name_law = record {
  sound = λ t x e.
      let a = bind_some (hex_at t) as_name x e in
      let g = cond_some (is_utf8 a.0) a.0 x a.2 in
      (subst (IsHex t) g.1 (hex_sound t a.0 a.1), subst IsUtf8 g.1 (IsUtf8-from_is_utf8 a.0 g.0));
  complete = λ t x is.
      ap (λ (o : Option (List ℕ)). o >>= as_name) (hex_complete t x is.0) ∙ cond_is (is_utf8 x) (Some x) None
      (is_utf8-from_IsUtf8 x is.1);
}

pub name_lacks : (t name : List ℕ) → IsName t name → Lacks t
name_lacks t name is = hex_lacks t name is.0

-- ---- addresses that may have scopes

any_sound : (t : List ℕ) (a : Addr) → any_addr_at t ≡ Some a → IsHost Taken t a
any_sound t a e =
    let g = cond_true (list_all is_visible t) (cond (is_scoped t) (Some nowhere) (addr_in t)) a e in
    elim (choice (is_scoped t) (Some nowhere) (addr_in t) (Some a) g.1) [
      | inl p ↦ inr (g.0, scoped_is t p.0, sym (same_Some nowhere a p.1))
      | inr p ↦ inl (g.0, addr_is t a p.1)
    ]

any_complete : (t : List ℕ) (a : Addr) → IsHost Taken t a → any_addr_at t ≡ Some a
any_complete t a (inl is) =
    let addr : addr_in t ≡ Some a = addr_of t a is.1 in
    let off : is_scoped t ≡ false = off_by (is_scoped t)
    (λ on. let none : None ≡ Some a = sym (scoped_none t (scoped_is t on)) ∙ addr in absurd cc) in
    cond_is (list_all is_visible t) (cond (is_scoped t) (Some nowhere) (addr_in t)) None is.0
    ∙ cond_off (is_scoped t) (Some nowhere) (addr_in t) off ∙ addr
any_complete t a (inr is) =
    cond_is (list_all is_visible t) (cond (is_scoped t) (Some nowhere) (addr_in t)) None is.0
    ∙ cond_is (is_scoped t) (Some nowhere) (addr_in t) (scoped_of t is.1) ∙ ap (λ (x : Addr). Some x)
    (sym is.2)

pub host_law : (scopes : Scopes) → IsReader (host_at scopes) (IsHost scopes)
host_law Refused = addr_law
host_law Taken = record { sound = any_sound; complete = any_complete }

pub host_lacks : (scopes : Scopes) (t : List ℕ) (a : Addr) → IsHost scopes t a → Lacks t
host_lacks Refused t a is = addr_lacks t a is
host_lacks Taken t a (inl is) = addr_lacks t a is
host_lacks Taken t a (inr is) = visible_lacks t is.0

-- an address without a scope is one where scopes are taken
pub host_taken : (scopes : Scopes) (t : List ℕ) (a : Addr) → IsHost scopes t a → IsHost Taken t a
host_taken Refused t a is = inl is
host_taken Taken t a is = is
