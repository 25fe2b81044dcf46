-- A number of bits, read and refused.
use Rattle.std.proofs.Common.{◌≡◌, ℕ, ◌^◌, ◌<◌, ◌≤◌, ◌&&◌, Bool, true, false, cond, List, length, Some, None}
use Rattle.std.proofs.Common.{refl, arith, rules}
use Rattle.std.specs.Prelude.{nat_lt, if◌then◌else◌}
use Rattle.std.specs.List.{list_all}
use Rattle.std.specs.Char.{is_ascii_digit}
use Rattle.std.specs.Str.Parse.{IsNumeral, without_leading_plus, digits_value}
use Rattle.std.proofs.lemmas.Bool.Decides.{nat_tests}
use Rattle.std.proofs.lemmas.Str.Parse.{IsNumeralModel, numerals_by_value}
use Rattle.dist_types.specs.Addr.{is_digits}
use Rattle.command_line.specs.Asked.{bits_in, is_length}

-- the texts of digits, as `parse` reads them
digits : IsNumeralModel (λ ds. list_all is_ascii_digit ds ≡ true) (digits_value 10)
digits = numerals_by_value _ (search rules)

both : (a b : Bool) → (a && b) ≡ true → (a ≡ true) × (b ≡ true)
both true b h = (refl, h)
both false b h = absurd cc

-- digits that are a number of that size say it where it is a length
pub length_read : (text : List ℕ) (n : ℕ) → IsNumeral 10 (without_leading_plus text)
    × (digits_value 10 (without_leading_plus text) < 2 ^ 64)
    → n ≡ digits_value 10 (without_leading_plus text) → bits_in text ≡ (if is_length n then Some n else None)
unfolding bits_in
length_read text n is e =
    let ds = without_leading_plus text in
    rw (e, less 0 (length ds) is.0.0, digits.from ds is.0.1) refl
  where
    less : (a b : ℕ) → a < b → nat_lt a b ≡ true
    less a b h = grind (arith, nat_tests)

-- what is no number of that size says no length
pub length_refused : (text : List ℕ)
    → ¬ (IsNumeral 10 (without_leading_plus text) × (digits_value 10 (without_leading_plus text) < 2 ^ 64))
    → bits_in text ≡ None
unfolding bits_in
length_refused text none =
    by_test (is_digits (without_leading_plus text) && is_length (digits_value 10 (without_leading_plus text)))
    refl
  where
    less : (a b : ℕ) → nat_lt a b ≡ true → a < b
    less a b h = grind (arith, nat_tests)

    short : (n : ℕ) → is_length n ≡ true → n < 2 ^ 64
    short n h = omega (arith, at_most n h)
      where
        at_most : (n : ℕ) → is_length n ≡ true → n ≤ 4096
        at_most n h = grind (arith, nat_tests)

    by_test : (b : Bool) → (is_digits (without_leading_plus text)
        && is_length (digits_value 10 (without_leading_plus text))) ≡ b
        → cond b (Some (digits_value 10 (without_leading_plus text))) None ≡ None
    by_test false e = refl
    by_test true e =
        let ds = without_leading_plus text in
        let parts = both (is_digits ds) (is_length (digits_value 10 ds)) e in
        let digit = both (nat_lt 0 (length ds)) (list_all is_ascii_digit ds) parts.0 in
        absurd (none ((less 0 (length ds) digit.0, digits.to ds digit.1), short (digits_value 10 ds) parts.1))
