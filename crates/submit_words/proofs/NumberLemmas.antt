-- A number in words, read.
use Rattle.std.proofs.Common.{◌≡◌, ℕ, ◌^◌, ◌<◌, nat_lt, true, false, cond, List, length, Option, Some, None, Result}
use Rattle.std.proofs.Common.{Ok, Err, refl, sym, ◌∙◌, arith, rules}
use Rattle.std.specs.List.{list_all}
use Rattle.std.specs.Char.{is_ascii_digit}
use Rattle.std.specs.Result.{OkIff}
use Rattle.std.specs.Str.Parse.{digits_value, ParsesUnsigned}
use Rattle.std.proofs.lemmas.Bool.Decides.{nat_tests}
use Rattle.std.proofs.lemmas.Str.Parse.{IsNumeralModel, numerals_by_value, parse_digits}
use Rattle.submit_words.specs.Words.{is_plain, plain_in}

-- the texts of digits, as `parse` reads them
digits : IsNumeralModel (λ ds. list_all is_ascii_digit ds ≡ true) (digits_value 10)
digits = numerals_by_value _ (search rules)

-- what a call that read the text gave
abbrev pub given : {A E : Type 0} → Result A E → Option A
given (Ok x) = Some x
given (Err e) = None

from_ok_iff : {E : Type 0} (r : Result ℕ E) (l n bound : ℕ) → OkIff r ((0 < l) × (n < bound)) n → 0 < l
    → given r ≡ cond (nat_lt n bound) (Some n) None
from_ok_iff (Ok x) l n bound p long = let below = p.0.1 in let same = p.1 in grind (arith, nat_tests)
from_ok_iff (Err e) l n bound p long =
    let refuse : n < bound → ⊥ = λ lt. p (long, lt) in grind (arith, nat_tests, refuse)

digit_parts : (text : List ℕ) → is_plain text ≡ true → (0 < length text) × (list_all is_ascii_digit text ≡ true)
digit_parts text h = grind (arith, nat_tests)

-- what was read of such digits is the number that they say
pub plain_read : {E : Type 0} (text : List ℕ) (r : Result ℕ E) → is_plain text ≡ true
    → ParsesUnsigned 64 10 text r → given r ≡ plain_in text
unfolding plain_in
plain_read text r h p =
    let parts = digit_parts text h in
    from_ok_iff r (length text) (digits_value 10 text) (2 ^ 64) (parse_digits digits 64 text r p parts.1) parts.0
    ∙ sym (rw h refl)

-- other texts say none
pub not_plain : (text : List ℕ) → is_plain text ≡ false → plain_in text ≡ None
unfolding plain_in
not_plain text h = rw h refl
