-- A number of events, read.
use Rattle.std.proofs.Common.{◌≡◌, ℕ, ◌^◌, ◌<◌, ◌≤◌, ◌&&◌, nat_lt, nat_le, Bool, true, false, cond, List}
use Rattle.std.proofs.Common.{Option, Some, None, Result, Ok, Err, refl, sym, ap, ◌∙◌, arith}
use Rattle.std.specs.Str.Parse.{digits_value, ParsesUnsigned}
use Rattle.std.proofs.lemmas.Bool.Decides.{nat_tests}
use Rattle.dist_types.specs.Addr.{is_digits, is_plain}
use Rattle.dist_types.proofs.AddrLemmas.{given, number_read}
use Rattle.command_line.specs.Asked.{events_in}

-- where it is not over the most
abbrev pub within : Option ℕ → Option ℕ
within None = None
within (Some n) = cond (nat_le n 100000) (Some n) None

plain_digits : (text : List ℕ) → is_plain text ≡ true → is_digits text ≡ true
plain_digits text h = grind (arith, nat_tests)

-- what is over 2 ^ 64 is over the most
within_word : (n : ℕ) → within (cond (nat_lt n (2 ^ 64)) (Some n) None) ≡ cond (nat_le n 100000) (Some n) None
within_word n = by_test (nat_lt n (2 ^ 64)) refl
  where
    large : nat_lt n (2 ^ 64) ≡ false → nat_le n 100000 ≡ false
    large h = grind (arith, nat_tests)

    by_test : (b : Bool) → nat_lt n (2 ^ 64) ≡ b → within (cond b (Some n) None) ≡ cond (nat_le n 100000)
        (Some n) None
    by_test true e = refl
    by_test false e = sym (ap (λ b. cond b (Some n) None) (large e))

-- what was read of such digits is the number of events that they say
pub events_read : {E : Type 0} (text : List ℕ) (r : Result ℕ E) → is_plain text ≡ true
    → ParsesUnsigned 64 10 text r → within (given r) ≡ events_in text
unfolding events_in
events_read text r h p =
    ap within (number_read 64 text r (plain_digits text h) p) ∙ within_word (digits_value 10 text)
    ∙ sym (ap (λ b. cond (b && nat_le (digits_value 10 text) 100000) (Some (digits_value 10 text)) None) h)

-- other texts say none
pub not_plain : (text : List ℕ) → is_plain text ≡ false → events_in text ≡ None
unfolding events_in
not_plain text h = rw h refl
