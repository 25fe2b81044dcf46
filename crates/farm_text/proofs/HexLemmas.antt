-- Hex text is text, and is put together from pieces.
use Rattle.std.proofs.Common.{◌≡◌, ℕ, zero, suc, ◌/◌, ◌%◌, ◌<◌, List, [], ◌∷◌, ◌++◌, get_or, refl, ap}
use Rattle.std.proofs.Common.{lit<}
use Rattle.std.specs.Str.{IsAscii, IsUtf8}
use Rattle.std.proofs.lemmas.Str.{IsUtf8-from_ascii}
use Rattle.hex.specs.Hex.{lower_digits, encode_with, encode_lower}
use Rattle.hex.proofs.HexLemmas.{IsAscii-encode_with}

abbrev IsLow : List ℕ → Type 0
IsLow [] = Unit {0}
IsLow (x ∷ xs) = (x < 128) × IsLow xs

low : (xs : List ℕ) (n : ℕ) → IsLow xs → get_or xs n 0 < 128
low [] n h = lit< tt
low (x ∷ xs) zero h = h.0
low (x ∷ xs) (suc n) h = low xs n h.1

digits_low : IsAscii lower_digits
digits_low n = low lower_digits n (
  lit< tt,
  (
    lit< tt,
    (
      lit< tt,
      (
        lit< tt,
        (
          lit< tt,
          (
            lit< tt,
            (
              lit< tt,
              (
                lit< tt,
                (
                  lit< tt,
                  (lit< tt, (lit< tt, (lit< tt, (lit< tt, (lit< tt, (lit< tt, (lit< tt, tt))))))),
                ),
              ),
            ),
          ),
        ),
      ),
    ),
  ),
)

pub hex_is_text : (bytes : List ℕ) → IsUtf8 (encode_lower bytes)
hex_is_text bytes = IsUtf8-from_ascii (encode_lower bytes) (IsAscii-encode_with lower_digits bytes digits_low)

pub hex-append : (xs ys : List ℕ) → encode_lower xs ++ encode_lower ys ≡ encode_lower (xs ++ ys)
unfolding encode_with
hex-append [] ys = refl
hex-append (x ∷ xs) ys =
    ap (λ (r : List ℕ). get_or lower_digits (x / 16) 0 ∷ get_or lower_digits (x % 16) 0 ∷ r)
    (hex-append xs ys)

pub hex_none : encode_lower [] ≡ []
unfolding encode_with
hex_none = refl
