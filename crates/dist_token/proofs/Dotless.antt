-- A text in base64url holds no dot.
use Rattle.std.proofs.Common.{◌≡◌, ℕ, ◌+◌, ◌*◌, ◌/◌, ◌%◌, List, [], ◌∷◌, ◌++◌, Bool, true, false, not, refl}
use Rattle.std.proofs.Common.{ap, append-nil, inl, inr}
use Rattle.std.proofs.lemmas.Bool.{cases_lt}
use Rattle.std.proofs.lemmas.List.{get_or_past}
use Rattle.std.specs.Prelude.{◌==◌, slice_index}
use Rattle.std.specs.List.{All, AllByRecursion}
use Rattle.std.proofs.lemmas.List.Elements.{All-from_recursion}
use Rattle.std.proofs.lemmas.List.Splits.{slice_split_none, slice_split_at}
use Rattle.base64.proofs.Tables.{all_below_at}
use Rattle.base64.specs.Rfc4648.{encode_symbols}
use Rattle.base64.specs.Engines.{url_safe_no_pad}
use Rattle.dist_token.specs.Dots.{dot_parts}
use Rattle.dist_token.specs.Token.{encoded}

abbrev is_dot : ℕ → Bool
is_dot byte = byte == 46

abbrev symbols : List ℕ
symbols = url_safe_no_pad.encode_table

abbrev IsNoDot : ℕ → Type 0
IsNoDot byte = is_dot byte ≡ false

false_from_not : (b : Bool) → not b ≡ true → b ≡ false
false_from_not true e = cc
false_from_not false e = refl

-- past the table the symbol is 0
symbol : (i : ℕ) → IsNoDot (slice_index symbols i)
symbol i = elim (cases_lt i 64) [
  | inl lt ↦ false_from_not _ (all_below_at (λ k. not (is_dot (slice_index symbols k))) 64 i refl lt)
  | inr ge ↦ ap is_dot (get_or_past symbols i 0 ge)
]

free : (m : List ℕ) → AllByRecursion IsNoDot (encode_symbols symbols m)
unfolding encode_symbols
free [] = tt
free (a ∷ []) = (symbol (a / 4), (symbol (a % 4 * 16), tt))
free (a ∷ b ∷ []) = (symbol (a / 4), (symbol (a % 4 * 16 + b / 16), (symbol (b % 16 * 4), tt)))
free (a ∷ b ∷ c ∷ rest) = (
  symbol (a / 4),
  (
    symbol (a % 4 * 16 + b / 16),
    (symbol (b % 16 * 4 + c / 64), (symbol (c % 64), free rest)),
  ),
)

no_dot : (bytes : List ℕ) → All IsNoDot (encoded bytes)
unfolding encoded
no_dot bytes = rw append-nil (All-from_recursion IsNoDot (encode_symbols symbols bytes) (free bytes))

pub parts_of_last : (bytes : List ℕ) → dot_parts (encoded bytes) ≡ encoded bytes ∷ []
unfolding dot_parts
parts_of_last bytes = slice_split_none is_dot (encoded bytes) (no_dot bytes)

pub parts_of_more : (bytes rest : List ℕ) → dot_parts (encoded bytes ++ 46 ∷ rest) ≡ encoded bytes ∷ dot_parts
    rest
unfolding dot_parts
parts_of_more bytes rest = slice_split_at is_dot (encoded bytes) 46 rest (no_dot bytes) refl
