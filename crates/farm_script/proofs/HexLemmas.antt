-- What is decoded from hex has no space.
use Rattle.std.proofs.Common.{◌≡◌, ℕ, ◌+◌, ◌%◌, ◌==◌, Bool, true, false, cond, List, [], ◌∷◌, length, Option}
use Rattle.std.proofs.Common.{Some, None, Result, Ok, Err, refl, sym, ap, ◌∙◌}
use Rattle.std.proofs.lemmas.Bool.{ne_eqb}
use Rattle.hex.specs.Hex.{◌>>=◌, decode_of, decode_pairs, pair_value, digit_or_error, hex_digit_value}
use Rattle.hex.specs.declared.error.FromHexError.{FromHexError}
use Rattle.hex.specs.declared.error.FromHexError.TheVariants.{OddLength}
use Rattle.farm_script.proofs.WordLemmas.{Lacks}

digit_other : (c : ℕ) (n : ℕ) → hex_digit_value c ≡ Some n → (c == 32) ≡ false
digit_other c n e = ne_eqb c 32 (λ same. let none : None ≡ Some n = sym (ap hex_digit_value same)
    ∙ e in absurd cc)

digit_found : (c i n : ℕ) (o : Option ℕ) → digit_or_error c i o ≡ Ok n → o ≡ Some n
digit_found c i n (Some v) e = cc
digit_found c i n None e = absurd cc

result_bind : {A B : Type 0} (r : Result A FromHexError) (f : A → Result B FromHexError) (y : B)
    → (r >>= f) ≡ Ok y → (x : A) × (r ≡ Ok x) × (f x ≡ Ok y)
result_bind (Ok x) f y e = (x, refl, e)
result_bind (Err d) f y e = absurd cc

pairs_lack : (i : ℕ) (t bytes : List ℕ) → decode_pairs i t ≡ Ok bytes → Lacks t
unfolding decode_pairs
pairs_lack i [] bytes e = tt
pairs_lack i (d ∷ []) bytes e = absurd cc
pairs_lack i (h ∷ l ∷ rest) bytes e =
    let a = result_bind (pair_value h l i) _ bytes e in
    let b = result_bind (decode_pairs (i + 2) rest) _ bytes a.2 in
    let x = result_bind (digit_or_error h i (hex_digit_value h)) _ a.0 a.1 in
    let y = result_bind (digit_or_error l (i + 1) (hex_digit_value l)) _ a.0 x.2 in (
      digit_other h x.0 (digit_found h i x.0 (hex_digit_value h) x.1),
      (
        digit_other l y.0 (digit_found l (i + 1) y.0 (hex_digit_value l) y.1),
        pairs_lack (i + 2) rest b.0 b.1,
      ),
    )

lacking : (b : Bool) (e : FromHexError) (t bytes : List ℕ) → cond b (Err e) (decode_pairs 0 t) ≡ Ok bytes
    → Lacks t
lacking true e t bytes is = absurd cc
lacking false e t bytes is = pairs_lack 0 t bytes is

pub decoded_lack : (t bytes : List ℕ) → decode_of t ≡ Ok bytes → Lacks t
decoded_lack t bytes is = lacking (length t % 2 == 1) OddLength t bytes is
