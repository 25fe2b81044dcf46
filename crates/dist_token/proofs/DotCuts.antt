-- What cutting a text at its dots gives.
use Rattle.std.proofs.Common.{◌≡◌, ℕ, ◌+◌, ◌<◌, List, [], ◌∷◌, ◌++◌, length, take, refl, ap, sym, ◌∙◌, ap₂}
use Rattle.std.proofs.Common.{arith, append_assoc, length-append, Bool, Option, Some, None, Bor, ne_eqb, lit<}
use Rattle.std.specs.List.{slice_split}
use Rattle.std.specs.Prelude.{◌==◌}
use Rattle.std.proofs.lemmas.List.Splits.{slice_split_first, slice_split_none, length-slice_split}
use Rattle.std.proofs.lemmas.Str.Pattern.{IsSplitOnceResult, split_parts, split_once_first}
use Rattle.std.proofs.lemmas.Grind.{common_steps}
use Rattle.std.specs.Option.{MatchOption}
use Rattle.std.proofs.lemmas.List.{take_at}
use Rattle.dist_token.specs.Dots.{dot_parts, IsCut}
use Rattle.dist_token.specs.Verdict.{three}
use Rattle.dist_token.specs.Token.{signed_text}

abbrev is_dot : ℕ → Bool
is_dot byte = byte == 46

-- what `split_once` gives
pub cut_at_dot : (text : List ℕ) (r : Option (Bor (List ℕ) × Bor (List ℕ))) → IsSplitOnceResult 46 text r
    → MatchOption r (dot_parts text ≡ text ∷ []) (λ x. IsCut text x.0.now x.1.now)
unfolding dot_parts
cut_at_dot text None h =
    let free = split_parts 46 text None h (lit< tt) in
    slice_split_none is_dot text (λ k d l. ne_eqb _ 46 (λ e. free k l (grind (arith, common_steps))))
cut_at_dot text (Some x) h =
    let at = split_once_first 46 text (Some x) h (lit< tt) in
    record {
      parts = slice_split_first is_dot text 0 at.0 ∙ ap₂ (λ a b. a ∷ slice_split is_dot b) (sym at.1)
          (sym at.2);
      whole = (split_parts 46 text (Some x) h (lit< tt)).0;
    }

more : (h c m : List ℕ) (rest : List (List ℕ)) → 0 < length rest → three (h ∷ c ∷ m ∷ rest) ≡ None
more h c m [] l = absurd (omega arith)
more h c m (x ∷ xs) l = refl

-- a text always has a part, so one after the third is a fourth
pub three_and_more : (h c m s : List ℕ) → three (h ∷ c ∷ m ∷ dot_parts s) ≡ None
unfolding dot_parts
three_and_more h c m s = more h c m (dot_parts s) (omega (arith, length-slice_split is_dot s))

pub take_signed : (h c m rest text : List ℕ) → text ≡ h ++ 46 ∷ rest → rest ≡ c ++ 46 ∷ m
    → take (length h + 1 + length c) text ≡ signed_text h c
take_signed h c m rest text e f =
    let whole : text ≡ signed_text h c ++ 46 ∷ m = e ∙ ap (λ r. h ++ 46 ∷ r) f
    ∙ sym (append_assoc h (46 ∷ c) (46 ∷ m)) in
    ap (take (length h + 1 + length c)) whole ∙ take_at (signed_text h c) (46 ∷ m) (length h + 1 + length c)
    (omega (arith, length-append h (46 ∷ c)))
