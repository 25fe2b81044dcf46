-- What the types of values give of them.
use Rattle.std.proofs.Common.{◌≡◌, ℕ, suc, ◌<◌, ◌+◌, List, [], ◌∷◌, ◌++◌, length, take, get_or, refl, sym}
use Rattle.std.proofs.Common.{ap, subst, ◌∙◌, inl, inr, arith}
use Rattle.std.proofs.lemmas.List.{take_more}
use Rattle.hex.specs.Hex.{IsBytes, lower_digits}
use Rattle.hex.proofs.HexLemmas.{decode_of-encode_lower, length-encode_with}
use Rattle.run_lines.specs.Grammar.{Each, AllFit, HasHex}
use Rattle.farm_audit.specs.Fit.{EffectFits, HasLine, EntryFits}
use Rattle.farm_audit.proofs.EachLemmas.{each_both}
use Rattle.farm_entries.specs.declared.entry.Entry.{Entry}

pub numbers_are : (ns : List ℕ) → ((i : ℕ) → get_or ns i 0 < 18446744073709551616) → AllFit ns
numbers_are [] h = tt
numbers_are (n ∷ ns) h = (h 0, numbers_are ns (λ i. h (suc i)))

pub bytes_are : (bytes : List ℕ) → IsBytes bytes → HasHex bytes
bytes_are [] h = inl (refl, refl)
bytes_are (b ∷ bs) h =
    inr (omega (arith, length-encode_with lower_digits (b ∷ bs)), decode_of-encode_lower (b ∷ bs) h)

-- one element more
pub each_push : {A : Type 0} (P : A → Type 0) (xs : List A) (i : ℕ) (x y : A) → Each P (take i xs) → i < length xs
    → get_or xs i x ≡ y → P y → Each P (take (i + 1) xs)
each_push P xs i x y all lt is h =
    subst (Each P) (sym (take_more xs i x lt ∙ ap (λ z. take i xs ++ z ∷ []) is))
    (each_both P (take i xs) (y ∷ []) all (h, tt))

-- entries whose events have lines
pub entries_are : (es : List Entry) → Each HasLine es → Each EffectFits es → Each EntryFits es
entries_are [] lines effects = tt
entries_are (e ∷ es) lines effects =
    (record { event = lines.0; effect = effects.0 }, entries_are es lines.1 effects.1)
