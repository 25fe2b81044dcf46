-- What is said of visible bytes.
use Rattle.std.proofs.Common.{◌≡◌, ℕ, ◌<◌, Bool, true, false, ◌&&◌, List, [], ◌∷◌, refl, arith}
use Rattle.std.specs.List.{list_all}
use Rattle.std.specs.Str.{IsAscii, IsUtf8}
use Rattle.std.proofs.lemmas.Bool.Decides.{nat_tests}
use Rattle.std.proofs.lemmas.Str.{IsUtf8-from_ascii}
use Rattle.std.proofs.lemmas.Str.Ascii.{IsAscii-nil, IsAscii-cons}
use Rattle.farm_script.specs.Words.{is_visible}

pub both : (a b : Bool) → (a && b) ≡ true → (a ≡ true) × (b ≡ true)
both true true e = (refl, refl)
both true false e = absurd cc
both false b e = absurd cc

visible_below : (c : ℕ) → is_visible c ≡ true → c < 128
visible_below c e = grind (arith, nat_tests)

pub IsAscii-visible : (t : List ℕ) → list_all is_visible t ≡ true → IsAscii t
IsAscii-visible [] e = IsAscii-nil
IsAscii-visible (c ∷ cs) e =
    let p = both (is_visible c) (list_all is_visible cs) e in
    IsAscii-cons c cs (visible_below c p.0) (IsAscii-visible cs p.1)

pub IsUtf8-visible : (t : List ℕ) → list_all is_visible t ≡ true → IsUtf8 t
IsUtf8-visible t e = IsUtf8-from_ascii t (IsAscii-visible t e)
