-- One key more of a table, and a test of what stands behind references.
use Rattle.std.proofs.Common.{◌≡◌, ℕ, List, [], ◌∷◌, Bool, true, false, Option, Some, map, Bor}
use Rattle.std.proofs.Common.{refl, ap, ◌||◌}
use Rattle.std.specs.List.{list_any}
use Rattle.std.specs.Str.{bytes_eq}
use Rattle.command_line.specs.Unknown.{lesser, least_with}

-- a test of what stands behind references
pub any_behind : (p : List ℕ → Bool) (names : List (Bor (List ℕ)))
    → list_any (λ (name : Bor (List ℕ)). p name.now) names ≡ list_any p (map (λ name. name.now) names)
any_behind p [] = refl
any_behind p (x ∷ xs) = ap (λ b. p x.now || b) (any_behind p xs)

-- a key that is one of the names changes nothing
pub known_more : (names : List (Bor (List ℕ))) (least : Option (List ℕ)) (key : List ℕ)
    → list_any (λ (name : Bor (List ℕ)). bytes_eq name.now key) names ≡ true
    → least ≡ least_with (map (λ name. name.now) names) least key
known_more names least key one = rw (← any_behind (λ name. bytes_eq name key) names, one) refl

-- a key that is none of the names is compared
pub unknown_more : (names : List (Bor (List ℕ))) (least : Option (List ℕ)) (key : List ℕ)
    → list_any (λ (name : Bor (List ℕ)). bytes_eq name.now key) names ≡ false
    → Some (lesser key least) ≡ least_with (map (λ name. name.now) names) least key
unknown_more names least key none = rw (← any_behind (λ name. bytes_eq name key) names, none) refl
