-- Counting, one by one.
use Rattle.std.proofs.Common.{◌≡◌, ℕ, ◌+◌, ◌≤◌, Bool, true, false, cond, List, [], ◌∷◌, ◌++◌, take, ap, ◌∙◌}
use Rattle.std.proofs.Common.{arith}
use Rattle.std.specs.Prelude.{count_by}
use Rattle.std.proofs.lemmas.List.Sums.{sum_by_push}

pub count_more : {X : Type 0} (p : X → Bool) (xs : List X) (i : ℕ) (x : X)
    → take (i + 1) xs ≡ take i xs ++ x ∷ []
    → count_by p (take (i + 1) xs) ≡ count_by p (take i xs) + cond (p x) 1 0
count_more p xs i x more = ap (count_by p) more ∙ sum_by_push (λ y. cond (p y) 1 0) (take i xs) x

pub at_most_one_more : (count i : ℕ) (b : Bool) (new : ℕ) → new ≡ count + cond b 1 0 → count ≤ i → new ≤ i + 1
at_most_one_more count i true new is low = omega (arith, is, low)
at_most_one_more count i false new is low = omega (arith, is, low)
