-- Numbers that rise, and elements of which no two are equal: what a filter and one more do to them.
use Rattle.std.proofs.Common.{◌≢◌, ℕ, ◌<◌, List, [], ◌∷◌, ◌++◌, Bool, true, false, cond, map, filter}
use Rattle.std.specs.List.{AllByRecursion}
use Rattle.core_rules.specs.Laws.{AreRising, AreDifferent}
use Rattle.core_rules.proofs.AllLemmas.{all-append, all-filter, all-map, all-unmap}

pub rising-filter : {X : Type 0} (number : X → ℕ) (p : X → Bool) (xs : List X) → AreRising (map number xs)
    → AreRising (map number (filter p xs))
rising-filter number p [] rising = tt
rising-filter number p (x ∷ xs) rising =
    elim (p x) as (λ b. AreRising (map number (cond b (x ∷ filter p xs) (filter p xs)))) [
      | true ↦ (
        all-map (λ m. number x < m) number (filter p xs)
            (all-filter (λ y. number x < number y) (λ y. number x < number y) p (λ y h t. h) xs
            (all-unmap (λ m. number x < m) number xs rising.0)),
        rising-filter number p xs rising.1,
      )
      | false ↦ rising-filter number p xs rising.1
    ]

pub rising-push : (ns : List ℕ) (n : ℕ) → AreRising ns → AllByRecursion (λ m. m < n) ns
    → AreRising (ns ++ n ∷ [])
rising-push [] n rising below = (tt, tt)
rising-push (m ∷ ns) n rising below = (
  all-append (λ k. m < k) ns (n ∷ []) rising.0 (below.0, tt),
  rising-push ns n rising.1 below.1,
)

pub different-filter : {X Y : Type 0} (f : X → Y) (p : X → Bool) (xs : List X) → AreDifferent (map f xs)
    → AreDifferent (map f (filter p xs))
different-filter f p [] apart = tt
different-filter f p (x ∷ xs) apart =
    elim (p x) as (λ b. AreDifferent (map f (cond b (x ∷ filter p xs) (filter p xs)))) [
      | true ↦ (
        all-map (λ z. z ≢ f x) f (filter p xs)
            (all-filter (λ y. f y ≢ f x) (λ y. f y ≢ f x) p (λ y h t. h) xs
            (all-unmap (λ z. z ≢ f x) f xs apart.0)),
        different-filter f p xs apart.1,
      )
      | false ↦ different-filter f p xs apart.1
    ]

pub different-push : {Y : Type 0} (ys : List Y) (y : Y) → AreDifferent ys → AllByRecursion (λ z. y ≢ z) ys
    → AreDifferent (ys ++ y ∷ [])
different-push [] y apart all = (tt, tt)
different-push (z ∷ ys) y apart all = (
  all-append (λ w. w ≢ z) ys (y ∷ []) apart.0 (all.0, tt),
  different-push ys y apart.1 all.1,
)
