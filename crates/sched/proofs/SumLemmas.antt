-- Sums over lists that change at one place.
use Rattle.std.proofs.Common.{◌≡◌, ℕ, zero, suc, ◌+◌, ◌<◌, ◌≤◌, ◌≢◌, List, [], ◌∷◌, ◌++◌, length, set, sym}
use Rattle.std.proofs.Common.{refl, ap, arith, cond, eq-eqb, ne_eqb}
use mathlib.Core.Logic.{dite}
use native.Mathlib.Decide.{ℕ_discrete}
use mathlib.Core.Option.{some, some-injective, some-ne-none}
use lib.ListN.{get_elem?}
use Rattle.std.specs.Prelude.{nat_le, true, false}
use Rattle.sched.specs.Lists.{total, below, only, times}

module _ {A : Type 0} (g : A → ℕ) where
  pub total-append : (l m : List A) → total g (l ++ m) ≡ total g l + total g m
  total-append [] m = omega arith
  total-append (x ∷ xs) m = omega (arith, total-append xs m)

  pub total-set : (l : List A) (j : ℕ) (v w : A) → get_elem? l j ≡ some v
      → total g (set l j w) + g v ≡ total g l + g w
  total-set [] j v w e = absurd (some-ne-none v (sym e))
  total-set (x ∷ xs) zero v w e = omega (arith, ap g (some-injective x v e))
  total-set (x ∷ xs) (suc j) v w e = omega (arith, total-set xs j v w e)

  pub term_le : (l : List A) (j : ℕ) (v : A) → get_elem? l j ≡ some v → g v ≤ total g l
  term_le [] j v e = absurd (some-ne-none v (sym e))
  term_le (x ∷ xs) zero v e = omega (arith, ap g (some-injective x v e))
  term_le (x ∷ xs) (suc j) v e = omega (arith, term_le xs j v e)

  pub terms_le : (l : List A) (j k : ℕ) (v u : A) → k ≢ j → get_elem? l j ≡ some v → get_elem? l k ≡ some u
      → g v + g u ≤ total g l
  terms_le [] j k v u n e d = absurd (some-ne-none v (sym e))
  terms_le (x ∷ xs) zero zero v u n e d = absurd (n refl)
  terms_le (x ∷ xs) zero (suc k) v u n e d = omega (arith, ap g (some-injective x v e), term_le xs k u d)
  terms_le (x ∷ xs) (suc j) zero v u n e d = omega (arith, ap g (some-injective x u d), term_le xs j v e)
  terms_le (x ∷ xs) (suc j) (suc k) v u n e d = omega (arith, terms_le xs j k v u (λ h. n (ap suc h)) e d)

  -- where nothing else counts, nothing else counts for what counts with it
  pub total-none : (h : A → ℕ) (l : List A) → ((j : ℕ) (u : A) → get_elem? l j ≡ some u → g u ≡ 0 → h u ≡ 0)
      → total g l ≡ 0 → total h l ≡ 0
  total-none h [] with e = refl
  total-none h (x ∷ xs) with e =
      omega (arith, with 0 x refl (omega arith), total-none h xs (λ j u at. with (suc j) u at) (omega arith))

  pub total-alone : (h : A → ℕ) (l : List A) → ((j : ℕ) (u : A) → get_elem? l j ≡ some u → g u ≡ 0 → h u ≡ 0)
      → (j : ℕ) (v : A) → get_elem? l j ≡ some v → total g l ≤ g v → total h l ≡ h v
  total-alone h [] with j v e le = absurd (some-ne-none v (sym e))
  total-alone h (x ∷ xs) with zero v e le = let same = some-injective x v e in
      omega (
        arith,
        ap g same,
        ap h same,
        total-none h xs (λ j u at. with (suc j) u at)
            (omega (arith, ap g same)),
      )
  total-alone h (x ∷ xs) with (suc j) v e le =
      omega (
        arith,
        term_le xs j v e,
        with 0 x refl (omega (arith, term_le xs j v e)),
        total-alone h xs (λ k u at. with (suc k) u at) j v e (omega arith),
      )

pub below_one : (n : ℕ) → below (λ _. 1) n ≡ n
below_one zero = refl
below_one (suc n) = omega (arith, below_one n)

pub below_more : (f : ℕ → ℕ) (n : ℕ) → below f (n + 1) ≡ below f n + f n
below_more f n = let e : n + 1 ≡ suc n = omega arith in ap (below f) e

pub total_one : {A : Type 0} (l : List A) → total (λ _. 1) l ≡ length l
total_one [] = refl
total_one (x ∷ xs) = omega (arith, total_one xs)

pub only_same : (k n : ℕ) → n ≡ k → only k n ≡ 1
only_same k n e = ap (λ b. cond b 1 0) (eq-eqb n k e)

pub only_other : (k n : ℕ) → n ≢ k → only k n ≡ 0
only_other k n ne = ap (λ b. cond b 1 0) (ne_eqb n k ne)

-- each number below n once, and no other
pub below_only : (k n : ℕ) → (below (only k) n ≤ 1) × (n ≤ k → below (only k) n ≡ 0)
below_only k zero = (omega arith, λ _. refl)
below_only k (suc n) =
    let before = below_only k n in
    dite (ℕ_discrete n k)
    (λ e. let none_yet = before.1 (omega arith) in
    (omega (arith, only_same k n e), λ h. absurd (omega arith)))
    (λ ne. (
      omega (arith, before.0, only_other k n ne),
      λ h. omega (arith, before.1 (omega arith), only_other k n ne),
    ))

-- what stands once more at the end
pub times_last : (k n : ℕ) (xs : List ℕ) → times k (xs ++ n ∷ []) ≡ times k xs + only k n
times_last k n xs = omega (arith, total-append (only k) xs (n ∷ []))

pub le_of : (n m : ℕ) → nat_le n m ≡ true → n ≤ m
le_of n m e = grind (arith, e)

pub lt_of : (n m : ℕ) → nat_le n m ≡ false → m < n
lt_of n m e = grind (arith, e)
