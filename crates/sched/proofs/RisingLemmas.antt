-- Rising lists of numbers.
use Rattle.std.proofs.Common.{◌≡◌, ℕ, zero, suc, ◌+◌, ◌-◌, ◌<◌, ◌≤◌, ◌≢◌, List, [], ◌∷◌, ◌++◌, length, Bool}
use Rattle.std.proofs.Common.{true, false, cond, refl, sym, ap, ◌∙◌, subst, arith}
use Rattle.std.specs.Prelude.{nat_le}
use Rattle.std.specs.List.{AllByRecursion}
use Rattle.core_rules.specs.Laws.{AreRising}
use Rattle.sched.specs.Lists.{only, times, AreBelow, put_in, merged, run_from}
use Rattle.sched.proofs.SumLemmas.{only_other, only_same, le_of, lt_of}
use Rattle.sched.proofs.OwnLemmas.{total-put_in}

pub below_wide : (a b : ℕ) (xs : List ℕ) → AreBelow a xs → a ≤ b → AreBelow b xs
below_wide a b [] low le = tt
below_wide a b (x ∷ xs) low le = let head = low.0 in (omega arith, below_wide a b xs low.1 le)

pub below_push : (n : ℕ) (xs : List ℕ) (x : ℕ) → AreBelow n xs → x < n → AreBelow n (xs ++ x ∷ [])
below_push n [] x low lt = (lt, tt)
below_push n (y ∷ ys) x low lt = (low.0, below_push n ys x low.1 lt)

over_push : (n : ℕ) (xs : List ℕ) (x : ℕ) → AllByRecursion (λ m. n < m) xs → n < x
    → AllByRecursion (λ m. n < m) (xs ++ x ∷ [])
over_push n [] x low lt = (lt, tt)
over_push n (y ∷ ys) x low lt = (low.0, over_push n ys x low.1 lt)

pub rising_push : (xs : List ℕ) (n : ℕ) → AreRising xs → AreBelow n xs → AreRising (xs ++ n ∷ [])
rising_push [] n rising low = (tt, tt)
rising_push (x ∷ xs) n rising low = (over_push x xs n rising.0 low.0, rising_push xs n rising.1 low.1)

-- a number over all of a list is not there
pub times_above : (n : ℕ) (xs : List ℕ) (k : ℕ) → AreBelow n xs → n ≤ k → times k xs ≡ 0
times_above n [] k low le = refl
times_above n (x ∷ xs) k low le = let head = low.0 in
    omega (arith, only_other k x (λ e. omega arith), times_above n xs k low.1 le)

-- two rising lists as one

over_put_in : (a n : ℕ) (xs : List ℕ) → AllByRecursion (λ m. a < m) xs → a < n
    → AllByRecursion (λ m. a < m) (put_in n xs)
over_put_in a n [] over lt = (lt, tt)
over_put_in a n (m ∷ ms) over lt =
    elim (nat_le n m) as (λ b. AllByRecursion (λ k. a < k) (cond b (n ∷ m ∷ ms) (m ∷ put_in n ms))) [
      | true ↦ (lt, over)
      | false ↦ (over.0, over_put_in a n ms over.1 lt)
    ]

over_wide : (a b : ℕ) (xs : List ℕ) → AllByRecursion (λ m. a < m) xs → b ≤ a → AllByRecursion (λ m. b < m) xs
over_wide a b [] over le = tt
over_wide a b (x ∷ xs) over le = let head = over.0 in (omega arith, over_wide a b xs over.1 le)

pub rising_put_in : (n : ℕ) (xs : List ℕ) → AreRising xs → times n xs ≡ 0 → AreRising (put_in n xs)
rising_put_in n [] rising none = (tt, tt)
rising_put_in n (m ∷ ms) rising none =
    let other : m ≢ n = λ e. omega (arith, only_same n m e) in
    let split : (b : Bool) → nat_le n m ≡ b → AreRising (cond b (n ∷ m ∷ ms) (m ∷ put_in n ms)) =
    λ b. elim b as (λ b. nat_le n m ≡ b → AreRising (cond b (n ∷ m ∷ ms) (m ∷ put_in n ms))) [
      | true ↦ λ e. let le : n ≤ m =
          le_of n m e in ((omega arith, over_wide m n ms rising.0 (omega arith)), rising)
      | false ↦ λ e. let lt : m < n =
          lt_of n m e in (over_put_in m n ms rising.0 lt, rising_put_in n ms rising.1 (omega arith))
    ] in
    split (nat_le n m) refl

below_put_in : (a n : ℕ) (xs : List ℕ) → AreBelow a xs → n < a → AreBelow a (put_in n xs)
below_put_in a n [] low lt = (lt, tt)
below_put_in a n (m ∷ ms) low lt =
    elim (nat_le n m) as (λ b. AllByRecursion (λ k. k < a) (cond b (n ∷ m ∷ ms) (m ∷ put_in n ms))) [
      | true ↦ (lt, low)
      | false ↦ (low.0, below_put_in a n ms low.1 lt)
    ]

pub below_merged : (n : ℕ) (xs ys : List ℕ) → AreBelow n xs → AreBelow n ys → AreBelow n (merged xs ys)
below_merged n [] ys one other = other
below_merged n (x ∷ xs) ys one other = below_put_in n x (merged xs ys)
    (below_merged n xs ys one.1 other) one.0

pub rising_merged : (xs ys : List ℕ) → AreRising ys → ((k : ℕ) → times k (merged xs ys) ≤ 1)
    → AreRising (merged xs ys)
rising_merged [] ys rising once = rising
rising_merged (x ∷ xs) ys rising once =
    rising_put_in x (merged xs ys)
    (rising_merged xs ys rising
    (λ k. let one = once k in omega (arith, total-put_in (only k) x (merged xs ys))))
    (let one = once x in omega (arith, total-put_in (only x) x (merged xs ys), only_same x x refl))

-- as many as can be

room : (a n : ℕ) (xs : List ℕ) → AreRising xs → AllByRecursion (λ m. a < suc m) xs → AreBelow (a + n) xs
    → length xs ≤ n
room a n [] rising over low = omega arith
room a zero (x ∷ xs) rising over low = let l = low.0 in let o = over.0 in absurd (omega arith)
room a (suc n) (x ∷ xs) rising over low =
    let o = over.0 in
    let e : a + suc n ≡ suc a + n = omega arith in
    omega (
      arith,
      room (suc a) n xs rising.1 (over_up x a xs rising.0 (omega arith))
          (subst (λ (k : ℕ). AreBelow k xs) e low.1),
    )
  where
    over_up : (x a : ℕ) (xs : List ℕ) → AllByRecursion (λ m. x < m) xs → a ≤ x
        → AllByRecursion (λ m. suc a < suc m) xs
    over_up x a [] over le = tt
    over_up x a (y ∷ ys) over le = let h = over.0 in (omega arith, over_up x a ys over.1 le)

over_suc : (x : ℕ) (xs : List ℕ) → AllByRecursion (λ m. x < m) xs → AllByRecursion (λ m. suc x < suc m) xs
over_suc x [] over = tt
over_suc x (y ∷ ys) over = let h = over.0 in (omega arith, over_suc x ys over.1)

squeezed : (a n : ℕ) (xs : List ℕ) → AreRising xs → AllByRecursion (λ m. a < suc m) xs → AreBelow (a + n) xs
    → length xs ≡ n → xs ≡ run_from a n
squeezed a zero [] rising over low len = refl
squeezed a (suc n) [] rising over low len = absurd (omega arith)
squeezed a zero (x ∷ xs) rising over low len = absurd (omega arith)
squeezed a (suc n) (x ∷ xs) rising over low len =
    let o = over.0 in
    let l = low.0 in
    let left : suc x + (a + n - x) ≡ a + suc n = omega arith in
    let fits : length xs ≤ a + n - x = room (suc x) (a + n - x) xs rising.1 (over_suc x xs rising.0)
    (subst (λ (k : ℕ). AreBelow k xs) (sym left) low.1) in
    let first : x ≡ a = omega arith in
    let e : a + suc n ≡ suc a + n = omega arith in
    let rest : xs ≡ run_from (suc a) n = squeezed (suc a) n xs rising.1
    (subst (λ (k : ℕ). AllByRecursion (λ m. suc k < suc m) xs) first (over_suc x xs rising.0))
    (subst (λ (k : ℕ). AreBelow k xs) e low.1) (omega arith) in
    ap (λ (k : ℕ). k ∷ xs) first ∙ ap (λ (l : List ℕ). a ∷ l) rest

over_zero : (xs : List ℕ) → AllByRecursion (λ m. 0 < suc m) xs
over_zero [] = tt
over_zero (x ∷ xs) = (omega arith, over_zero xs)

-- n rising numbers below n are all of them
pub every_place : (n : ℕ) (xs : List ℕ) → AreRising xs → AreBelow n xs → length xs ≡ n → xs ≡ run_from 0 n
every_place n xs rising low len = let e : n ≡ 0 + n = omega arith in squeezed 0 n xs rising (over_zero xs)
    (subst (λ (k : ℕ). AreBelow k xs) e low) len
