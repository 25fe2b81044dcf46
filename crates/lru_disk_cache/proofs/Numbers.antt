-- As many reservations are open as numbers below a bound are taken.
use Rattle.std.proofs.Common.{◌≡◌, ℕ, zero, suc, ◌+◌, ◌<◌, ◌≤◌, Bool, true, false, cond, not, ◌||◌, ◌==◌}
use Rattle.std.proofs.Common.{List, [], ◌∷◌, length, refl, sym, ap, ◌∙◌, true≢false, arith}
use Rattle.std.proofs.lemmas.Bool.{eqb-true, eqb-false}
use Rattle.lru_disk_cache.specs.Reserved.{Reservation, has, without_number, IsLeastFree}

-- of those without a number, each other number is still taken
still : (n m : ℕ) (os : List Reservation) → (m ≡ n → ⊥) → has m os ≡ true → has m (without_number n os) ≡ true
still n m [] apart h = h
still n m (o ∷ os) apart h = by (o.number == n) (o.number == m) refl refl h (still n m os apart)
  where
    by : (a b : Bool) → (o.number == n) ≡ a → (o.number == m) ≡ b → b || has m os ≡ true
        → (has m os ≡ true → has m (without_number n os) ≡ true)
        → has m (cond (not a) (o ∷ without_number n os) (without_number n os)) ≡ true
    by true true is_n is_m taken rest =
        absurd (apart (sym (eqb-true o.number m is_m) ∙ eqb-true o.number n is_n))
    by true false is_n is_m taken rest = rest taken
    by false true is_n is_m taken rest = ap (λ b. b || has m (without_number n os)) is_m
    by false false is_n is_m taken rest = ap (λ b. b || has m (without_number n os)) is_m ∙ rest taken

fewer_or_same : (n : ℕ) (os : List Reservation) → length (without_number n os) ≤ length os
fewer_or_same n [] = omega arith
fewer_or_same n (o ∷ os) =
    elim (o.number == n) as (λ b. length (cond (not b) (o ∷ without_number n os) (without_number n os))
    ≤ length (o ∷ os)) [
      | true ↦ omega (arith, fewer_or_same n os)
      | false ↦ omega
          (arith, fewer_or_same n os)
    ]

-- and there are fewer, where it was taken
fewer : (n : ℕ) (os : List Reservation) → has n os ≡ true → length (without_number n os) + 1 ≤ length os
fewer n [] h = absurd (true≢false (sym h))
fewer n (o ∷ os) h = by (o.number == n) h (fewer n os)
  where
    by : (b : Bool) → b || has n os ≡ true → (has n os ≡ true → length (without_number n os) + 1 ≤ length os)
        → length (cond (not b) (o ∷ without_number n os) (without_number n os)) + 1 ≤ length (o ∷ os)
    by true taken rest = omega (arith, fewer_or_same n os)
    by false taken rest = omega (arith, rest taken)

-- numbers below a bound that are all taken are no more than those open
pub all_taken : (n : ℕ) (os : List Reservation) → ((m : ℕ) → m < n → has m os ≡ true) → n ≤ length os
all_taken zero os taken = omega arith
all_taken (suc n) os taken =
    let last : has n os ≡ true = taken n (omega arith) in
    let others : (m : ℕ) → m < n → has m (without_number n os) ≡ true = λ m below.
    still n m os (λ same. absurd (omega (arith, below, same))) (taken m (omega (arith, below))) in
    omega (arith, all_taken n (without_number n os) others, fewer n os last)

-- so where as many are taken as are open the next is free
pub next_free : (n : ℕ) (os : List Reservation) → n ≡ length os → ((m : ℕ) → m < n → has m os ≡ true)
    → IsLeastFree n os
next_free n os all taken = record { free = by (has n os) refl; least = taken }
  where
    by : (b : Bool) → has n os ≡ b → b ≡ false
    by false is = refl
    by true is =
        let each : (m : ℕ) → m < suc n → has m os ≡ true = λ m below. one m below (m == n) refl in
        absurd (omega (arith, all_taken (suc n) os each, all))
      where
        one : (m : ℕ) → m < suc n → (b : Bool) → (m == n) ≡ b → has m os ≡ true
        one m below true same = ap (λ k. has k os) (eqb-true m n same) ∙ is
        one m below false other = taken m (omega (arith, below, eqb-false m n other))
