-- The order by load of two keys with the same processors.
use Rattle.std.proofs.Common.{◌≡◌, ℕ, ◌*◌, ◌<◌, max, Bool, true, false, cond, refl, sym, ap, ◌∙◌, inl, inr}
use Rattle.std.proofs.Common.{arith, le-ltb, nat_lt}
use Rattle.std.specs.Prelude.{◌==◌}
use Rattle.std.proofs.Math.Nat.{mul-lt-mul_of_pos_right}
use Rattle.std.proofs.lemmas.Bool.{cases_lt, eqb-true, eq-eqb, lt-ltb}
use Rattle.row_index.specs.declared.keys.LoadKey.{LoadKey}
use Rattle.row_index.specs.Keys.{less_or, load_before}
use Rattle.row_index.specs.KeyLaws.{less_not}

less_if : (m n : ℕ) (rest : Bool) → m < n → less_or m n rest ≡ true
less_if m n rest lt = split (m == n) refl
  where
    split : (b : Bool) → (m == n) ≡ b → cond b rest (nat_lt m n) ≡ true
    split true e = let same : m ≡ n = eqb-true m n e in absurd (omega arith)
    split false e = lt-ltb m n lt

more_if : (m n : ℕ) (rest : Bool) → n < m → less_or m n rest ≡ false
more_if m n rest gt = less_not m n rest (omega arith) (λ e. absurd (omega (arith, e, gt)))

even_if : (m n : ℕ) (rest : Bool) → m ≡ n → less_or m n rest ≡ rest
even_if m n rest same = rw (eq-eqb m n same) refl

-- a tie in which the first never goes first
never_tied : (m n : ℕ) → less_or m n false ≡ nat_lt m n
never_tied m n = split (m == n) refl
  where
    split : (b : Bool) → (m == n) ≡ b → cond b false (nat_lt m n) ≡ nat_lt m n
    split true e = let same : m ≡ n = eqb-true m n e in sym (le-ltb m n (omega arith))
    split false e = refl

scaled : (m n k : ℕ) (rest : Bool) → 0 < k → less_or (m * k) (n * k) rest ≡ less_or m n rest
scaled m n k rest some =
    elim (cases_lt m n) [
      | inl lt ↦ less_if (m * k) (n * k) rest (mul-lt-mul_of_pos_right lt some) ∙ sym (less_if m n rest lt)
      | inr ge ↦ elim (cases_lt n m) [
        | inl gt ↦ more_if (m * k) (n * k) rest (mul-lt-mul_of_pos_right gt some) ∙ sym (more_if m n rest gt)
        | inr le ↦ let same : m ≡ n = omega arith in
            even_if (m * k) (n * k) rest (ap (λ x. x * k) same) ∙ sym (even_if m n rest same)
      ]
    ]

counted_out : (m n k p q : ℕ) → 0 < k → less_or (m * k) (n * k) (less_or p q false) ≡ less_or m n (nat_lt p q)
counted_out m n k p q some = ap (less_or (m * k) (n * k)) (never_tied p q) ∙ scaled m n k (nat_lt p q) some

-- what the loads and the numbers alone tell
pub equal_cpus : (a b : LoadKey) (told : Bool) → a.cpus ≡ b.cpus
    → told ≡ less_or a.load b.load (nat_lt a.number b.number) → told ≡ load_before a b
equal_cpus a b told same is = is ∙ sym (
    ap (λ l. less_or (a.load * max b.cpus 1) (b.load * l) (less_or a.number b.number (nat_lt a.cpus b.cpus)))
    (ap (λ c. max c 1) same)
    ∙ ap (λ t. less_or (a.load * max b.cpus 1) (b.load * max b.cpus 1) (less_or a.number b.number t))
    (le-ltb a.cpus b.cpus (omega (arith, same)))
    ∙ counted_out a.load b.load (max b.cpus 1) a.number b.number (omega arith))
