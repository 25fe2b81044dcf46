-- The laws of the keys by which the scheduler picks.
use Rattle.std.proofs.Common.{◌≡◌, ℕ, ◌*◌, ◌<◌, ◌≤◌, max, Bool, true, false, cond, refl, sym}
use Rattle.std.proofs.Common.{ap, ◌∙◌, inl, inr, arith, ltb-true, ltb-false, le-ltb, nat_lt}
use Rattle.std.specs.Prelude.{◌==◌}
use Rattle.std.proofs.Math.Nat.{mul-lt-mul_of_pos_right, lt_of_mul-lt-mul_right}
use Rattle.std.proofs.lemmas.Bool.{cases_lt, eqb-true, eqb-false}
use Rattle.std.proofs.lemmas.Nat.{mul-le}
use Rattle.row_index.specs.declared.keys.LoadKey.{LoadKey}
use Rattle.row_index.specs.declared.keys.MomentKey.{MomentKey}
use Rattle.row_index.specs.Keys.{less_or, load_before, moment_before}

-- what is not less: the first number is no less, and where they are equal the rest is false
pub not_less : (m n : ℕ) (rest : Bool) → less_or m n rest ≡ false → (n ≤ m) × (m ≡ n → rest ≡ false)
not_less m n rest is = split (m == n) refl is
  where
    split : (b : Bool) → (m == n) ≡ b → cond b rest (nat_lt m n) ≡ false → (n ≤ m) × (m ≡ n → rest ≡ false)
    split true e h = let same : m ≡ n = eqb-true m n e in (omega arith, λ s. h)
    split false e h = (ltb-false m n h, λ s. absurd (eqb-false m n e s))

pub less_not : (m n : ℕ) (rest : Bool) → n ≤ m → (m ≡ n → rest ≡ false) → less_or m n rest ≡ false
less_not m n rest le tie = split (m == n) refl
  where
    split : (b : Bool) → (m == n) ≡ b → cond b rest (nat_lt m n) ≡ false
    split true e = tie (eqb-true m n e)
    split false e = le-ltb m n le

pub is_less : (m n : ℕ) (rest : Bool) → less_or m n rest ≡ true → (m ≤ n) × (m ≡ n → rest ≡ true)
is_less m n rest is = split (m == n) refl is
  where
    split : (b : Bool) → (m == n) ≡ b → cond b rest (nat_lt m n) ≡ true → (m ≤ n) × (m ≡ n → rest ≡ true)
    split true e h = let same : m ≡ n = eqb-true m n e in (omega arith, λ s. h)
    split false e h = let lt : m < n = ltb-true m n h in (omega arith, λ s. absurd (eqb-false m n e s))

lt_one_way : (m n : ℕ) → nat_lt m n ≡ true → nat_lt n m ≡ false
lt_one_way m n is = let lt : m < n = ltb-true m n is in le-ltb n m (omega arith)

lt_through : (a b c : ℕ) → nat_lt b a ≡ false → nat_lt c b ≡ false → nat_lt c a ≡ false
lt_through a b c p q =
    let one : a ≤ b = ltb-false b a p in
    let two : b ≤ c = ltb-false c b q in
    le-ltb c a (omega arith)

lt_apart : (a b : ℕ) → nat_lt a b ≡ false → nat_lt b a ≡ false → a ≡ b
lt_apart a b p q =
    let one : b ≤ a = ltb-false a b p in
    let two : a ≤ b = ltb-false b a q in
    omega arith

less_one_way : (m n : ℕ) (rest back : Bool) → (rest ≡ true → back ≡ false) → less_or m n rest ≡ true
    → less_or n m back ≡ false
less_one_way m n rest back tie is =
    let le = is_less m n rest is in
    less_not n m back le.0 (λ e. tie (le.1 (sym e)))

-- the moment, then the number
pub moment_one_way : (a b : MomentKey) → moment_before a b ≡ true → moment_before b a ≡ false
moment_one_way a b is = less_one_way a.moment b.moment (nat_lt a.number b.number) (nat_lt b.number a.number)
    (lt_one_way a.number b.number) is

pub moment_through : (a b c : MomentKey) → moment_before b a ≡ false → moment_before c b ≡ false
    → moment_before c a ≡ false
moment_through a b c p q =
    let one = not_less b.moment a.moment (nat_lt b.number a.number) p in
    let two = not_less c.moment b.moment (nat_lt c.number b.number) q in
    let le_one : a.moment ≤ b.moment = one.0 in
    let le_two : b.moment ≤ c.moment = two.0 in
    less_not c.moment a.moment (nat_lt c.number a.number) (omega arith)
    (λ e. lt_through a.number b.number c.number (one.1 (omega arith)) (two.1 (omega arith)))

pub moment_apart : (a b : MomentKey) → moment_before a b ≡ false → moment_before b a ≡ false → a ≡ b
moment_apart a b p q =
    let one = not_less a.moment b.moment (nat_lt a.number b.number) p in
    let two = not_less b.moment a.moment (nat_lt b.number a.number) q in
    let le_one : b.moment ≤ a.moment = one.0 in
    let le_two : a.moment ≤ b.moment = two.0 in
    let moments : a.moment ≡ b.moment = omega arith in
    let numbers : a.number ≡ b.number = lt_apart a.number b.number (one.1 moments) (two.1 (sym moments)) in
    λ i. record { moment = moments i; number = numbers i }

-- loads for each processor
module _ (l₁ c₁ l₂ c₂ l₃ c₃ : ℕ) where
  le_lt : 1 ≤ c₁ → 1 ≤ c₂ → l₁ * c₂ ≤ l₂ * c₁ → l₂ * c₃ < l₃ * c₂ → l₁ * c₃ < l₃ * c₁
  le_lt p₁ p₂ le lt =
      let one : (l₁ * c₂) * c₃ ≤ (l₂ * c₁) * c₃ = mul-le (l₁ * c₂) c₃ (l₂ * c₁) c₃ le (omega arith) in
      let two : (l₂ * c₃) * c₁ < (l₃ * c₂) * c₁ = mul-lt-mul_of_pos_right lt (omega (arith, p₁)) in
      let both_are : (l₁ * c₃) * c₂ < (l₃ * c₁) * c₂ = omega (arith, one, two) in
      lt_of_mul-lt-mul_right c₂ both_are

  lt_le : 1 ≤ c₂ → 1 ≤ c₃ → l₁ * c₂ < l₂ * c₁ → l₂ * c₃ ≤ l₃ * c₂ → l₁ * c₃ < l₃ * c₁
  lt_le p₂ p₃ lt le =
      let one : (l₁ * c₂) * c₃ < (l₂ * c₁) * c₃ = mul-lt-mul_of_pos_right lt (omega (arith, p₃)) in
      let two : (l₂ * c₃) * c₁ ≤ (l₃ * c₂) * c₁ = mul-le (l₂ * c₃) c₁ (l₃ * c₂) c₁ le (omega arith) in
      let both_are : (l₁ * c₃) * c₂ < (l₃ * c₁) * c₂ = omega (arith, one, two) in
      lt_of_mul-lt-mul_right c₂ both_are

-- the processors that count
abbrev of : LoadKey → ℕ
of k = max k.cpus 1

some_of : (k : LoadKey) → 1 ≤ of k
some_of k = omega arith

tie_one_way : (a b : LoadKey) → less_or a.number b.number (nat_lt a.cpus b.cpus) ≡ true
    → less_or b.number a.number (nat_lt b.cpus a.cpus) ≡ false
tie_one_way a b is = less_one_way a.number b.number (nat_lt a.cpus b.cpus) (nat_lt b.cpus a.cpus)
    (lt_one_way a.cpus b.cpus) is

tie_through : (a b c : LoadKey) → less_or b.number a.number (nat_lt b.cpus a.cpus) ≡ false
    → less_or c.number b.number (nat_lt c.cpus b.cpus) ≡ false
    → less_or c.number a.number (nat_lt c.cpus a.cpus) ≡ false
tie_through a b c p q =
    let one = not_less b.number a.number (nat_lt b.cpus a.cpus) p in
    let two = not_less c.number b.number (nat_lt c.cpus b.cpus) q in
    let le_one : a.number ≤ b.number = one.0 in
    let le_two : b.number ≤ c.number = two.0 in
    less_not c.number a.number (nat_lt c.cpus a.cpus) (omega arith)
    (λ e. lt_through a.cpus b.cpus c.cpus (one.1 (omega arith)) (two.1 (omega arith)))

pub load_one_way : (a b : LoadKey) → load_before a b ≡ true → load_before b a ≡ false
load_one_way a b is =
    less_one_way (a.load * of b) (b.load * of a) (less_or a.number b.number (nat_lt a.cpus b.cpus))
    (less_or b.number a.number (nat_lt b.cpus a.cpus)) (tie_one_way a b) is

pub load_through : (a b c : LoadKey) → load_before b a ≡ false → load_before c b ≡ false
    → load_before c a ≡ false
load_through a b c p q =
    less_not (c.load * of a) (a.load * of c) (less_or c.number a.number (nat_lt c.cpus a.cpus)) le
    (λ e. tie_through a b c (one.1 (first e)) (two.1 (second e)))
  where
    one : (a.load * of b ≤ b.load * of a)
        × (b.load * of a ≡ a.load * of b → less_or b.number a.number (nat_lt b.cpus a.cpus) ≡ false)
    one = not_less (b.load * of a) (a.load * of b) (less_or b.number a.number (nat_lt b.cpus a.cpus)) p

    two : (b.load * of c ≤ c.load * of b)
        × (c.load * of b ≡ b.load * of c → less_or c.number b.number (nat_lt c.cpus b.cpus) ≡ false)
    two = not_less (c.load * of b) (b.load * of c) (less_or c.number b.number (nat_lt c.cpus b.cpus)) q

    le : a.load * of c ≤ c.load * of a
    le =
        elim (cases_lt (c.load * of a) (a.load * of c)) [
          | inl lt ↦ let back : b.load * of a < a.load * of b = le_lt b.load (of b) c.load (of c) a.load
              (of a)
              (some_of b) (some_of c) two.0 lt in absurd (omega (arith, back, one.0))
          | inr ge ↦ ge
        ]

    first : c.load * of a ≡ a.load * of c → b.load * of a ≡ a.load * of b
    first e =
        elim (cases_lt (a.load * of b) (b.load * of a)) [
          | inl lt ↦ let less : a.load * of c < c.load * of a = lt_le a.load (of a) b.load (of b) c.load
              (of c)
              (some_of b) (some_of c) lt two.0 in absurd (omega (arith, less, e))
          | inr ge ↦ omega (arith, ge, one.0)
        ]

    second : c.load * of a ≡ a.load * of c → c.load * of b ≡ b.load * of c
    second e =
        elim (cases_lt (b.load * of c) (c.load * of b)) [
          | inl lt ↦ let less : a.load * of c < c.load * of a = le_lt a.load (of a) b.load (of b) c.load
              (of c)
              (some_of a) (some_of b) one.0 lt in absurd (omega (arith, less, e))
          | inr ge ↦ omega (arith, ge, two.0)
        ]

pub load_apart : (a b : LoadKey) → load_before a b ≡ false → load_before b a ≡ false → a ≡ b
load_apart a b p q = λ i. record { load = loads i; cpus = processors i; number = numbers i }
  where
    one : (b.load * of a ≤ a.load * of b)
        × (a.load * of b ≡ b.load * of a → less_or a.number b.number (nat_lt a.cpus b.cpus) ≡ false)
    one = not_less (a.load * of b) (b.load * of a) (less_or a.number b.number (nat_lt a.cpus b.cpus)) p

    two : (a.load * of b ≤ b.load * of a)
        × (b.load * of a ≡ a.load * of b → less_or b.number a.number (nat_lt b.cpus a.cpus) ≡ false)
    two = not_less (b.load * of a) (a.load * of b) (less_or b.number a.number (nat_lt b.cpus a.cpus)) q

    same : a.load * of b ≡ b.load * of a
    same = omega (arith, one.0, two.0)

    tie_one : (b.number ≤ a.number) × (a.number ≡ b.number → nat_lt a.cpus b.cpus ≡ false)
    tie_one = not_less a.number b.number (nat_lt a.cpus b.cpus) (one.1 same)

    tie_two : (a.number ≤ b.number) × (b.number ≡ a.number → nat_lt b.cpus a.cpus ≡ false)
    tie_two = not_less b.number a.number (nat_lt b.cpus a.cpus) (two.1 (sym same))

    numbers : a.number ≡ b.number
    numbers = omega (arith, tie_one.0, tie_two.0)

    processors : a.cpus ≡ b.cpus
    processors = lt_apart a.cpus b.cpus (tie_one.1 numbers) (tie_two.1 (sym numbers))

    level : a.load * of a ≡ b.load * of a
    level = ap (λ c. a.load * max c 1) processors ∙ same

    loads : a.load ≡ b.load
    loads =
        elim (cases_lt a.load b.load) [
          | inl lt ↦ let less : a.load * of a < b.load * of a = mul-lt-mul_of_pos_right lt
              (omega (arith, some_of a)) in absurd (omega (arith, less, level))
          | inr ge ↦ elim (cases_lt b.load a.load) [
            | inl gt ↦ let less : b.load * of a < a.load * of a = mul-lt-mul_of_pos_right gt
                (omega (arith, some_of a)) in absurd (omega (arith, less, level))
            | inr le ↦ omega (arith, ge, le)
          ]
        ]
