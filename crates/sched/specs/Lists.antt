-- Sums over lists, and rising lists of numbers.
use Rattle.std.specs.Prelude.{◌<◌, ℕ, zero, suc, ◌+◌, List, [], ◌∷◌, length, cond, ◌==◌, nat_le}
use Rattle.std.specs.Prelude.{if◌then◌else◌}
use Rattle.std.specs.List.{AllByRecursion}

-- the longer of two lists
abbrev pub longer : {A : Type 0} → List A → List A → List A
longer xs ys = if nat_le (length xs) (length ys) then ys else xs

-- the shorter of two lists
abbrev pub shorter : {A : Type 0} → List A → List A → List A
shorter xs ys = if nat_le (length xs) (length ys) then xs else ys

-- a sum over a list
abbrev pub total : {A : Type 0} → (A → ℕ) → List A → ℕ
total f [] = 0
total f (x ∷ xs) = f x + total f xs

-- the sum over the numbers below n
abbrev pub below : (ℕ → ℕ) → ℕ → ℕ
below f zero = 0
below f (suc n) = below f n + f n

-- 1 at this number, and 0 at every other
abbrev pub only : ℕ → ℕ → ℕ
only k x = cond (x == k) 1 0

-- how often the number stands in the list
abbrev pub times : ℕ → List ℕ → ℕ
times k xs = total (only k) xs

-- whether the number is in the list
abbrev pub Has : ℕ → List ℕ → Type 0
Has k xs = 0 < times k xs

-- each number is below n
abbrev pub AreBelow : ℕ → List ℕ → Type 0
AreBelow n xs = AllByRecursion (λ m. m < n) xs

-- two rising lists as one: put a number into a rising list, and each of a list
abbrev pub put_in : ℕ → List ℕ → List ℕ
put_in n [] = n ∷ []
put_in n (m ∷ ms) = if nat_le n m then n ∷ m ∷ ms else m ∷ put_in n ms

abbrev pub merged : List ℕ → List ℕ → List ℕ
merged [] ys = ys
merged (x ∷ xs) ys = put_in x (merged xs ys)

-- so many numbers, from this one on
abbrev pub run_from : ℕ → ℕ → List ℕ
run_from a zero = []
run_from a (suc n) = a ∷ run_from (suc a) n
