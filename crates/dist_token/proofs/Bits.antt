-- What bits differ in.
use Rattle.std.proofs.Common.{◌≡◌, ◌<◌, ◌+◌, ◌%◌, ℕ, suc, max, bit_or, bit_xor, List, [], ◌∷◌, ◌++◌, take}
use Rattle.std.proofs.Common.{length, ◌↔◌, ◌≤◌, get_or, refl, ap, ap₂, sym, ◌∙◌, arith}
use Rattle.std.specs.Int.{bit_at}
use Rattle.std.proofs.lemmas.List.{take_more, length-take-le}
use Rattle.std.proofs.lemmas.Nat.Bits.{bit_at_or, bit_at_xor, bit_at-zero, bit_at-lt, same_from_bits}

or_bits : (a b : ℕ) → bit_or a b ≡ 0 → (i : ℕ) → max (bit_at a i) (bit_at b i) ≡ 0
or_bits a b e i = sym (bit_at_or a b i) ∙ ap (λ n. bit_at n i) e ∙ bit_at-zero i

-- no bit is set in either
pub or_none : (a b : ℕ) → bit_or a b ≡ 0 → (a ≡ 0) × (b ≡ 0)
or_none a b e = (
  same_from_bits a 0 (λ i. let o = or_bits a b e i in omega (arith, o) ∙ sym (bit_at-zero i)),
  same_from_bits b 0 (λ i. let o = or_bits a b e i in omega (arith, o) ∙ sym (bit_at-zero i)),
)

xor_bits : (a b : ℕ) → bit_xor a b ≡ 0 → (i : ℕ) → (bit_at a i + bit_at b i) % 2 ≡ 0
xor_bits a b e i = sym (bit_at_xor a b i) ∙ ap (λ n. bit_at n i) e ∙ bit_at-zero i

one_bit : (m n : ℕ) → m < 2 → n < 2 → (m + n) % 2 ≡ 0 → m ≡ n
one_bit m n lm ln e = omega arith

-- the two are one number
pub xor_none : (a b : ℕ) → bit_xor a b ≡ 0 → a ≡ b
xor_none a b e = same_from_bits a b (λ i. one_bit (bit_at a i) (bit_at b i) (bit_at-lt a i) (bit_at-lt b i)
    (xor_bits a b e i))

twice : (m : ℕ) → (m + m) % 2 ≡ 0
twice m = omega arith

pub xor_same : (a : ℕ) → bit_xor a a ≡ 0
xor_same a = same_from_bits (bit_xor a a) 0 (λ i. bit_at_xor a a i ∙ twice (bit_at a i) ∙ sym (bit_at-zero i))

-- lists of one length with one element more
pub ends : (xs ys : List ℕ) (a b : ℕ) → length xs ≡ length ys → xs ++ a ∷ [] ≡ ys ++ b ∷ [] → (xs ≡ ys)
    × (a ≡ b)
ends [] [] a b h e = (refl, cc)
ends [] (y ∷ ys) a b h e = absurd (omega (arith, h))
ends (x ∷ xs) [] a b h e = absurd (omega (arith, h))
ends (x ∷ xs) (y ∷ ys) a b h e =
    let more = ends xs ys a b (omega (arith, h)) cc in
    let heads : x ≡ y = cc in
    (ap₂ (λ v vs. v ∷ vs) heads more.0, more.1)

-- one byte more, whose bits join those before
pub one_more : (d : ℕ) (xs ys : List ℕ) (i : ℕ) → i < length xs → i < length ys → (d ≡ 0)
    ↔ (take i xs ≡ take i ys)
    → (bit_or d (bit_xor (get_or xs i 0) (get_or ys i 0)) ≡ 0) ↔ (take (i + 1) xs ≡ take (i + 1) ys)
one_more d xs ys i in_xs in_ys so_far = (
  (λ e. let none = or_none d (bit_xor (get_or xs i 0) (get_or ys i 0)) e in
      take_more xs i 0 in_xs ∙ ap₂ (λ front last. front ++ last ∷ []) (so_far.0 none.0)
      (xor_none (get_or xs i 0) (get_or ys i 0) none.1) ∙ sym (take_more ys i 0 in_ys)),
  (λ e. let same = ends (take i xs) (take i ys) (get_or xs i 0) (get_or ys i 0)
      (length-take-le i xs (omega (arith, in_xs)) ∙ sym (length-take-le i ys (omega (arith, in_ys))))
      (sym (take_more xs i 0 in_xs) ∙ e ∙ take_more ys i 0 in_ys) in
      ap₂ bit_or (so_far.1 same.0) (ap (λ a. bit_xor a (get_or ys i 0)) same.1 ∙ xor_same (get_or ys i 0))),
)
