-- Beginnings of lists.
use Rattle.std.proofs.Common.{◌≡◌, ℕ, zero, suc, ◌<◌, ◌≤◌, List, [], ◌∷◌, ◌++◌, length, take, Some, refl}
use Rattle.std.proofs.Common.{sym, ap, ◌∙◌, arith, length-append, append_assoc, append-nil}
use Rattle.std.specs.Prelude.{slice_get}
use mathlib.Core.List.{IsPrefix}

module _ {A : Type 0} where
  pub prefix_self : (xs : List A) → IsPrefix xs xs
  prefix_self xs = ([], append-nil xs)

  pub prefix_nil : (xs : List A) → IsPrefix [] xs
  prefix_nil xs = (xs, refl)

  pub prefix_more : (xs ys : List A) → IsPrefix xs (xs ++ ys)
  prefix_more xs ys = (ys, refl)

  pub prefix_trans : (xs ys zs : List A) → IsPrefix xs ys → IsPrefix ys zs → IsPrefix xs zs
  prefix_trans xs ys zs p q = (p.0 ++ q.0, sym (append_assoc xs p.0 q.0) ∙ (ap (λ w. w ++ q.0) p.1 ∙ q.1))

  -- of two beginnings the shorter begins the longer
  pub prefix_shorter : (xs ys zs : List A) → IsPrefix xs zs → IsPrefix ys zs → length xs ≤ length ys
      → IsPrefix xs ys
  prefix_shorter [] ys zs p q le = (ys, refl)
  prefix_shorter (x ∷ xs) [] zs p q le = absurd (omega arith)
  prefix_shorter (x ∷ xs) (y ∷ ys) [] p q le = absurd (cc (p.1))
  prefix_shorter (x ∷ xs) (y ∷ ys) (z ∷ zs) p q le =
      let head : x ≡ y = cc (p.1, q.1) in
      let rest = prefix_shorter xs ys zs (p.0, cc (p.1)) (q.0, cc (q.1)) (omega arith) in
      (rest.0, cc (head, rest.1))

  pub prefix_length : (xs ys : List A) → IsPrefix xs ys → length xs ≤ length ys
  prefix_length xs ys p = omega (arith, sym (ap length p.1) ∙ length-append xs p.0)

  pub prefix_get : (xs ys : List A) (k : ℕ) (x : A) → IsPrefix xs ys → slice_get xs k ≡ Some x
      → slice_get ys k ≡ Some x
  prefix_get [] ys k x p h = absurd cc
  prefix_get (y ∷ xs) [] k x p h = absurd (cc (p.1))
  prefix_get (y ∷ xs) (z ∷ ys) zero x p h = cc (p.1, h)
  prefix_get (y ∷ xs) (z ∷ ys) (suc k) x p h = prefix_get xs ys k x (p.0, cc (p.1)) h

  -- what stands in a longer list within the shorter one's length
  pub prefix_got : (xs ys : List A) (k : ℕ) (x : A) → IsPrefix xs ys → k < length xs
      → slice_get ys k ≡ Some x → slice_get xs k ≡ Some x
  prefix_got [] ys k x p l h = absurd (omega arith)
  prefix_got (y ∷ xs) [] k x p l h = absurd (cc (p.1))
  prefix_got (y ∷ xs) (z ∷ ys) zero x p l h = cc (p.1, h)
  prefix_got (y ∷ xs) (z ∷ ys) (suc k) x p l h = prefix_got xs ys k x (p.0, cc (p.1)) (omega arith) h

  pub got_below : (xs : List A) (k : ℕ) (x : A) → slice_get xs k ≡ Some x → k < length xs
  got_below [] k x h = absurd cc
  got_below (y ∷ xs) zero x h = omega arith
  got_below (y ∷ xs) (suc k) x h = omega (arith, got_below xs k x h)

  pub got_last : (xs : List A) (y : A) → slice_get (xs ++ y ∷ []) (length xs) ≡ Some y
  got_last [] y = refl
  got_last (x ∷ xs) y = got_last xs y

  pub prefix_take : (xs ys : List A) → IsPrefix xs ys → take (length xs) ys ≡ xs
  prefix_take [] ys p = refl
  prefix_take (x ∷ xs) [] p = absurd (cc (p.1))
  prefix_take (x ∷ xs) (y ∷ ys) p = let rest = prefix_take xs ys (p.0, cc (p.1)) in cc (p.1, rest)

  pub length_take : (xs : List A) (k : ℕ) → k < length xs → length (take k xs) ≡ k
  length_take [] k l = absurd (omega arith)
  length_take (x ∷ xs) zero l = refl
  length_take (x ∷ xs) (suc k) l = omega (arith, length_take xs k (omega arith))

  pub take_within : (xs ys : List A) (k : ℕ) → IsPrefix xs ys → k < length xs → take k ys ≡ take k xs
  take_within [] ys k p l = absurd (omega arith)
  take_within (x ∷ xs) [] k p l = absurd (cc (p.1))
  take_within (x ∷ xs) (y ∷ ys) zero p l = refl
  take_within (x ∷ xs) (y ∷ ys) (suc k) p l = let rest = take_within xs ys k (p.0, cc (p.1)) (omega arith) in
      cc (p.1, rest)
