-- What stands in a place of a list, once one was set, mapped or added.
use Rattle.std.proofs.Common.{◌≡◌, ℕ, zero, suc, ◌+◌, ◌<◌, List, [], ◌∷◌, ◌++◌, map, set, length, get_or}
use Rattle.std.proofs.Common.{Some, None, Bool, false, cond, refl, ap, ◌∙◌, sym, arith}
use Rattle.std.specs.Prelude.{slice_get, count_by, ◌==◌}
use Rattle.std.specs.Option.{option_map}
use Rattle.std.proofs.lemmas.Bool.{eq-eqb}
use Rattle.std.proofs.lemmas.List.Sums.{sum_by-cons, sum_by_push, sum_by-set}
use Rattle.core_rules.proofs.AllLemmas.{true_false}

pub got_set : {X : Type 0} (xs : List X) (i : ℕ) (y : X) → i < length xs → slice_get (set xs i y) i ≡ Some y
got_set [] i y lt = absurd (omega (arith, lt))
got_set (x ∷ xs) zero y lt = refl
got_set (x ∷ xs) (suc i) y lt = got_set xs i y (omega (arith, lt))

pub got_apart : {X : Type 0} (xs : List X) (i j : ℕ) (y : X) → (i ≡ j → ⊥)
    → slice_get (set xs i y) j ≡ slice_get xs j
got_apart [] i j y apart = refl
got_apart (x ∷ xs) zero zero y apart = absurd (apart refl)
got_apart (x ∷ xs) zero (suc j) y apart = refl
got_apart (x ∷ xs) (suc i) zero y apart = refl
got_apart (x ∷ xs) (suc i) (suc j) y apart = got_apart xs i j y (λ same. apart (ap suc same))

pub got_other : {X : Type 0} (xs : List X) (i j : ℕ) (y : X) → (i == j) ≡ false
    → slice_get (set xs i y) j ≡ slice_get xs j
got_other xs i j y apart = got_apart xs i j y (λ same. true_false (i == j) (eq-eqb i j same) apart)

pub got_map : {X Y : Type 0} (f : X → Y) (xs : List X) (i : ℕ)
    → slice_get (map f xs) i ≡ option_map f (slice_get xs i)
got_map f [] i = refl
got_map f (x ∷ xs) zero = refl
got_map f (x ∷ xs) (suc i) = got_map f xs i

pub got_front : {X : Type 0} (xs ys : List X) (i : ℕ) (x : X) → slice_get xs i ≡ Some x
    → slice_get (xs ++ ys) i ≡ Some x
got_front [] ys i x is = absurd cc
got_front (y ∷ xs) ys zero x is = is
got_front (y ∷ xs) ys (suc i) x is = got_front xs ys i x is

pub got_end : {X : Type 0} (xs : List X) (y : X) → slice_get (xs ++ y ∷ []) (length xs) ≡ Some y
got_end [] y = refl
got_end (x ∷ xs) y = got_end xs y

pub got_none : {X : Type 0} (xs : List X) → slice_get xs (length xs) ≡ None
got_none [] = refl
got_none (x ∷ xs) = got_none xs

pub got_within : {X : Type 0} (xs : List X) (i : ℕ) (x : X) → slice_get xs i ≡ Some x → i < length xs
got_within [] i x is = absurd cc
got_within (y ∷ xs) zero x is = omega arith
got_within (y ∷ xs) (suc i) x is = let rest = got_within xs i x is in omega (arith, rest)

pub got_some : {X : Type 0} (xs : List X) (i : ℕ) → i < length xs → (x : X) × (slice_get xs i ≡ Some x)
got_some [] i lt = absurd (omega (arith, lt))
got_some (x ∷ xs) zero lt = (x, refl)
got_some (x ∷ xs) (suc i) lt = got_some xs i (omega (arith, lt))

-- an element of a list with one more is an old one or the new one
got_old : {X : Type 0} (xs : List X) (y x : X) (i : ℕ) → slice_get (xs ++ y ∷ []) i ≡ Some x
    → (i ≡ length xs → ⊥) → slice_get xs i ≡ Some x
got_old [] y x zero is apart = absurd (apart refl)
got_old [] y x (suc i) is apart = is
got_old (z ∷ xs) y x zero is apart = is
got_old (z ∷ xs) y x (suc i) is apart = got_old xs y x i is (λ same. apart (ap suc same))

pub got_pushed : {X : Type 0} (xs : List X) (y x : X) (i : ℕ) → slice_get (xs ++ y ∷ []) i ≡ Some x
    → (i == length xs) ≡ false → slice_get xs i ≡ Some x
got_pushed xs y x i is apart = got_old xs y x i is
    (λ same. true_false (i == length xs) (eq-eqb i (length xs) same) apart)

pub got_or : {X : Type 0} (xs : List X) (i : ℕ) (x d : X) → slice_get xs i ≡ Some x → get_or xs i d ≡ x
got_or [] i x d is = absurd cc
got_or (y ∷ xs) zero x d is = cc
got_or (y ∷ xs) (suc i) x d is = got_or xs i x d is

-- what a read of a place gave stands there
pub got_read : {X : Type 0} (xs : List X) (i : ℕ) (x : X) → i < length xs → ((d : X) → x ≡ get_or xs i d)
    → slice_get xs i ≡ Some x
got_read xs i x lt reads =
    let there = got_some xs i lt in
    there.1 ∙ ap Some (sym (reads there.0 ∙ got_or xs i there.0 there.0 there.1))

-- and is one thing
pub got_once : {X : Type 0} (xs : List X) (i : ℕ) (x y : X) → slice_get xs i ≡ Some x → slice_get xs i ≡
    Some y
    → x ≡ y
got_once xs i x y one other = let same : Some x ≡ Some y = sym one ∙ other in cc

-- the front of a list is what it was before more were added
pub got_before : {X : Type 0} (xs ys : List X) (i : ℕ) → i < length xs
    → slice_get (xs ++ ys) i ≡ slice_get xs i
got_before xs ys i lt = let there = got_some xs i lt in got_front xs ys i there.0 there.1 ∙ sym there.1

pub set_same : {X : Type 0} (xs : List X) (i : ℕ) (x : X) → slice_get xs i ≡ Some x → set xs i x ≡ xs
set_same [] i x is = refl
set_same (y ∷ xs) zero x is = let same : x ≡ y = cc in ap (λ z. z ∷ xs) same
set_same (y ∷ xs) (suc i) x is = ap (λ zs. y ∷ zs) (set_same xs i x is)

pub map_set : {X Y : Type 0} (f : X → Y) (xs : List X) (i : ℕ) (y : X)
    → map f (set xs i y) ≡ set (map f xs) i (f y)
map_set f [] i y = refl
map_set f (x ∷ xs) zero y = refl
map_set f (x ∷ xs) (suc i) y = ap (λ zs. f x ∷ zs) (map_set f xs i y)

-- an element that a function makes of the one that it replaces
pub map_kept : {X Y : Type 0} (f : X → Y) (xs : List X) (i : ℕ) (x y : X) → slice_get xs i ≡ Some x
    → f y ≡ f x → map f (set xs i y) ≡ map f xs
map_kept f [] i x y is same = refl
map_kept f (z ∷ xs) zero x y is same = let at : x ≡ z = cc in ap (λ w. w ∷ map f xs) (same ∙ ap f at)
map_kept f (z ∷ xs) (suc i) x y is same = ap (λ zs. f z ∷ zs) (map_kept f xs i x y is same)

pub map_fixed : {X : Type 0} (f : X → X) (xs : List X)
    → ((i : ℕ) (x : X) → slice_get xs i ≡ Some x → f x ≡ x) → map f xs ≡ xs
map_fixed f [] fixed = refl
map_fixed f (x ∷ xs) fixed = ap (λ y. y ∷ map f xs) (fixed 0 x refl)
    ∙ ap (λ ys. x ∷ ys) (map_fixed f xs (λ i y is. fixed (suc i) y is))

pub map_agree : {X Y : Type 0} (f g : X → Y) (xs : List X)
    → ((i : ℕ) (x : X) → slice_get xs i ≡ Some x → f x ≡ g x) → map f xs ≡ map g xs
map_agree f g [] agree = refl
map_agree f g (x ∷ xs) agree = ap (λ y. y ∷ map f xs) (agree 0 x refl)
    ∙ ap (λ ys. g x ∷ ys) (map_agree f g xs (λ i y is. agree (suc i) y is))

-- one where it is so, else none
abbrev pub one_if : Bool → ℕ
one_if b = cond b 1 0

-- how many pass, with one more at the front
pub counted_cons : {X : Type 0} (p : X → Bool) (x : X) (xs : List X)
    → count_by p (x ∷ xs) ≡ one_if (p x) + count_by p xs
counted_cons p x xs = sum_by-cons (λ y. one_if (p y)) x xs

-- with one more at the end
pub counted_push : {X : Type 0} (p : X → Bool) (xs : List X) (y : X)
    → count_by p (xs ++ y ∷ []) ≡ count_by p xs + one_if (p y)
counted_push p xs y = sum_by_push (λ x. one_if (p x)) xs y

-- with another in a place
pub counted_set : {X : Type 0} (p : X → Bool) (xs : List X) (i : ℕ) (x y : X) → slice_get xs i ≡ Some x
    → count_by p (set xs i y) + one_if (p x) ≡ count_by p xs + one_if (p y)
counted_set p xs i x y is =
    ap (λ z. count_by p (set xs i y) + one_if (p z)) (sym (got_or xs i x x is))
    ∙ sum_by-set (λ z. one_if (p z)) xs i y x (got_within xs i x is)
