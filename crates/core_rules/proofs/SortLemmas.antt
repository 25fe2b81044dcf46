-- Rows by a rising number: what a filter, a map and one more row do to them.
use Rattle.std.proofs.Common.{◌≡◌, ℕ, ◌<◌, ◌≤◌, List, [], ◌∷◌, ◌++◌, Bool, true, false, cond, ◌||◌, map}
use Rattle.std.proofs.Common.{filter, Some, refl, ap, ◌∙◌, sym, arith}
use Rattle.std.specs.Prelude.{nat_lt}
use Rattle.std.specs.List.{AllByRecursion, list_any, find}
use Rattle.std.proofs.lemmas.Bool.{false≢true}
use Rattle.core_rules.specs.Rows.{placed, sorted_into}
use Rattle.core_rules.proofs.AllLemmas.{all-weaker, all-filter}
use Rattle.core_rules.proofs.RoomLemmas.{lt_true, lt_false, lt_is}

pub sorted-push : {X : Type 0} (number : X → ℕ) (done xs : List X) (x : X)
    → sorted_into number done (xs ++ x ∷ []) ≡ placed number x (sorted_into number done xs)
sorted-push number done [] x = refl
sorted-push number done (y ∷ ys) x = sorted-push number (placed number y done) ys x

-- a map that keeps the numbers
pub map-placed : {X Y : Type 0} (m : X → ℕ) (n : Y → ℕ) (f : X → Y) → ((x : X) → n (f x) ≡ m x)
    → (x : X) (ys : List X) → map f (placed m x ys) ≡ placed n (f x) (map f ys)
map-placed m n f same x [] = refl
map-placed {X} {Y} m n f same x (y ∷ ys) =
    split (nat_lt (m x) (m y)) (map-placed m n f same x ys)
    ∙ ap (λ a. cond (nat_lt a (m y)) (f x ∷ f y ∷ map f ys) (f y ∷ placed n (f x) (map f ys))) (sym (same x))
    ∙ ap (λ a. cond (nat_lt (n (f x)) a) (f x ∷ f y ∷ map f ys) (f y ∷ placed n (f x) (map f ys)))
    (sym (same y))
  where
    split : (b : Bool) → map f (placed m x ys) ≡ placed n (f x) (map f ys)
        → map f (cond b (x ∷ y ∷ ys) (y ∷ placed m x ys)) ≡ cond b (f x ∷ f y ∷ map f ys)
        (f y ∷ placed n (f x) (map f ys))
    split true rest = refl
    split false rest = ap (λ zs. f y ∷ zs) rest

sorted-map_from : {X Y : Type 0} (m : X → ℕ) (n : Y → ℕ) (f : X → Y) → ((x : X) → n (f x) ≡ m x)
    → (done xs : List X) → sorted_into n (map f done) (map f xs) ≡ map f (sorted_into m done xs)
sorted-map_from m n f same done [] = refl
sorted-map_from m n f same done (x ∷ xs) = ap (λ d. sorted_into n d (map f xs))
    (sym (map-placed m n f same x done)) ∙ sorted-map_from m n f same (placed m x done) xs

pub sorted-map : {X Y : Type 0} (m : X → ℕ) (n : Y → ℕ) (f : X → Y) → ((x : X) → n (f x) ≡ m x)
    → (xs : List X) → sorted_into n [] (map f xs) ≡ map f (sorted_into m [] xs)
sorted-map m n f same xs = sorted-map_from m n f same [] xs

-- the numbers never fall
abbrev IsRising : {X : Type 0} → (X → ℕ) → List X → Type 0
IsRising number [] = Unit {0}
IsRising number (x ∷ xs) = AllByRecursion (λ y. number x ≤ number y) xs × IsRising number xs

pub all-placed : {X : Type 0} (P : X → Type 0) (number : X → ℕ) (x : X) (ys : List X) → P x
    → AllByRecursion P ys → AllByRecursion P (placed number x ys)
all-placed P number x [] p all = (p, tt)
all-placed P number x (y ∷ ys) p all = elim (nat_lt (number x) (number y)) as
    (λ b. AllByRecursion P (cond b (x ∷ y ∷ ys) (y ∷ placed number x ys))) [
      | true ↦ (p, all)
      | false ↦
          (all.0, all-placed P number x ys p all.1)
    ]

pub sorted-all : {X : Type 0} (P : X → Type 0) (number : X → ℕ) (done xs : List X) → AllByRecursion P done
    → AllByRecursion P xs → AllByRecursion P (sorted_into number done xs)
sorted-all P number done [] all more = all
sorted-all P number done (x ∷ xs) all more = sorted-all P number (placed number x done) xs
    (all-placed P number x done more.0 all) more.1

rising-placed : {X : Type 0} (number : X → ℕ) (x : X) (ys : List X) → IsRising number ys
    → IsRising number (placed number x ys)
rising-placed number x [] rising = (tt, tt)
rising-placed {X} number x (y ∷ ys) rising = split (nat_lt (number x) (number y)) refl
    (rising-placed number x ys rising.1)
  where
    split : (b : Bool) → nat_lt (number x) (number y) ≡ b → IsRising number (placed number x ys)
        → IsRising number (cond b (x ∷ y ∷ ys) (y ∷ placed number x ys))
    split true h rest =
        let lt : number x < number y = lt_true (number x) (number y) h in (
          (
            omega (arith, lt),
            all-weaker (λ z. number y ≤ number z) (λ z. number x ≤ number z)
                (λ z le. omega (arith, le, lt)) ys rising.0,
          ),
          rising,
        )
    split false h rest = (
      all-placed (λ z. number y ≤ number z) number x ys
          (lt_false (number x) (number y) h) rising.0,
      rest,
    )

placed-first : {X : Type 0} (number : X → ℕ) (x : X) (ys : List X)
    → AllByRecursion (λ y. number x < number y) ys → placed number x ys ≡ x ∷ ys
placed-first number x [] all = refl
placed-first number x (y ∷ ys) all = ap (λ b. cond b (x ∷ y ∷ ys) (y ∷ placed number x ys))
    (lt_is (number x) (number y) all.0)

filter-placed : {X : Type 0} (p : X → Bool) (number : X → ℕ) (x : X) (ys : List X) → IsRising number ys
    → filter p (placed number x ys) ≡ cond (p x) (placed number x (filter p ys)) (filter p ys)
filter-placed p number x [] rising = refl
filter-placed {X} p number x (y ∷ ys) rising = split (nat_lt (number x) (number y)) refl
    (filter-placed p number x ys rising.1)
  where
    kept : List X
    kept = filter p (y ∷ ys)

    after : AllByRecursion (λ z. number x < number z) (y ∷ ys) → AllByRecursion (λ z. number x < number z)
        (filter p (y ∷ ys))
    after all = all-filter (λ z. number x < number z) (λ z. number x < number z) p (λ z h t. h) (y ∷ ys) all

    behind : (b c : Bool) → nat_lt (number x) (number y) ≡ false
        → cond b (y ∷ cond c (placed number x (filter p ys)) (filter p ys))
        (cond c (placed number x (filter p ys)) (filter p ys)) ≡ cond c
        (placed number x (cond b (y ∷ filter p ys) (filter p ys))) (cond b (y ∷ filter p ys) (filter p ys))
    behind true true h = ap (λ t. cond t (x ∷ y ∷ filter p ys) (y ∷ placed number x (filter p ys))) (sym h)
    behind true false h = refl
    behind false true h = refl
    behind false false h = refl

    split : (b : Bool) → nat_lt (number x) (number y) ≡ b → filter p (placed number x ys) ≡ cond (p x)
        (placed number x (filter p ys)) (filter p ys)
        → filter p (cond b (x ∷ y ∷ ys) (y ∷ placed number x ys)) ≡ cond (p x)
        (placed number x (filter p (y ∷ ys))) (filter p (y ∷ ys))
    split true h rest =
        let lt : number x < number y = lt_true (number x) (number y) h in
        ap (λ zs. cond (p x) zs (filter p (y ∷ ys)))
        (sym (placed-first number x (filter p (y ∷ ys))
        (after (
          lt,
          all-weaker (λ z. number y ≤ number z) (λ z. number x < number z)
              (λ z le. omega (arith, le, lt)) ys rising.0,
        ))))
    split false h rest = ap (λ zs. cond (p y) (y ∷ zs) zs) rest ∙ behind (p y) (p x) h

sorted-filter_from : {X : Type 0} (p : X → Bool) (number : X → ℕ) (done xs : List X) → IsRising number done
    → filter p (sorted_into number done xs) ≡ sorted_into number (filter p done) (filter p xs)
sorted-filter_from p number done [] rising = refl
sorted-filter_from p number done (x ∷ xs) rising =
    sorted-filter_from p number (placed number x done) xs (rising-placed number x done rising)
    ∙ ap (λ d. sorted_into number d (filter p xs)) (filter-placed p number x done rising)
    ∙ split (p x)
  where
    split : (b : Bool) → sorted_into number (cond b (placed number x (filter p done)) (filter p done))
        (filter p xs) ≡ sorted_into number (filter p done) (cond b (x ∷ filter p xs) (filter p xs))
    split true = refl
    split false = refl

pub sorted-filter : {X : Type 0} (p : X → Bool) (number : X → ℕ) (xs : List X)
    → filter p (sorted_into number [] xs) ≡ sorted_into number [] (filter p xs)
sorted-filter p number xs = sorted-filter_from p number [] xs tt

-- where a test passes, the first that passes it is found, and has what each has
pub found_first : {X : Type 0} (P : X → Type 0) (t : X → Bool) (xs : List X) → AllByRecursion P xs
    → list_any t xs ≡ true → (x : X) × (find t xs ≡ Some x) × P x × (t x ≡ true)
found_first P t [] all e = absurd (false≢true e)
found_first {X} P t (x ∷ xs) all e = split (t x) refl e (found_first P t xs all.1)
  where
    split : (b : Bool) → t x ≡ b → (b || list_any t xs) ≡ true
        → (list_any t xs ≡ true → (y : X) × (find t xs ≡ Some y) × P y × (t y ≡ true)) → (y : X)
        × (cond b (Some x) (find t xs) ≡ Some y) × P y × (t y ≡ true)
    split true is e rest = (x, refl, all.0, is)
    split false is e rest = rest e
