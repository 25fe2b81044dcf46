-- What holds of each element, and of which element a test passes.
use Rattle.std.proofs.Common.{◌≡◌, ℕ, List, [], ◌∷◌, ◌++◌, Bool, true, false, cond, not, ◌&&◌, ◌||◌, map}
use Rattle.std.proofs.Common.{filter, Option, Some, None, refl, ap, ◌∙◌, sym, eq-eqb, eqb-true}
use Rattle.std.specs.Prelude.{option_to_list, ◌==◌}
use Rattle.std.specs.List.{AllByRecursion, list_any}
use Rattle.std.proofs.lemmas.Bool.{false≢true}
use Rattle.dist_types.specs.declared.ids.JobId.{JobId}
use Rattle.core_rules.specs.Log.{same_job, names}
use Rattle.core_rules.specs.Laws.{AreDistinct}

pub and_left : (a b : Bool) → (a && b) ≡ true → a ≡ true
and_left true b e = refl
and_left false b e = e

pub and_right : (a b : Bool) → (a && b) ≡ true → b ≡ true
and_right true b e = e
and_right false b e = absurd (false≢true e)

pub both : (a b : Bool) → a ≡ true → b ≡ true → (a && b) ≡ true
both a b p q = ap (λ x. x && b) p ∙ q

pub or_left : (a b : Bool) → (a || b) ≡ false → a ≡ false
or_left true b e = e
or_left false b e = refl

pub or_right : (a b : Bool) → (a || b) ≡ false → b ≡ false
or_right true b e = absurd (false≢true (sym e))
or_right false b e = e

pub neither : (a b : Bool) → a ≡ false → b ≡ false → (a || b) ≡ false
neither a b p q = ap (λ x. x || b) p ∙ q

pub or_true : (a b : Bool) → b ≡ true → (a || b) ≡ true
or_true true b e = refl
or_true false b e = e

pub not_true : (b : Bool) → not b ≡ true → b ≡ false
not_true true e = absurd (false≢true e)
not_true false e = refl

pub not_false : (b : Bool) → b ≡ false → not b ≡ true
not_false b e = ap not e

pub true_false : (b : Bool) → b ≡ true → b ≡ false → ⊥
true_false b t f = false≢true (sym f ∙ t)

-- a test that can't be true is false
pub is_false : (b : Bool) → (b ≡ true → ⊥) → b ≡ false
is_false true h = absurd (h refl)
is_false false h = refl

pub same_job-refl : (j : JobId) → same_job j j ≡ true
same_job-refl j = eq-eqb j.0 j.0 refl

pub same_job-sym : (a b : JobId) → same_job a b ≡ true → same_job b a ≡ true
same_job-sym a b e = eq-eqb b.0 a.0 (sym (eqb-true a.0 b.0 e))

pub same_job-trans : (a b c : JobId) → same_job a b ≡ true → same_job b c ≡ true → same_job a c ≡ true
same_job-trans a b c p q = eq-eqb a.0 c.0 (eqb-true a.0 b.0 p ∙ eqb-true b.0 c.0 q)

pub same_job-eq : (a b : JobId) → same_job a b ≡ true → a ≡ b
same_job-eq a b e = ap (λ n. record { 0 = n }) (eqb-true a.0 b.0 e)

pub other_job-sym : (a b : JobId) → same_job a b ≡ false → same_job b a ≡ false
other_job-sym a b e = is_false (same_job b a) (λ t. true_false (same_job a b) (same_job-sym b a t) e)

pub all-weaker : {X : Type 0} (P Q : X → Type 0) → ((x : X) → P x → Q x) → (xs : List X) → AllByRecursion P xs
    → AllByRecursion Q xs
all-weaker P Q h [] all = tt
all-weaker P Q h (x ∷ xs) all = (h x all.0, all-weaker P Q h xs all.1)

pub all-both : {X : Type 0} (P Q R : X → Type 0) → ((x : X) → P x → Q x → R x) → (xs : List X)
    → AllByRecursion P xs → AllByRecursion Q xs → AllByRecursion R xs
all-both P Q R h [] p q = tt
all-both P Q R h (x ∷ xs) p q = (h x p.0 q.0, all-both P Q R h xs p.1 q.1)

pub all-append : {X : Type 0} (P : X → Type 0) (xs ys : List X) → AllByRecursion P xs → AllByRecursion P ys
    → AllByRecursion P (xs ++ ys)
all-append P [] ys all more = more
all-append P (x ∷ xs) ys all more = (all.0, all-append P xs ys all.1 more)

pub all-filter : {X : Type 0} (P Q : X → Type 0) (p : X → Bool) → ((x : X) → P x → p x ≡ true → Q x)
    → (xs : List X) → AllByRecursion P xs → AllByRecursion Q (filter p xs)
all-filter P Q p h [] all = tt
all-filter P Q p h (x ∷ xs) all =
    let split : (b : Bool) → p x ≡ b → AllByRecursion Q (cond b (x ∷ filter p xs) (filter p xs)) =
    λ b. elim b as (λ b. p x ≡ b → AllByRecursion Q (cond b (x ∷ filter p xs) (filter p xs))) [
      | true ↦ λ e.
          (h x all.0 e, all-filter P Q p h xs all.1)
      | false ↦ λ e. all-filter P Q p h xs all.1
    ] in
    split (p x) refl

pub all-map : {X Y : Type 0} (P : Y → Type 0) (f : X → Y) (xs : List X) → AllByRecursion (λ x. P (f x)) xs
    → AllByRecursion P (map f xs)
all-map P f [] all = tt
all-map P f (x ∷ xs) all = (all.0, all-map P f xs all.1)

pub all-unmap : {X Y : Type 0} (P : Y → Type 0) (f : X → Y) (xs : List X) → AllByRecursion P (map f xs)
    → AllByRecursion (λ x. P (f x)) xs
all-unmap P f [] all = tt
all-unmap P f (x ∷ xs) all = (all.0, all-unmap P f xs all.1)

-- what each kept element and the new one have, the list after a step has
pub all-step : {X : Type 0} (P Q : X → Type 0) (p : X → Bool) (o : Option X)
    → ((x : X) → P x → p x ≡ true → Q x) → AllByRecursion Q (option_to_list o) → (xs : List X)
    → AllByRecursion P xs → AllByRecursion Q (filter p xs ++ option_to_list o)
all-step P Q p o h new xs all = all-append Q (filter p xs) (option_to_list o) (all-filter P Q p h xs all) new

-- a test passes where it passed before, in a longer list
pub any-append : {X : Type 0} (p : X → Bool) (xs ys : List X) → list_any p xs ≡ true
    → list_any p (xs ++ ys) ≡ true
any-append p [] ys e = absurd (false≢true e)
any-append p (x ∷ xs) ys e =
    let split : (b : Bool) → (b || list_any p xs) ≡ true → (b || list_any p (xs ++ ys)) ≡ true =
    λ b. elim b as (λ b. (b || list_any p xs) ≡ true → (b || list_any p (xs ++ ys)) ≡ true) [
      | true ↦ λ e.
          refl
      | false ↦ λ e. any-append p xs ys e
    ] in
    split (p x) e

pub any-end : {X : Type 0} (p : X → Bool) (xs : List X) (x : X) → p x ≡ true
    → list_any p (xs ++ x ∷ []) ≡ true
any-end p [] x e = ap (λ b. b || false) e
any-end p (y ∷ ys) x e = or_true (p y) (list_any p (ys ++ x ∷ [])) (any-end p ys x e)

-- it passes among those kept, where what passes it is kept; and another test passes, where what passes it
-- passes that
pub any-kept : {X : Type 0} (P : X → Type 0) (t u p : X → Bool)
    → ((x : X) → P x → t x ≡ true → (u x ≡ true) × (p x ≡ true)) → (xs : List X) → AllByRecursion P xs
    → list_any t xs ≡ true → list_any u (filter p xs) ≡ true
any-kept P t u p h [] all e = absurd (false≢true e)
any-kept P t u p h (x ∷ xs) all e =
    let rest : List _ = filter p xs in
    let split : (b : Bool) → t x ≡ b → (b || list_any t xs) ≡ true
    → list_any u (cond (p x) (x ∷ filter p xs) (filter p xs)) ≡ true =
    λ b. elim b as (λ b. t x ≡ b → (b || list_any t xs) ≡ true
    → list_any u (cond (p x) (x ∷ filter p xs) (filter p xs)) ≡ true) [
      | true ↦ λ is some. rw (h x all.0 is).1 (ap (λ b. b || list_any u (filter p xs)) (h x all.0 is).0)
      | false ↦ λ is some. elim (p x) as (λ b. list_any u (cond b (x ∷ filter p xs) (filter p xs)) ≡ true) [
        | true ↦ or_true (u x) (list_any u (filter p xs)) (any-kept P t u p h xs all.1 some)
        | false ↦ any-kept P t u p h xs all.1 some
      ]
    ] in
    split (t x) refl e

-- a test that passes nowhere passes nowhere among those kept
pub none-kept : {X : Type 0} (t p : X → Bool) (xs : List X) → list_any t xs ≡ false
    → list_any t (filter p xs) ≡ false
none-kept t p [] e = refl
none-kept t p (x ∷ xs) e = elim (p x) as (λ b. list_any t (cond b (x ∷ filter p xs) (filter p xs)) ≡ false) [
  | true ↦ neither (t x) (list_any t (filter p xs)) (or_left (t x) (list_any t xs) e)
      (none-kept t p xs (or_right (t x) (list_any t xs) e))
  | false ↦ none-kept t p xs (or_right (t x) (list_any t xs) e)
]

-- nor where none of those kept passes it
pub none-left : {X : Type 0} (t p : X → Bool) → ((x : X) → p x ≡ true → t x ≡ false) → (xs : List X)
    → list_any t (filter p xs) ≡ false
none-left t p h [] = refl
none-left t p h (x ∷ xs) =
    let split : (b : Bool) → p x ≡ b → list_any t (cond b (x ∷ filter p xs) (filter p xs)) ≡ false =
    λ b. elim b as (λ b. p x ≡ b → list_any t (cond b (x ∷ filter p xs) (filter p xs)) ≡ false) [
      | true ↦ λ e.
          neither (t x) (list_any t (filter p xs)) (h x e) (none-left t p h xs)
      | false ↦ λ e.
          none-left t p h xs
    ] in
    split (p x) refl

pub none-append : {X : Type 0} (t : X → Bool) (xs : List X) (o : Option X) → list_any t xs ≡ false
    → AllByRecursion (λ x. t x ≡ false) (option_to_list o) → list_any t (xs ++ option_to_list o) ≡ false
none-append t [] None e new = refl
none-append t [] (Some x) e new = neither (t x) false new.0 refl
none-append t (y ∷ ys) o e new = neither (t y) (list_any t (ys ++ option_to_list o))
    (or_left (t y) (list_any t ys) e) (none-append t ys o (or_right (t y) (list_any t ys) e) new)

-- where a test passes, there is an element that passes it and has what each has
pub found : {X : Type 0} (P : X → Type 0) (t : X → Bool) (xs : List X) → AllByRecursion P xs
    → list_any t xs ≡ true → (x : X) × P x × (t x ≡ true)
found P t [] all e = absurd (false≢true e)
found P t (x ∷ xs) all e =
    let split : (b : Bool) → t x ≡ b → (b || list_any t xs) ≡ true → (x : _) × P x × (t x ≡ true) =
    λ b. elim b as (λ b. t x ≡ b → (b || list_any t xs) ≡ true → (x : _) × P x × (t x ≡ true))
    [ true ↦ λ is some. (x, all.0, is) | false ↦ λ is some. found P t xs all.1 some ] in
    split (t x) refl e

-- distinct jobs stay so

pub distinct-push : (js : List JobId) (j : JobId) → AreDistinct js
    → AllByRecursion (λ k. same_job k j ≡ false) js → AreDistinct (js ++ j ∷ [])
distinct-push [] j apart all = (tt, tt)
distinct-push (k ∷ js) j apart all = (
  all-append (λ i. same_job i k ≡ false) js (j ∷ []) apart.0 (other_job-sym k j all.0, tt),
  distinct-push js j apart.1 all.1,
)

pub distinct-filter : {X : Type 0} (job : X → JobId) (p : X → Bool) (xs : List X) → AreDistinct (map job xs)
    → AreDistinct (map job (filter p xs))
distinct-filter job p [] apart = tt
distinct-filter job p (x ∷ xs) apart =
    elim (p x) as (λ b. AreDistinct (map job (cond b (x ∷ filter p xs) (filter p xs)))) [
      | true ↦ (
        all-map (λ k. same_job k (job x) ≡ false) job (filter p xs)
            (all-filter (λ y. same_job (job y) (job x) ≡ false) (λ y. same_job (job y) (job x) ≡ false) p
            (λ y h e. h) xs (all-unmap (λ k. same_job k (job x) ≡ false) job xs apart.0)),
        distinct-filter job p xs apart.1,
      )
      | false ↦ distinct-filter job p xs apart.1
    ]

-- among distinct jobs, what passes a test with a job is the only one with it
pub none_same : {X : Type 0} (job : X → JobId) (j k : JobId) → same_job k j ≡ true → (xs : List X)
    → AllByRecursion (λ i. same_job i k ≡ false) (map job xs) → filter (λ x. same_job (job x) j) xs ≡ []
none_same job j k same [] all = refl
none_same job j k same (x ∷ xs) all =
    let other : same_job (job x) j ≡ false = is_false (same_job (job x) j)
    (λ t. true_false (same_job (job x) k) (same_job-trans (job x) j k t (same_job-sym k j same)) all.0) in
    rw other (none_same job j k same xs all.1)

pub only : {X : Type 0} (job : X → JobId) (j : JobId) (xs : List X) → AreDistinct (map job xs)
    → list_any (λ x. same_job (job x) j) xs ≡ true → (x : X) × (filter (λ x. same_job (job x) j) xs ≡ x ∷ [])
only job j [] apart e = absurd (false≢true e)
only job j (x ∷ xs) apart e =
    let split : (b : Bool) → same_job (job x) j ≡ b → (b || list_any (λ x. same_job (job x) j) xs) ≡ true
    → (y : _) × (cond b (x ∷ filter (λ x. same_job (job x) j) xs) (filter (λ x. same_job (job x) j) xs)
    ≡ y ∷ []) =
    λ b. elim b as (λ b. same_job (job x) j ≡ b → (b || list_any (λ x. same_job (job x) j) xs) ≡ true
    → (y : _) × (cond b (x ∷ filter (λ x. same_job (job x) j) xs) (filter (λ x. same_job (job x) j) xs)
    ≡ y ∷ [])) [
      | true ↦ λ is some. (x, ap (λ ys. x ∷ ys) (none_same job j (job x) is xs apart.0))
      | false ↦ λ is some. only job j xs apart.1 some
    ] in
    split (same_job (job x) j) refl e

-- a test that passes one with the job, among those that pass it, passes each with the job
pub each_same : {X : Type 0} (job : X → JobId) (q : X → Bool) (j : JobId) (xs : List X)
    → AreDistinct (map job xs) → list_any (λ x. same_job (job x) j) (filter q xs) ≡ true
    → AllByRecursion (λ x. same_job (job x) j ≡ true → q x ≡ true) xs
each_same job q j [] apart e = tt
each_same {X} job q j (x ∷ xs) apart e =
    let t : X → Bool = λ x. same_job (job x) j in
    let split : (b : Bool) → q x ≡ b → list_any t (cond b (x ∷ filter q xs) (filter q xs)) ≡ true
    → (same_job (job x) j ≡ true → q x ≡ true)
    × AllByRecursion (λ x. same_job (job x) j ≡ true → q x ≡ true) xs =
    λ b. elim b as (λ b. q x ≡ b → list_any t (cond b (x ∷ filter q xs) (filter q xs)) ≡ true
    → (same_job (job x) j ≡ true → q x ≡ true)
    × AllByRecursion (λ x. same_job (job x) j ≡ true → q x ≡ true) xs) [
      | true ↦ λ is some. (
        λ h. is,
        (let at : (b : Bool) → t x ≡ b → (b || list_any t (filter q xs)) ≡ true
            → AllByRecursion (λ y. same_job (job y) j ≡ true → q y ≡ true) xs =
            λ b. elim b as (λ b. t x ≡ b → (b || list_any t (filter q xs)) ≡ true
            → AllByRecursion (λ y. same_job (job y) j ≡ true → q y ≡ true) xs) [
              | true ↦ λ here any. all-weaker (λ y. same_job (job y) (job x) ≡ false)
                  (λ y. same_job (job y) j ≡ true → q y ≡ true)
                  (λ y other same. absurd (true_false (same_job (job y) (job x))
                  (same_job-trans (job y) j (job x) same (same_job-sym (job x) j here)) other)) xs
                  (all-unmap (λ k. same_job k (job x) ≡ false) job xs apart.0)
              | false ↦ λ here any. each_same job q j xs apart.1 any
            ] in at (t x) refl some),
      )
      | false ↦ λ is some.
          let there : (y : X) × (same_job (job y) (job x) ≡ false) × (t y ≡ true) =
          found (λ y. same_job (job y) (job x) ≡ false) t (filter q xs)
          (all-filter (λ y. same_job (job y) (job x) ≡ false) (λ y. same_job (job y) (job x) ≡ false) q
          (λ y h e. h) xs (all-unmap (λ k. same_job k (job x) ≡ false) job xs apart.0)) some in (
            λ h. absurd (true_false (same_job (job there.0) (job x))
                (same_job-trans (job there.0) j (job x) there.2 (same_job-sym (job x) j h)) there.1),
            each_same job q j xs apart.1 some,
          )
    ] in
    split (q x) refl e

-- the number is among those
pub names-filter : (p : ℕ → Bool) (xs : List ℕ) (r : ℕ) → names xs r ≡ true → p r ≡ true
    → names (filter p xs) r ≡ true
names-filter p [] r e h = absurd (false≢true e)
names-filter p (x ∷ xs) r e h =
    let split : (b : Bool) → (x == r) ≡ b → (b || names xs r) ≡ true
    → names (cond (p x) (x ∷ filter p xs) (filter p xs)) r ≡ true =
    λ b. elim b as (λ b. (x == r) ≡ b → (b || names xs r) ≡ true
    → names (cond (p x) (x ∷ filter p xs) (filter p xs)) r ≡ true) [
      | true ↦ λ is some. rw (ap p (eqb-true x r is) ∙ h) (ap (λ b. b || names (filter p xs) r) is)
      | false ↦ λ is some. elim (p x) as (λ b. names (cond b (x ∷ filter p xs) (filter p xs)) r ≡ true) [
        | true ↦ or_true (x == r) (names (filter p xs) r) (names-filter p xs r some h)
        | false ↦ names-filter p xs r some h
      ]
    ] in
    split (x == r) refl e

-- among distinct jobs, whose own job is among those that pass passes
pub each_own : {X : Type 0} (job : X → JobId) (q : X → Bool) (xs : List X) → AreDistinct (map job xs)
    → AllByRecursion (λ b. list_any (λ y. same_job (job y) (job b)) (filter q xs) ≡ true → q b ≡ true) xs
each_own job q [] apart = tt
each_own {X} job q (x ∷ xs) apart =
    let others : AllByRecursion (λ y. same_job (job y) (job x) ≡ false) xs =
    all-unmap (λ k. same_job k (job x) ≡ false) job xs apart.0 in
    let first : (b : Bool) → q x ≡ b → list_any (λ y. same_job (job y) (job x))
    (cond b (x ∷ filter q xs) (filter q xs)) ≡ true → q x ≡ true =
    λ b. elim b as (λ b. q x ≡ b → list_any (λ y. same_job (job y) (job x))
    (cond b (x ∷ filter q xs) (filter q xs)) ≡ true → q x ≡ true) [
      | true ↦ λ is some. is
      | false ↦ λ is some.
          let there : (y : X) × (same_job (job y) (job x) ≡ false) × (same_job (job y) (job x) ≡ true) =
          found (λ y. same_job (job y) (job x) ≡ false) (λ y. same_job (job y) (job x)) (filter q xs)
          (all-filter (λ y. same_job (job y) (job x) ≡ false) (λ y. same_job (job y) (job x) ≡ false) q
          (λ y h e. h) xs others) some in
          absurd (true_false (same_job (job there.0) (job x)) there.2 there.1)
    ] in
    let later : (b : X) → same_job (job b) (job x) ≡ false
    → (list_any (λ y. same_job (job y) (job b)) (filter q xs) ≡ true → q b ≡ true)
    → list_any (λ y. same_job (job y) (job b)) (filter q (x ∷ xs)) ≡ true → q b ≡ true =
    λ b other h some.
    let split : (c : Bool) → list_any (λ y. same_job (job y) (job b)) (cond c (x ∷ filter q xs) (filter q xs))
    ≡ true → list_any (λ y. same_job (job y) (job b)) (filter q xs) ≡ true =
    λ c. elim c as (λ c. list_any (λ y. same_job (job y) (job b)) (cond c (x ∷ filter q xs) (filter q xs))
    ≡ true → list_any (λ y. same_job (job y) (job b)) (filter q xs) ≡ true) [
      | true ↦ λ s. sym (ap (λ t. t || list_any (λ y. same_job (job y) (job b)) (filter q xs))
          (other_job-sym (job b) (job x) other)) ∙ s
      | false ↦ λ s. s
    ] in
    h (split (q x) some)
    in (
      first (q x) refl,
      all-both (λ b. same_job (job b) (job x) ≡ false)
          (λ b. list_any (λ y. same_job (job y) (job b)) (filter q xs) ≡ true → q b ≡ true)
          (λ b. list_any (λ y. same_job (job y) (job b)) (filter q (x ∷ xs)) ≡ true → q b ≡ true) later xs
          others (each_own job q xs apart.1),
    )

-- where a test passes one of those kept, it passes one of all
pub any-all : {X : Type 0} (t p : X → Bool) (xs : List X) → list_any t (filter p xs) ≡ true
    → list_any t xs ≡ true
any-all t p [] e = e
any-all {X} t p (x ∷ xs) e =
    let split : (b : Bool) → list_any t (cond b (x ∷ filter p xs) (filter p xs)) ≡ true
    → (t x || list_any t xs) ≡ true =
    λ b. elim b as (λ b. list_any t (cond b (x ∷ filter p xs) (filter p xs)) ≡ true
    → (t x || list_any t xs) ≡ true) [
      | true ↦ λ s.
          let at : (c : Bool) → (c || list_any t (filter p xs)) ≡ true → (c || list_any t xs) ≡ true =
          λ c. elim c as (λ c. (c || list_any t (filter p xs)) ≡ true → (c || list_any t xs) ≡ true)
          [ true ↦ λ s. refl | false ↦ λ s. any-all t p xs s ] in
          at (t x) s
      | false ↦ λ s. or_true (t x) (list_any t xs) (any-all t p xs s)
    ] in
    split (p x) e

pub any-weaker : {X : Type 0} (t u : X → Bool) → ((x : X) → t x ≡ true → u x ≡ true) → (xs : List X)
    → list_any t xs ≡ true → list_any u xs ≡ true
any-weaker t u h [] e = absurd (false≢true e)
any-weaker t u h (x ∷ xs) e =
    let split : (b : Bool) → t x ≡ b → (b || list_any t xs) ≡ true → (u x || list_any u xs) ≡ true =
    λ b. elim b as (λ b. t x ≡ b → (b || list_any t xs) ≡ true → (u x || list_any u xs) ≡ true) [
      | true ↦ λ is some. ap (λ b. b || list_any u xs) (h x is)
      | false ↦ λ is some. or_true (u x) (list_any u xs) (any-weaker t u h xs some)
    ] in
    split (t x) refl e

-- among distinct jobs each is the only one with its own
pub own_only : {X : Type 0} (job : X → JobId) (xs : List X) → AreDistinct (map job xs)
    → AllByRecursion (λ x. AllByRecursion (λ y. same_job (job y) (job x) ≡ true → y ≡ x) xs) xs
own_only job [] apart = tt
own_only job (x ∷ xs) apart =
    let others : AllByRecursion (λ y. same_job (job y) (job x) ≡ false) xs =
    all-unmap (λ k. same_job k (job x) ≡ false) job xs apart.0 in (
      (
        (λ h. refl),
        all-weaker (λ y. same_job (job y) (job x) ≡ false) (λ y. same_job (job y) (job x) ≡ true
            → y ≡ x) (λ y other h. absurd (true_false (same_job (job y) (job x)) h other)) xs others,
      ),
      all-both (λ y. same_job (job y) (job x) ≡ false)
          (λ z. AllByRecursion (λ y. same_job (job y) (job z) ≡ true → y ≡ z) xs)
          (λ z. AllByRecursion (λ y. same_job (job y) (job z) ≡ true → y ≡ z) (x ∷ xs))
          (λ z other all. (
            (λ h. absurd
                (true_false (same_job (job x) (job z)) h (other_job-sym (job z) (job x) other))),
            all,
          )) xs
          others (own_only job xs apart.1),
    )
