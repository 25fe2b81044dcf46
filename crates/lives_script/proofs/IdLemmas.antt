-- Ranges of ids, by their numbers.
use Rattle.std.proofs.Common.{◌≡◌, ◌⊎◌, ℕ, ◌+◌, ◌-◌, ◌%◌, ◌^◌, ◌<◌, ◌≤◌, Bool, true, false, ◌||◌, nat_lt, List, [], ◌∷◌}
use Rattle.std.proofs.Common.{◌++◌, refl, sym, ◌∙◌, inl, inr, arith}
use Rattle.std.specs.List.{AllByRecursion, list_any}
use Rattle.std.proofs.lemmas.Bool.{cases_Bool}
use Rattle.std.proofs.lemmas.Bool.Decides.{nat_tests}
use Rattle.lives_script.specs.Ids.{Ids, IsRange, IsIn, Meet, MeetSome, AreApartIds, ahead, meets}

abbrev pub ids_from : ℕ → ℕ → Ids
ids_from from count = record { from = from; count = count }

pub lt_is : (m n : ℕ) → nat_lt m n ≡ true → m < n
lt_is m n e = grind (arith, nat_tests)

is_lt : (m n : ℕ) → m < n → nat_lt m n ≡ true
is_lt m n lt = grind (arith, nat_tests)

or_left : (a b : Bool) → a ≡ true → (a || b) ≡ true
or_left true b e = refl
or_left false b e = absurd cc

or_right : (a b : Bool) → b ≡ true → (a || b) ≡ true
or_right true b e = refl
or_right false b e = e

or_cases : (a b : Bool) → (a || b) ≡ true → (a ≡ true) ⊎ (b ≡ true)
or_cases true b e = inl refl
or_cases false b e = inr e

-- the number that stands so far ahead
reached : (from to : ℕ) → from < 2 ^ 64 → to < 2 ^ 64 → to ≡ (from + ahead from to) % 2 ^ 64
reached from to a b = omega (arith, a, b)

own_first : (from : ℕ) → from < 2 ^ 64 → from ≡ (from + 0) % 2 ^ 64
own_first from a = omega (arith, a)

pub meets_sound : (r s : Ids) → IsRange r → IsRange s → meets r s ≡ true → Meet r s
meets_sound r s p q e = elim (or_cases (nat_lt (ahead r.from s.from) r.count) (nat_lt (ahead s.from r.from) s.count) e) [
  | inl a ↦ (
    s.from,
    (ahead r.from s.from, lt_is (ahead r.from s.from) r.count a, reached r.from s.from p.from_fits q.from_fits),
    (0, omega (arith, q.some), own_first s.from q.from_fits),
  )
  | inr a ↦ (
    r.from,
    (0, omega (arith, p.some), own_first r.from p.from_fits),
    (ahead s.from r.from, lt_is (ahead s.from r.from) s.count a, reached s.from r.from q.from_fits p.from_fits),
  )
]

-- one of two numbers that reach the same id is the other's first
one_ahead : (a b i j m n : ℕ) → a < 2 ^ 64 → b < 2 ^ 64 → i < m → j < n → m < 2 ^ 64 → n < 2 ^ 64
    → (a + i) % 2 ^ 64 ≡ (b + j) % 2 ^ 64 → (ahead a b < m) ⊎ (ahead b a < n)
one_ahead a b i j m n fa fb less lesser fm fn same = elim (cases_Bool (nat_lt i j)) [
  | inl e ↦ let before = lt_is i j e in inr (omega (arith, fa, fb, less, lesser, fm, fn, same, before))
  | inr e ↦
      let behind : j ≤ i = grind (arith, nat_tests) in
      inl (omega (arith, fa, fb, less, lesser, fm, fn, same, behind))
]

pub meets_complete : (r s : Ids) → IsRange r → IsRange s → Meet r s → meets r s ≡ true
meets_complete r s p q m =
    let i = m.1 in
    let j = m.2 in
    let same : (r.from + i.0) % 2 ^ 64 ≡ (s.from + j.0) % 2 ^ 64 = sym i.2 ∙ j.2 in
    let left = nat_lt (ahead r.from s.from) r.count in
    let right = nat_lt (ahead s.from r.from) s.count in
    elim (one_ahead r.from s.from i.0 j.0 r.count s.count p.from_fits q.from_fits i.1 j.1 p.count_fits q.count_fits
    same) [
      | inl a ↦ or_left left right (is_lt (ahead r.from s.from) r.count a)
      | inr a ↦ or_right left right (is_lt (ahead s.from r.from) s.count a)
    ]

-- ---- many ranges

pub any_sound : (rs : List Ids) (s : Ids) → AllByRecursion IsRange rs → IsRange s
    → list_any (λ r. meets r s) rs ≡ true → MeetSome rs s
any_sound [] s all q e = absurd cc
any_sound (r ∷ rs) s all q e = elim (or_cases (meets r s) (list_any (λ x. meets x s) rs) e) [
  | inl a ↦ inl (meets_sound r s all.0 q a)
  | inr a ↦ inr (any_sound rs s all.1 q a)
]

pub any_complete : (rs : List Ids) (s : Ids) → AllByRecursion IsRange rs → IsRange s → MeetSome rs s
    → list_any (λ r. meets r s) rs ≡ true
any_complete [] s all q m = absurd m
any_complete (r ∷ rs) s all q (inl m) = or_left (meets r s) (list_any (λ x. meets x s) rs)
    (meets_complete r s all.0 q m)
any_complete (r ∷ rs) s all q (inr m) = or_right (meets r s) (list_any (λ x. meets x s) rs)
    (any_complete rs s all.1 q m)

apart_all : (P : Ids → Type 0) (rs : List Ids) (s : Ids) → AllByRecursion P rs → P s → AllByRecursion P (rs ++ s ∷ [])
apart_all P [] s all p = (p, tt)
apart_all P (r ∷ rs) s all p = (all.0, apart_all P rs s all.1 p)

pub ranges_push : (rs : List Ids) (s : Ids) → AllByRecursion IsRange rs → IsRange s
    → AllByRecursion IsRange (rs ++ s ∷ [])
ranges_push rs s all p = apart_all IsRange rs s all p

-- one more that meets none lies apart too
pub apart_push : (rs : List Ids) (s : Ids) → AreApartIds rs → (MeetSome rs s → ⊥) → AreApartIds (rs ++ s ∷ [])
apart_push [] s apart none = (tt, tt)
apart_push (r ∷ rs) s apart none = (
  apart_all (λ x. Meet r x → ⊥) rs s apart.0 (λ m. none (inl m)),
  apart_push rs s apart.1 (λ m. none (inr m)),
)

one_of : (P : Ids → Type 0) (front back : List Ids) (s : Ids) → AllByRecursion P (front ++ s ∷ back) → P s
one_of P [] back s all = all.0
one_of P (r ∷ front) back s all = one_of P front back s all.1

pub no_id_shared : (front between back : List Ids) (r s : Ids) (id : ℕ)
    → AreApartIds (front ++ r ∷ between ++ s ∷ back) → IsIn id r → IsIn id s → ⊥
no_id_shared [] between back r s id apart p q = one_of (λ x. Meet r x → ⊥) between back s apart.0 (id, p, q)
no_id_shared (x ∷ front) between back r s id apart p q = no_id_shared front between back r s id apart.1 p q
