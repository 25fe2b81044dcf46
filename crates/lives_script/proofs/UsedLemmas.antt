-- Which ids the stretches have.
use Rattle.std.proofs.Common.{◌≡◌, ◌⊎◌, ℕ, ◌+◌, ◌-◌, ◌^◌, ◌<◌, ◌≤◌, Bool, true, false, nat_lt, List, [], ◌∷◌}
use Rattle.std.proofs.Common.{◌++◌, Option, Some, None, refl, sym, ap, ◌∙◌, inl, inr, arith}
use Rattle.std.specs.Prelude.{IsSome}
use Rattle.std.specs.List.{list_any}
use Rattle.std.specs.Ordering.{nat_cmp, is_gt}
use Rattle.std.specs.Map.{lookup}
use Rattle.std.specs.BTreeMap.{BTreeMap, get, Updates, is_at}
use Rattle.std.specs.BTreeMap.Range.{IsRangeOf}
use Rattle.std.specs.declared.ops.Bound.TheVariants.{Included, Unbounded}
use Rattle.std.proofs.lemmas.Bool.{cases_Bool}
use Rattle.std.proofs.lemmas.Bool.Decides.{nat_tests}
use Rattle.std.proofs.lemmas.Map.Keys.{le_from_not_gt, ge_from_not_lt}
use Rattle.std.proofs.lemmas.Option.{same_Some}
use Rattle.line_program.proofs.FirstFaultyLemmas.{choice}
use Rattle.farm_script.proofs.FieldLemmas.{cond_is, cond_off}
use Rattle.lives_script.specs.Ids.{Ids, IsRange, IsIn, MeetSome, meets}
use Rattle.lives_script.specs.Used.{IsBetween, AreEnds, Covers, AreOrdered, IsAdded, IsInSome, Keeps}
use Rattle.lives_script.proofs.IdLemmas.{ids_from, lt_is, any_sound, any_complete, ranges_push}

pub made_range : (from count : ℕ) → from < 2 ^ 64 → 1 ≤ count → count < 2 ^ 64 → IsRange (ids_from from count)
made_range from count small some few = record { from_fits = small; some = some; count_fits = few }

-- ---- a range as one stretch or two

-- the id is up to the end from 0 on, where the range wraps
abbrev pub IsWrapped : Option ℕ → ℕ → Type 0
IsWrapped None id = ⊥
IsWrapped (Some end) id = IsBetween 0 end id

pub split_range : (r : Ids) (last id : ℕ) (end : Option ℕ) → IsRange r → AreEnds r last end → IsIn id r
    → IsBetween r.from last id ⊎ IsWrapped end id
split_range r last id None p ends is =
    let k = is.0 in
    let less = is.1 in
    let at = is.2 in
    let a = ends.0 in
    let b = ends.1 in
    let small = p.from_fits in
    inl (record { from = omega (arith, small, less, at, a, b); to = omega (arith, small, less, at, a, b) })
split_range r last id (Some end) p ends is =
    let k = is.0 in
    let less = is.1 in
    let at = is.2 in
    let a = ends.0 in
    let b = ends.1 in
    let small = p.from_fits in
    let few = p.count_fits in
    elim (cases_Bool (nat_lt (r.from + k) (2 ^ 64))) [
      | inl e ↦
          let within : r.from + k < 2 ^ 64 = grind (arith, nat_tests) in
          inl (record { from = omega (arith, small, less, at, a, b, within); to = omega (arith, less, at, a, b, within) })
      | inr e ↦
          let past : 2 ^ 64 ≤ r.from + k = grind (arith, nat_tests) in
          inr (record { from = omega arith; to = omega (arith, small, less, few, at, a, b, past) })
    ]

pub first_part : (r : Ids) (last id : ℕ) (end : Option ℕ) → IsRange r → AreEnds r last end
    → IsBetween r.from last id → IsIn id r
first_part r last id None p ends is =
    let a = ends.0 in
    let b = ends.1 in
    let small = p.from_fits in
    (id - r.from, omega (arith, is.from, is.to, a, b), omega (arith, is.from, is.to, a, b, small))
first_part r last id (Some end) p ends is =
    let a = ends.0 in
    let b = ends.1 in
    let small = p.from_fits in
    (id - r.from, omega (arith, is.from, is.to, a, b, small), omega (arith, is.from, is.to, a, b, small))

pub wrapped_part : (r : Ids) (last id : ℕ) (end : Option ℕ) → IsRange r → AreEnds r last end
    → IsWrapped end id → IsIn id r
wrapped_part r last id None p ends is = absurd is
wrapped_part r last id (Some end) p ends is =
    let a = ends.0 in
    let b = ends.1 in
    let small = p.from_fits in
    let few = p.count_fits in
    (id + 2 ^ 64 - r.from, omega (arith, is.to, a, b, small, few), omega (arith, is.to, a, b, small, few))

-- the first part has the first id
pub from_last : (r : Ids) (last : ℕ) (end : Option ℕ) → IsRange r → AreEnds r last end → r.from ≤ last
from_last r last None p ends = omega (arith, p.some, ends.0)
from_last r last (Some end) p ends = omega (arith, p.from_fits, ends.0)

-- the parts of a range that wraps have no number in common
pub parts_apart : (r : Ids) (last id end : ℕ) → IsRange r → AreEnds r last (Some end) → IsBetween r.from last id
    → IsBetween 0 end id → ⊥
parts_apart r last id end p ends is also = omega (arith, ends.1, p.count_fits, is.from, also.to)

-- ---- ids that are in some range

pub in_both : (rs : List Ids) (s : Ids) (id : ℕ) → IsIn id s → IsInSome id rs → MeetSome rs s
in_both [] s id is some = absurd some
in_both (r ∷ rs) s id is (inl some) = inl (id, some, is)
in_both (r ∷ rs) s id is (inr some) = inr (in_both rs s id is some)

pub met_at : (rs : List Ids) (s : Ids) → MeetSome rs s → (id : ℕ) × IsIn id s × IsInSome id rs
met_at [] s m = absurd m
met_at (r ∷ rs) s (inl m) = (m.0, m.2, inl m.1)
met_at (r ∷ rs) s (inr m) = let x = met_at rs s m in (x.0, x.1, inr x.2)

some_pushed : (rs : List Ids) (s : Ids) (id : ℕ) → IsInSome id rs → IsInSome id (rs ++ s ∷ [])
some_pushed [] s id is = absurd is
some_pushed (r ∷ rs) s id (inl is) = inl is
some_pushed (r ∷ rs) s id (inr is) = inr (some_pushed rs s id is)

last_pushed : (rs : List Ids) (s : Ids) (id : ℕ) → IsIn id s → IsInSome id (rs ++ s ∷ [])
last_pushed [] s id is = inl is
last_pushed (r ∷ rs) s id is = inr (last_pushed rs s id is)

pushed_cases : (rs : List Ids) (s : Ids) (id : ℕ) → IsInSome id (rs ++ s ∷ []) → IsInSome id rs ⊎ IsIn id s
pushed_cases [] s id (inl is) = inr is
pushed_cases [] s id (inr is) = absurd is
pushed_cases (r ∷ rs) s id (inl is) = inl (inl is)
pushed_cases (r ∷ rs) s id (inr is) = elim (pushed_cases rs s id is) [ inl a ↦ inl (inr a) | inr a ↦ inr a ]

-- ---- whether a range meets those that are kept

-- no id of the range is kept
abbrev pub IsFree : BTreeMap ℕ ℕ → Ids → Type 0
IsFree m s = (id : ℕ) → IsIn id s → Covers m id → ⊥

pub free_alone : (m : BTreeMap ℕ ℕ) (rs : List Ids) (s : Ids) → Keeps m rs → IsRange s → IsFree m s
    → false ≡ list_any (λ r. meets r s) rs
free_alone m rs s keeps p free = elim (cases_Bool (list_any (λ r. meets r s) rs)) [
  | inl e ↦
      let at = met_at rs s (any_sound rs s keeps.ranges p e) in
      absurd (free at.0 at.1 (keeps.all at.0 at.2))
  | inr e ↦ sym e
]

pub kept_meets : (m : BTreeMap ℕ ℕ) (rs : List Ids) (s : Ids) (id : ℕ) → Keeps m rs → IsRange s → IsIn id s
    → Covers m id → true ≡ list_any (λ r. meets r s) rs
kept_meets m rs s id keeps p is covered =
    sym (any_complete rs s keeps.ranges p (in_both rs s id is (keeps.only id covered)))

-- what meets none is free
pub is_free : (m : BTreeMap ℕ ℕ) (rs : List Ids) (s : Ids) → Keeps m rs → IsRange s
    → list_any (λ r. meets r s) rs ≡ false → IsFree m s
is_free m rs s keeps p e id is covered =
    let clash : true ≡ false = kept_meets m rs s id keeps p is covered ∙ e in
    absurd cc

-- what the two parts tell of the whole
pub by_parts : (m : BTreeMap ℕ ℕ) (rs : List Ids) (r : Ids) (last : ℕ) (end : Option ℕ) (b : Bool) → Keeps m rs
    → IsRange r → AreEnds r last end → ((id : ℕ) → IsBetween r.from last id → Covers m id → ⊥)
    → (b ≡ true → (id : ℕ) × IsWrapped end id × Covers m id)
    → (b ≡ false → (id : ℕ) → IsWrapped end id → Covers m id → ⊥) → b ≡ list_any (λ s. meets s r) rs
by_parts m rs r last end true keeps p ends first some none =
    let at = some refl in
    kept_meets m rs r at.0 keeps p (wrapped_part r last at.0 end p ends at.1) at.2
by_parts m rs r last end false keeps p ends first some none = free_alone m rs r keeps p
    (λ id is covered. elim (split_range r last id end p ends is) [
      | inl a ↦ first id a covered
      | inr a ↦ none refl id a covered
    ])

-- ---- one range more

-- the stretches have the numbers of a range more
pub record HasMore (r : Ids) (before m : BTreeMap ℕ ℕ) : Type 0 where
  pub ordered : AreOrdered m
  pub old : (id : ℕ) → Covers before id → Covers m id
  pub new : (id : ℕ) → IsIn id r → Covers m id
  pub only : (id : ℕ) → Covers m id → Covers before id ⊎ IsIn id r

pub one_part : (r : Ids) (last : ℕ) (before m : BTreeMap ℕ ℕ) → IsRange r → AreEnds r last None
    → IsAdded r.from last before m → HasMore r before m
one_part r last before m p ends added = record {
  ordered = added.ordered;
  old = added.old;
  new = λ id is. elim (split_range r last id None p ends is) [ inl a ↦ added.new id a | inr a ↦ absurd a ];
  only = λ id is. elim (added.only id is) [ inl a ↦ inl a | inr a ↦ inr (first_part r last id None p ends a) ];
}

pub two_parts : (r : Ids) (last end : ℕ) (before middle m : BTreeMap ℕ ℕ) → IsRange r → AreEnds r last (Some end)
    → IsAdded r.from last before middle → IsAdded 0 end middle m → HasMore r before m
two_parts r last end before middle m p ends added more = record {
  ordered = more.ordered;
  old = λ id is. more.old id (added.old id is);
  new = λ id is. elim (split_range r last id (Some end) p ends is) [
    | inl a ↦ more.old id (added.new id a)
    | inr a ↦ more.new id a
  ];
  only = λ id is. elim (more.only id is) [
    | inl a ↦ elim (added.only id a) [ inl b ↦ inl b | inr b ↦ inr (first_part r last id (Some end) p ends b) ]
    | inr a ↦ inr (wrapped_part r last id (Some end) p ends a)
  ];
}

pub keeps_more : (m n : BTreeMap ℕ ℕ) (rs : List Ids) (s : Ids) → IsRange s → HasMore s m n → Keeps m rs
    → Keeps n (rs ++ s ∷ [])
keeps_more m n rs s p more keeps = record {
  ordered = more.ordered;
  ranges = ranges_push rs s keeps.ranges p;
  all = λ id is. elim (pushed_cases rs s id is) [
    | inl a ↦ more.old id (keeps.all id a)
    | inr a ↦ more.new id a
  ];
  only = λ id is. elim (more.only id is) [
    | inl a ↦ some_pushed rs s id (keeps.only id a)
    | inr a ↦ last_pushed rs s id a
  ];
}

-- the second part is free behind the first
pub second_free : (r : Ids) (last end : ℕ) (before middle : BTreeMap ℕ ℕ) → IsRange r → AreEnds r last (Some end)
    → IsAdded r.from last before middle → IsFree before r
    → (id : ℕ) → IsBetween 0 end id → Covers middle id → ⊥
second_free r last end before middle p ends added free id is covered = elim (added.only id covered) [
  | inl a ↦ free id (wrapped_part r last id (Some end) p ends is) a
  | inr a ↦ parts_apart r last id end p ends a is
]

-- ---- a stretch more

at_own : (n : ℕ) → is_at (nat_cmp n) n ≡ true
at_own n = grind (arith, nat_tests)

at_is : (m n : ℕ) → is_at (nat_cmp m) n ≡ true → m ≡ n
at_is m n e = grind (arith, nat_tests)

-- an entry is the one that was put in, or an old one
entry_is : (m n : BTreeMap ℕ ℕ) (first last q l : ℕ) → Updates nat_cmp m n first (Some last)
    → get nat_cmp n q ≡ Some l → ((first ≡ q) × (last ≡ l)) ⊎ (get nat_cmp m q ≡ Some l)
entry_is m n first last q l u e =
    elim (choice (is_at (nat_cmp first) q) (Some last) (get nat_cmp m q) (Some l) (sym (u.0 q) ∙ e)) [
      | inl p ↦ inl (at_is first q p.0, same_Some last l p.1)
      | inr p ↦ inr p.1
    ]

-- the numbers from the first to the last are not kept
abbrev pub IsFreeBetween : ℕ → ℕ → BTreeMap ℕ ℕ → Type 0
IsFreeBetween first last m = (id : ℕ) → IsBetween first last id → Covers m id → ⊥

own_covered : (m : BTreeMap ℕ ℕ) (f l id : ℕ) → get nat_cmp m f ≡ Some l → f ≤ id → id ≤ l → Covers m id
own_covered m f l id e from to = record { first = f; last = l; kept = e; between = record { from = from; to = to } }

added_apart : (m n : BTreeMap ℕ ℕ) (first last : ℕ) → Updates nat_cmp m n first (Some last) → first ≤ last
    → AreOrdered m → IsFreeBetween first last m → (f l g k : ℕ) → get nat_cmp n f ≡ Some l
    → get nat_cmp n g ≡ Some k → f < g → l < g
added_apart m n first last u some ordered free f l g k e h lt = elim (entry_is m n first last f l u e) [
  | inl a ↦ elim (entry_is m n first last g k u h) [
    | inl b ↦ absurd (omega (arith, a.0, b.0, lt))
    | inr b ↦ elim (cases_Bool (nat_lt l g)) [
      | inl c ↦ lt_is l g c
      | inr c ↦
          let within : g ≤ l = grind (arith, nat_tests) in
          absurd (free g (record { from = omega (arith, a.0, lt); to = omega (arith, a.1, within) })
          (own_covered m g k g b (omega arith) (ordered.some g k b)))
    ]
  ]
  | inr a ↦ elim (entry_is m n first last g k u h) [
    | inl b ↦ elim (cases_Bool (nat_lt l g)) [
      | inl c ↦ lt_is l g c
      | inr c ↦
          let within : g ≤ l = grind (arith, nat_tests) in
          absurd (free g (record { from = omega (arith, b.0); to = omega (arith, b.0, some) })
          (own_covered m f l g a (omega (arith, lt)) within))
    ]
    | inr b ↦ ordered.apart f l g k a b lt
  ]
]

old_kept : (m n : BTreeMap ℕ ℕ) (first last q l : ℕ) → Updates nat_cmp m n first (Some last) → first ≤ last
    → AreOrdered m → IsFreeBetween first last m → get nat_cmp m q ≡ Some l → get nat_cmp n q ≡ Some l
old_kept m n first last q l u some ordered free e = elim (cases_Bool (is_at (nat_cmp first) q)) [
  | inl a ↦
      let same : first ≡ q = at_is first q a in
      absurd (free q (record { from = omega (arith, same); to = omega (arith, same, some) })
      (own_covered m q l q e (omega arith) (ordered.some q l e)))
  | inr a ↦ u.0 q ∙ cond_off (is_at (nat_cmp first) q) (Some last) (get nat_cmp m q) a ∙ e
]

pub added : (m n : BTreeMap ℕ ℕ) (first last : ℕ) → Updates nat_cmp m n first (Some last) → first ≤ last
    → AreOrdered m → IsFreeBetween first last m → IsAdded first last m n
added m n first last u some ordered free = record {
  ordered = record {
    some = λ f l e. elim (entry_is m n first last f l u e) [
      | inl a ↦ omega (arith, a.0, a.1, some)
      | inr a ↦ ordered.some f l a
    ];
    apart = added_apart m n first last u some ordered free;
  };
  old = λ id c. record {
    first = c.first;
    last = c.last;
    kept = old_kept m n first last c.first c.last u some ordered free c.kept;
    between = c.between;
  };
  new = λ id b. record {
    first = first;
    last = last;
    kept = u.0 first ∙ cond_is (is_at (nat_cmp first) first) (Some last) (get nat_cmp m first) (at_own first);
    between = b;
  };
  only = λ id c. elim (entry_is m n first last c.first c.last u c.kept) [
    | inl a ↦ inr (record { from = omega (arith, a.0, c.between.from); to = omega (arith, a.1, c.between.to) })
    | inr a ↦ inl (record { first = c.first; last = c.last; kept = a; between = c.between })
  ];
}

-- nothing is kept in no stretches
pub keeps_none : (m : BTreeMap ℕ ℕ) → m.entries ≡ [] → Keeps m []
keeps_none m e = record {
  ordered = record { some = λ f l is. absurd (no_entry m f l e is); apart = λ f l g k is h lt. absurd (no_entry m f l e is) };
  ranges = tt;
  all = λ id is. absurd is;
  only = λ id c. absurd (no_entry m c.first c.last e c.kept);
}
  where
    no_entry : (m : BTreeMap ℕ ℕ) (f l : ℕ) → m.entries ≡ [] → get nat_cmp m f ≡ Some l → ⊥
    no_entry m f l e is =
        let none : get nat_cmp m f ≡ None = ap (lookup (is_at (nat_cmp f))) e in
        let clash : None ≡ Some l = sym none ∙ is in
        absurd cc

-- ---- the last stretch that begins up to a number

no_more : (a b : ℕ) → a ≤ b → is_gt (nat_cmp a b) ≡ false
no_more a b le = grind (arith, nat_tests)

is_kept : (o : Option ℕ) (l : ℕ) → o ≡ Some l → IsSome o
is_kept None l e = absurd cc
is_kept (Some k) l e = refl

pub none_between : (m : BTreeMap ℕ ℕ) (first last : ℕ) (r : List (ℕ × ℕ))
    → IsRangeOf nat_cmp Unbounded (Included last) m r → r ≡ [] → IsFreeBetween first last m
none_between m first last r range e id is c =
    let none : get nat_cmp m c.first ≡ None =
    range.5 e c.first (tt, no_more c.first last (omega (arith, c.between.from, is.to))) in
    let clash : None ≡ Some c.last = sym none ∙ c.kept in
    absurd cc

-- the last one ends before
pub before_between : (m : BTreeMap ℕ ℕ) (first last f e : ℕ) (r t : List (ℕ × ℕ)) → AreOrdered m
    → IsRangeOf nat_cmp Unbounded (Included last) m r → r ≡ t ++ (f, e) ∷ [] → e < first
    → IsFreeBetween first last m
before_between m first last f e r t ordered range is less id between c =
    let own : get nat_cmp m f ≡ Some e = (range.3 (f, e) t is).1 in
    let le : c.first ≤ f = ge_from_not_lt f c.first (range.4 (f, e) t is c.first
    (tt, no_more c.first last (omega (arith, c.between.from, between.to)))
    (is_kept (get nat_cmp m c.first) c.last c.kept)) in
    let some : f ≤ e = ordered.some f e own in
    elim (cases_Bool (nat_lt c.first f)) [
      | inl a ↦
          let ends : c.last < f = ordered.apart c.first c.last f e c.kept own (lt_is c.first f a) in
          absurd (omega (arith, ends, some, less, between.from, c.between.to))
      | inr a ↦
          let same : c.first ≡ f = grind (arith, nat_tests) in
          let last_is : c.last ≡ e = same_Some c.last e (sym c.kept ∙ ap (get nat_cmp m) same ∙ own) in
          absurd (omega (arith, last_is, less, between.from, c.between.to))
    ]

-- the last one has a number of these
pub some_between : (m : BTreeMap ℕ ℕ) (first last f e : ℕ) (r t : List (ℕ × ℕ)) → AreOrdered m
    → IsRangeOf nat_cmp Unbounded (Included last) m r → r ≡ t ++ (f, e) ∷ [] → first ≤ last → first ≤ e
    → (id : ℕ) × IsBetween first last id × Covers m id
some_between m first last f e r t ordered range is some le =
    let at = range.3 (f, e) t is in
    let own : get nat_cmp m f ≡ Some e = at.1 in
    let within : f ≤ last = le_from_not_gt f last at.0.1 in
    elim (cases_Bool (nat_lt f first)) [
      | inl a ↦
          let less = lt_is f first a in (
            first,
            record { from = omega arith; to = some },
            own_covered m f e first own (omega (arith, less)) le,
          )
      | inr a ↦
          let more : first ≤ f = grind (arith, nat_tests) in (
            f,
            record { from = more; to = within },
            own_covered m f e f own (omega arith) (ordered.some f e own),
          )
    ]
