-- Buckets: an entry is put at the front of one, or taken out of one, and each still lists what belongs there.
use Rattle.std.proofs.Common.{◌≡◌, ◌≢◌, ◌↔◌, ℕ, zero, suc, ◌<◌, ◌≤◌, inl, inr, true, cond, List, [], ◌∷◌}
use Rattle.std.proofs.Common.{◌++◌, length, Option, Some, None, is_some, refl, sym, ap, ◌∙◌, subst}
use Rattle.std.proofs.Common.{true≢false, unwrap_or, arith, nat_eq, get_or, set, Contains, lt-ltb, le-ltb}
use Rattle.std.specs.Option.{option_map, option_map_or}
use Rattle.std.proofs.lemmas.Bool.{cases_eq, eq-eqb, ne_eqb}
use Rattle.std.proofs.lemmas.List.{get_or-set_same, get_or-set_other}
use Rattle.std.proofs.lemmas.List.Sums.{count_by-le-length}
use Rattle.slab.specs.Slab.{Slab, get}
use Rattle.slab.proofs.SlabLemmas.{Contains-cons, Contains-cons_cases}
use Rattle.lru_metered.specs.declared.index.Entry.{Entry}
use Rattle.lru_metered.specs.Chain.{first_or, Avoids, Apart}
use Rattle.lru_metered.specs.Index.{Run, Lists, IsBucketed, placed, below, nexts}
use Rattle.lru_metered.proofs.ChainLemmas.{Held, length-held, cut, some≢none, some-inj, avoids-absent}

-- a key that a list avoids is not in it
pub avoids-has : (key : ℕ) (xs : List ℕ) (x : ℕ) → Avoids (Some key) xs → Contains xs x → x ≢ key
avoids-has key [] x free has = absurd (omega (arith, has.1))
avoids-has key (y ∷ ys) x free has = λ is. elim (Contains-cons_cases y x ys has) [
  | inl same ↦ free.0 (ap (λ n. Some n) (sym (same ∙ is)))
  | inr more ↦ avoids-has key ys x free.1 more is
]

-- a list with one entry more, behind another
pub first-mid : (xs : List ℕ) (p : ℕ) (ys zs : List ℕ) → first_or (xs ++ p ∷ ys) None ≡ first_or
    (xs ++ p ∷ zs) None
first-mid [] p ys zs = refl
first-mid (x ∷ xs) p ys zs = refl

avoids-out : (key : Option ℕ) (xs : List ℕ) (p at : ℕ) (back : List ℕ) → Avoids key (xs ++ p ∷ at ∷ back)
    → Avoids key (xs ++ p ∷ back)
avoids-out key [] p at back h = (h.0, h.1.1)
avoids-out key (x ∷ xs) p at back h = (h.0, avoids-out key xs p at back h.1)

avoids-mid : (key : Option ℕ) (xs : List ℕ) (p at : ℕ) (back : List ℕ) → Avoids key (xs ++ p ∷ at ∷ back)
    → (key ≢ Some p) × (key ≢ Some at)
avoids-mid key [] p at back h = (h.0, h.1.0)
avoids-mid key (x ∷ xs) p at back h = avoids-mid key xs p at back h.1

apart-out : (xs : List ℕ) (p at : ℕ) (back : List ℕ) → Apart (xs ++ p ∷ at ∷ back) → Apart (xs ++ p ∷ back)
apart-out [] p at back h = (h.0.1, h.1.1)
apart-out (x ∷ xs) p at back h = (avoids-out (Some x) xs p at back h.0, apart-out xs p at back h.1)

free-out : (xs : List ℕ) (p at : ℕ) (back : List ℕ) → Apart (xs ++ p ∷ at ∷ back)
    → Avoids (Some at) (xs ++ p ∷ back)
free-out [] p at back h = ((λ is. h.0.0 (sym is)), h.1.0)
free-out (x ∷ xs) p at back h = (
  (λ is. (avoids-mid (Some x) xs p at back h.0).1 (sym is)),
  free-out xs p at back h.1,
)

has-out : (xs : List ℕ) (p at : ℕ) (back : List ℕ) (x : ℕ) → Contains (xs ++ p ∷ at ∷ back) x → x ≢ at
    → Contains (xs ++ p ∷ back) x
has-out [] p at back x has differs = elim (Contains-cons_cases p x (at ∷ back) has) [
  | inl is ↦ (0, omega arith, is)
  | inr more ↦ elim (Contains-cons_cases at x back more) [
    | inl is ↦ absurd (differs (sym is))
    | inr later ↦ Contains-cons p x back later
  ]
]
has-out (y ∷ ys) p at back x has differs = elim (Contains-cons_cases y x (ys ++ p ∷ at ∷ back) has) [
  | inl is ↦ (0, omega arith, is)
  | inr more ↦ Contains-cons y x (ys ++ p ∷ back) (has-out ys p at back x more differs)
]

has-in : (xs : List ℕ) (p at : ℕ) (back : List ℕ) (x : ℕ) → Contains (xs ++ p ∷ back) x
    → Contains (xs ++ p ∷ at ∷ back) x
has-in [] p at back x has = elim (Contains-cons_cases p x back has) [
  | inl is ↦ (0, omega arith, is)
  | inr more ↦ Contains-cons p x (at ∷ back) (Contains-cons at x back more)
]
has-in (y ∷ ys) p at back x has = elim (Contains-cons_cases y x (ys ++ p ∷ back) has) [
  | inl is ↦ (0, omega arith, is)
  | inr more ↦ Contains-cons y x (ys ++ p ∷ at ∷ back) (has-in ys p at back x more)
]

-- runs
module _ (next new : ℕ → Option (Option ℕ)) where
  pub run-kept : (xs : List ℕ) → ((x : ℕ) → Contains xs x → new x ≡ next x) → Run next xs → Run new xs
  run-kept [] same h = tt
  run-kept (x ∷ xs) same h =
      (same x (0, omega arith, refl) ∙ h.0, run-kept xs (λ y has. same y (Contains-cons x y xs has)) h.1)

  pub run-avoids : (key : ℕ) (xs : List ℕ) → Avoids (Some key) xs → ((x : ℕ) → x ≢ key → new x ≡ next x)
      → Run next xs → Run new xs
  run-avoids key [] free others h = tt
  run-avoids key (x ∷ xs) free others h = (
    others x (λ is. free.0 (ap (λ n. Some n) (sym is))) ∙ h.0,
    run-avoids key xs free.1 others h.1,
  )

  run-out : (xs : List ℕ) (p at : ℕ) (back : List ℕ) → Apart (xs ++ p ∷ at ∷ back)
      → new p ≡ Some (first_or back None) → ((x : ℕ) → x ≢ p → new x ≡ next x)
      → Run next (xs ++ p ∷ at ∷ back) → Run new (xs ++ p ∷ back)
  run-out [] p at back apart here others h = (here, run-avoids p back apart.0.1 others h.1.1)
  run-out (x ∷ xs) p at back apart here others h = (
    others x (λ is. (avoids-mid (Some x) xs p at back apart.0).0 (ap (λ n. Some n) is))
        ∙ (h.0 ∙ ap (λ o. Some o) (first-mid xs p (at ∷ back) back)),
    run-out xs p at back apart.1 here others h.1,
  )

pub run-right : (next : ℕ → Option (Option ℕ)) (xs ys : List ℕ) → Run next (xs ++ ys) → Run next ys
run-right next [] ys h = h
run-right next (x ∷ xs) ys h = run-right next xs ys h.1

twice-inj : (x y : Option ℕ) → Some x ≡ Some y → x ≡ y
twice-inj x y is = ap (λ o. unwrap_or o x) is

-- a run is known by its first
pub run-same : (next : ℕ → Option (Option ℕ)) (xs ys : List ℕ) → first_or xs None ≡ first_or ys None
    → Run next xs → Run next ys → xs ≡ ys
run-same next [] [] is h k = refl
run-same next [] (y ∷ ys) is h k = absurd (some≢none y (sym is))
run-same next (x ∷ xs) [] is h k = absurd (some≢none x is)
run-same next (x ∷ xs) (y ∷ ys) is h k =
    let same : x ≡ y = some-inj x y is in
    let rest : xs ≡ ys = run-same next xs ys (twice-inj _ _ (sym h.0 ∙ (ap next same ∙ k.0))) h.1 k.1 in
    ap (λ z. z ∷ xs) same ∙ ap (λ l. y ∷ l) rest

pub lists-same : (next : ℕ → Option (Option ℕ)) (head : Option ℕ) (xs ys : List ℕ) → Lists next head xs
    → Lists next head ys → xs ≡ ys
lists-same next head xs ys h k = run-same next xs ys (sym h.starts ∙ k.starts) h.run k.run

-- what follows the first
pub first-is : (xs : List ℕ) (x : ℕ) → first_or xs None ≡ Some x → (ys : List ℕ) × (xs ≡ x ∷ ys)
first-is [] x is = absurd (some≢none x (sym is))
first-is (y ∷ ys) x is = (ys, ap (λ z. z ∷ ys) (some-inj y x is))

pub first-none : (xs : List ℕ) → first_or xs None ≡ None → xs ≡ []
first-none [] is = refl
first-none (x ∷ xs) is = absurd (some≢none x is)

-- a place in a function
pub placed-same : (at : ℕ) (bucket : Option ℕ) (home : ℕ → Option ℕ) → placed at bucket home at ≡ bucket
placed-same at bucket home = ap (λ b. cond b bucket (home at)) (eq-eqb at at refl)

pub placed-other : (at : ℕ) (bucket : Option ℕ) (home : ℕ → Option ℕ) (x : ℕ) → x ≢ at
    → placed at bucket home x ≡ home x
placed-other at bucket home x differs = ap (λ b. cond b bucket (home x)) (ne_eqb x at differs)

pub below-in : (bound : ℕ) (home : ℕ → Option ℕ) (x : ℕ) → x < bound → below bound home x ≡ home x
below-in bound home x within = ap (λ b. cond b (home x) None) (lt-ltb x bound within)

pub below-out : (bound : ℕ) (home : ℕ → Option ℕ) (x : ℕ) → bound ≤ x → below bound home x ≡ None
below-out bound home x past = ap (λ b. cond b (home x) None) (le-ltb x bound past)

abbrev fill : ℕ → List ℕ → (ℕ → List ℕ) → ℕ → List ℕ
fill bucket list lists b = cond (nat_eq b bucket) list (lists b)

fill-same : (bucket : ℕ) (list : List ℕ) (lists : ℕ → List ℕ) → fill bucket list lists bucket ≡ list
fill-same bucket list lists = ap (λ b. cond b list (lists bucket)) (eq-eqb bucket bucket refl)

fill-other : (bucket : ℕ) (list : List ℕ) (lists : ℕ → List ℕ) (b : ℕ) → b ≢ bucket
    → fill bucket list lists b ≡ lists b
fill-other bucket list lists b differs = ap (λ t. cond t list (lists b)) (ne_eqb b bucket differs)

module _ (next : ℕ → Option (Option ℕ)) (home : ℕ → Option ℕ) (heads : List (Option ℕ)) where
  -- the same buckets, by other functions that agree
  pub bucketed-home : (home' : ℕ → Option ℕ) → ((x : ℕ) → home' x ≡ home x) → IsBucketed next home heads
      → IsBucketed next home' heads
  bucketed-home home' same old =
      record {
        lists = old.lists;
        runs = old.runs;
        members = λ b x.
            ((λ has. same x ∙ (old.members b x).0 has), (λ is. (old.members b x).1 (sym (same x) ∙ is)));
      }

  pub bucketed-kept : (new : ℕ → Option (Option ℕ)) → ((b x : ℕ) → home x ≡ Some b → new x ≡ next x)
      → IsBucketed next home heads → IsBucketed new home heads
  bucketed-kept new same old =
      record {
        lists = old.lists;
        runs = λ b. record {
          starts = (old.runs b).starts;
          run = run-kept next new (old.lists b)
              (λ x has. same b x ((old.members b x).0 has)) (old.runs b).run;
          apart = (old.runs b).apart;
        };
        members = old.members;
      }

  -- no bucket lists an entry
  pub bucketed-none : ((b : ℕ) → get_or heads b None ≡ None) → ((x : ℕ) → home x ≡ None)
      → IsBucketed next home heads
  bucketed-none empty none =
      record {
        lists = λ b. [];
        runs = λ b. record { starts = empty b; run = tt; apart = tt };
        members = λ b x. (
          (λ has. absurd (omega (arith, has.1))),
          (λ is. absurd (some≢none b (sym is ∙ none x))),
        );
      }

  -- one bucket lists others now
  bucketed-changed : (new : ℕ → Option (Option ℕ)) (home' : ℕ → Option ℕ) (heads' : List (Option ℕ))
      (bucket : ℕ) (list : List ℕ)
      → IsBucketed next home heads
      → Lists new (get_or heads' bucket None) list
      → ((x : ℕ) → Contains list x ↔ (home' x ≡ Some bucket))
      → ((b : ℕ) → b ≢ bucket → get_or heads' b None ≡ get_or heads b None)
      → ((b x : ℕ) → b ≢ bucket → home x ≡ Some b → new x ≡ next x)
      → ((b x : ℕ) → b ≢ bucket → (home' x ≡ Some b) ↔ (home x ≡ Some b))
      → IsBucketed new home' heads'
  bucketed-changed new home' heads' bucket list old here inside starts nexts-kept homes-kept =
      record {
        lists = fill bucket list old.lists;
        runs = λ b. elim (cases_eq b bucket) [
          | inl same ↦ subst (λ c. Lists new (get_or heads' c None) (fill bucket list old.lists c)) (sym same)
              (subst (Lists new (get_or heads' bucket None)) (sym (fill-same bucket list old.lists)) here)
          | inr differs ↦ subst (Lists new (get_or heads' b None))
              (sym (fill-other bucket list old.lists b differs)) (record {
                starts = starts b differs ∙ (old.runs b).starts;
                run = run-kept next new (old.lists b)
                    (λ x has. nexts-kept b x differs ((old.members b x).0 has))
                    (old.runs b).run;
                apart = (old.runs b).apart;
              })
        ];
        members = λ b x. elim (cases_eq b bucket) [
          | inl same ↦ subst (λ c. Contains (fill bucket list old.lists c) x ↔ (home' x ≡ Some c)) (sym same)
              (subst (λ l. Contains l x ↔ (home' x ≡ Some bucket)) (sym (fill-same bucket list old.lists))
              (inside x))
          | inr differs ↦ subst (λ l. Contains l x ↔ (home' x ≡ Some b))
              (sym (fill-other bucket list old.lists b differs)) (
                (λ has. (homes-kept b x differs).1 ((old.members b x).0 has)),
                (λ is. (old.members b x).1 ((homes-kept b x differs).0 is)),
              )
        ];
      }

  -- an entry is put at the front of a bucket
  pub bucketed-put : (new : ℕ → Option (Option ℕ)) (bucket at : ℕ) → bucket < length heads
      → IsBucketed next home heads → home at ≡ None
      → new at ≡ Some (get_or heads bucket None) → ((x : ℕ) → x ≢ at → new x ≡ next x)
      → IsBucketed new (placed at (Some bucket) home) (set heads bucket (Some at))
  bucketed-put new bucket at within old none here others =
      let list = old.lists bucket in
      let free : Avoids (Some at) list = avoids-absent list at
      (λ has. some≢none bucket (sym ((old.members bucket at).0 has) ∙ none)) in
      bucketed-changed new (placed at (Some bucket) home) (set heads bucket (Some at)) bucket (at ∷ list) old
      (record {
        starts = get_or-set_same heads bucket (Some at) None within;
        run = (
          here ∙ ap (λ o. Some o) (old.runs bucket).starts,
          run-avoids next new at list free others
              (old.runs bucket).run,
        );
        apart = (free, (old.runs bucket).apart);
      })
      (λ x. elim (cases_eq x at) [
        | inl same ↦ (
          (λ has. ap (placed at (Some bucket) home) same ∙ placed-same at (Some bucket) home),
          (λ is. (0, omega arith, sym same)),
        )
        | inr differs ↦ (
          (λ has. elim (Contains-cons_cases at x list has) [
            | inl is ↦ absurd (differs (sym is))
            | inr more ↦ placed-other at (Some bucket) home x differs ∙ (old.members bucket x).0 more
          ]),
          (λ is. Contains-cons at x list
              ((old.members bucket x).1 (sym (placed-other at (Some bucket) home x differs) ∙ is))),
        )
      ])
      (λ b differs. get_or-set_other heads bucket b (Some at) None differs)
      (λ b x differs is. others x (λ same. some≢none b (sym is ∙ (ap home same ∙ none))))
      (λ b x differs. elim (cases_eq x at) [
        | inl same ↦ (
          (λ is. absurd (differs (some-inj b bucket
              (sym is ∙ (ap (placed at (Some bucket) home) same ∙ placed-same at (Some bucket) home))))),
          (λ is. absurd (some≢none b (sym is ∙ (ap home same ∙ none)))),
        )
        | inr other ↦ (
          (λ is. sym (placed-other at (Some bucket) home x other) ∙ is),
          (λ is. placed-other at (Some bucket) home x other ∙ is),
        )
      ])

  -- an entry that is out of its bucket belongs to no other
  out-kept : (bucket at : ℕ) → home at ≡ Some bucket → (b x : ℕ) → b ≢ bucket
      → (placed at None home x ≡ Some b) ↔ (home x ≡ Some b)
  out-kept bucket at is b x differs = elim (cases_eq x at) [
    | inl same ↦ (
      (λ e. absurd (some≢none b (sym e ∙ (ap (placed at None home) same ∙ placed-same at None home)))),
      (λ e. absurd (differs (some-inj b bucket (sym e ∙ (ap home same ∙ is))))),
    )
    | inr other ↦ (
      (λ e. sym (placed-other at None home x other) ∙ e),
      (λ e. placed-other at None home x other ∙ e),
    )
  ]

  -- and its bucket lists the others
  out-inside : (old : IsBucketed next home heads) (bucket at : ℕ) (list : List ℕ)
      → ((x : ℕ) → Contains (old.lists bucket) x → x ≢ at → Contains list x)
      → ((x : ℕ) → Contains list x → Contains (old.lists bucket) x) → Avoids (Some at) list
      → (x : ℕ) → Contains list x ↔ (placed at None home x ≡ Some bucket)
  out-inside old bucket at list out back free x = (
    (λ has. placed-other at None home x (avoids-has at list x free has) ∙ (old.members bucket x).0
        (back x has)),
    (λ is. elim (cases_eq x at) [
      | inl same ↦ absurd (some≢none bucket
          (sym is ∙ (ap (placed at None home) same ∙ placed-same at None home)))
      | inr other ↦ out x ((old.members bucket x).1 (sym (placed-other at None home x other) ∙ is)) other
    ]),
  )

  -- the first entry of a bucket is taken out
  pub bucketed-first : (bucket at : ℕ) (after : Option ℕ) → bucket < length heads → IsBucketed next home heads
      → home at ≡ Some bucket
      → next at ≡ Some after → get_or heads bucket None ≡ Some at
      → IsBucketed next (placed at None home) (set heads bucket after)
  bucketed-first bucket at after within old is own first =
      let cut-first = first-is (old.lists bucket) at (sym (old.runs bucket).starts ∙ first) in
      let back = cut-first.0 in
      let run : Run next (at ∷ back) = subst (Run next) cut-first.1 (old.runs bucket).run in
      let apart : Apart (at ∷ back) = subst Apart cut-first.1 (old.runs bucket).apart in
      bucketed-changed next (placed at None home) (set heads bucket after) bucket back old
      (record {
        starts = get_or-set_same heads bucket after None within ∙ twice-inj _ _ (sym own ∙ run.0);
        run = run.1;
        apart = apart.1;
      })
      (out-inside old bucket at back
      (λ x has differs. elim (Contains-cons_cases at x back (subst (λ l. Contains l x) cut-first.1 has))
      [ inl e ↦ absurd (differs (sym e)) | inr more ↦ more ])
      (λ x has. subst (λ l. Contains l x) (sym cut-first.1) (Contains-cons at x back has))
      apart.0)
      (λ b differs. get_or-set_other heads bucket b after None differs)
      (λ b x differs e. refl)
      (out-kept bucket at is)

  -- an entry behind another is taken out
  pub bucketed-behind : (new : ℕ → Option (Option ℕ)) (bucket at p : ℕ) (after : Option ℕ)
      → (old : IsBucketed next home heads) → home at ≡ Some bucket
      → next at ≡ Some after → Contains (old.lists bucket) p → next p ≡ Some (Some at)
      → new p ≡ Some after → ((x : ℕ) → x ≢ p → new x ≡ next x)
      → IsBucketed new (placed at None home) heads
  bucketed-behind new bucket at p after old is own there leads here others =
      let c = cut (old.lists bucket) p there in
      let run-p : Run next (p ∷ c.back) = run-right next c.front (p ∷ c.back)
      (subst (Run next) c.whole (old.runs bucket).run) in
      let behind = first-is c.back at (twice-inj _ _ (sym run-p.0 ∙ leads)) in
      let back = behind.0 in
      let whole : old.lists bucket ≡ c.front ++ p ∷ at ∷ back = c.whole ∙ ap (λ l. c.front ++ p ∷ l) behind.1
      in
      let run : Run next (c.front ++ p ∷ at ∷ back) = subst (Run next) whole (old.runs bucket).run in
      let apart : Apart (c.front ++ p ∷ at ∷ back) = subst Apart whole (old.runs bucket).apart in
      let run-at : Run next (at ∷ back) = (run-right next c.front (p ∷ at ∷ back) run).1 in
      let after-is : after ≡ first_or back None = twice-inj _ _ (sym own ∙ run-at.0) in
      bucketed-changed new (placed at None home) heads bucket (c.front ++ p ∷ back) old
      (record {
        starts = (old.runs bucket).starts
            ∙ (ap (λ l. first_or l None) whole ∙ first-mid c.front p (at ∷ back) back);
        run = run-out next new c.front p at back apart (here ∙ ap (λ o. Some o) after-is) others run;
        apart = apart-out c.front p at back apart;
      })
      (out-inside old bucket at (c.front ++ p ∷ back)
      (λ x has differs. has-out c.front p at back x (subst (λ l. Contains l x) whole has) differs)
      (λ x has. subst (λ l. Contains l x) (sym whole) (has-in c.front p at back x has))
      (free-out c.front p at back apart))
      (λ b differs. refl)
      (λ b x differs e. others x
      (λ same. differs (some-inj b bucket (sym e ∙ (ap home same ∙ (old.members bucket p).0 there)))))
      (out-kept bucket at is)

-- at most so many entries, each followed by its next
abbrev pub trail : (ℕ → Option (Option ℕ)) → ℕ → Option ℕ → List ℕ
trail next zero at = []
trail next (suc more) None = []
trail next (suc more) (Some x) = x ∷ trail next more (option_map_or (λ o. o) (next x) None)

pub trail-is : (next : ℕ → Option (Option ℕ)) (list : List ℕ) (more : ℕ) → length list ≤ more → Run next list
    → trail next more (first_or list None) ≡ list
trail-is next [] zero enough k = refl
trail-is next [] (suc more) enough k = refl
trail-is next (x ∷ xs) zero enough k = absurd (omega (arith, enough))
trail-is next (x ∷ xs) (suc more) enough k =
    ap (λ e. x ∷ trail next more (option_map_or (λ o. o) e None)) k.0
    ∙ ap (λ l. x ∷ l) (trail-is next xs more (omega (arith, enough)) k.1)

-- no more entries in a bucket than slots
module _ {K V : Type 0} where
  pub next-some : (o : Option (Entry K V)) (n : Option ℕ) → option_map (λ (e : Entry K V). e.next) o ≡ Some n
      → is_some o ≡ true
  next-some None n is = absurd (true≢false (sym (ap is_some is)))
  next-some (Some e) n is = refl

  held-run : (items : Slab (Entry K V)) (list : List ℕ) → Run (nexts items) list → Held items.slots list
  held-run items [] k = tt
  held-run items (x ∷ xs) k = (next-some (get items x) (first_or xs None) k.0, held-run items xs k.1)

  pub lists-short : (items : Slab (Entry K V)) (head : Option ℕ) (list : List ℕ)
      → Lists (nexts items) head list → length list ≤ length items.slots
  lists-short items head list l =
      omega (
        arith,
        length-held items.slots list l.apart (held-run items list l.run),
        count_by-le-length is_some items.slots,
      )

  pub trail-lists : (items : Slab (Entry K V)) (head : Option ℕ) (list : List ℕ)
      → Lists (nexts items) head list → trail (nexts items) (length items.slots) head ≡ list
  trail-lists items head list l =
      ap (trail (nexts items) (length items.slots)) l.starts ∙ trail-is (nexts items) list
      (length items.slots) (lists-short items head list l) l.run

-- the first of a bucket, and the others
pub record Heads (next : ℕ → Option (Option ℕ)) (x : ℕ) (list : List ℕ) : Type 0 where
  pub rest : List ℕ
  pub whole : list ≡ x ∷ rest
  pub after : next x ≡ Some (first_or rest None)
  pub lists : Lists next (first_or rest None) rest
  pub free : Avoids (Some x) rest

pub lists-head : (next : ℕ → Option (Option ℕ)) (x : ℕ) (list : List ℕ) → Lists next (Some x) list
    → Heads next x list
lists-head next x list l =
    let c = first-is list x (sym l.starts) in
    let run : Run next (x ∷ c.0) = subst (Run next) c.1 l.run in
    let apart : Apart (x ∷ c.0) = subst Apart c.1 l.apart in
    record {
      rest = c.0;
      whole = c.1;
      after = run.0;
      lists = record { starts = refl; run = run.1; apart = apart.1 };
      free = apart.0;
    }
