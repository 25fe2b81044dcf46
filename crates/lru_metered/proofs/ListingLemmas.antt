-- The pairs of a list of entries: one is read, written, moved to the end, taken out or put at the end.
use Rattle.std.proofs.Common.{◌≡◌, ◌≢◌, ℕ, zero, suc, ◌+◌, ◌⊎◌, inl, inr, Bool, true, false, cond, List, []}
use Rattle.std.proofs.Common.{◌∷◌, ◌++◌, length, Option, Some, None, is_some, refl, sym, ap, ◌∙◌, subst}
use Rattle.std.proofs.Common.{true≢false, unwrap_or, arith, Contains, slice_get, length-append}
use Rattle.std.specs.List.{filter_map, cons_option, IsDistinct, AllByRecursion}
use Rattle.std.specs.Option.{option_map, IsSomeAnd}
use Rattle.std.specs.Cmp.{IsEquivalence}
use Rattle.std.specs.Map.{keys_of, lookup, lookup_key, lookup_entry, remove_entry}
use Rattle.std.proofs.lemmas.Bool.{cases_eq}
use Rattle.std.proofs.lemmas.List.Elements.{filter_map-append}
use Rattle.std.proofs.lemmas.Map.Keys.{IsDistinct-cons}
use Rattle.slab.specs.Slab.{slab_len}
use Rattle.slab.proofs.SlabLemmas.{Contains-cons, Contains-cons_cases}
use Rattle.lru_metered.specs.declared.index.Entry.{Entry}
use Rattle.lru_metered.specs.Chain.{Chained, Avoids, Apart, without}
use Rattle.lru_metered.specs.Index.{pairs_at, Matches, Relinks}
use Rattle.lru_metered.specs.Listing.{pairs_of, IsFull, Differ}
use Rattle.lru_metered.proofs.ChainLemmas.{cut, without-cut, avoids-none, avoids-append, avoids-across}
use Rattle.lru_metered.proofs.ChainLemmas.{across-without, across-one, apart-left, apart-right, apart-across}
use Rattle.lru_metered.proofs.ChainLemmas.{apart-append, avoids-absent, some≢none}
use Rattle.lru_metered.proofs.IndexLemmas.{avoids-has}

-- membership in two lists in a row
pub has-append : (xs ys : List ℕ) (x : ℕ) → Contains (xs ++ ys) x → Contains xs x ⊎ Contains ys x
has-append [] ys x has = inr has
has-append (z ∷ zs) ys x has = elim (Contains-cons_cases z x (zs ++ ys) has) [
  | inl is ↦ inl (0, omega arith, is)
  | inr more ↦ elim (has-append zs ys x more) [
    | inl left ↦ inl (Contains-cons z x zs left)
    | inr right ↦ inr right
  ]
]

pub has-left : (xs ys : List ℕ) (x : ℕ) → Contains xs x → Contains (xs ++ ys) x
has-left [] ys x has = absurd (omega (arith, has.1))
has-left (z ∷ zs) ys x has = elim (Contains-cons_cases z x zs has) [
  | inl is ↦ (0, omega arith, is)
  | inr more ↦ Contains-cons z x (zs ++ ys) (has-left zs ys x more)
]

pub has-right : (xs ys : List ℕ) (x : ℕ) → Contains ys x → Contains (xs ++ ys) x
has-right [] ys x has = has
has-right (z ∷ zs) ys x has = Contains-cons z x (zs ++ ys) (has-right zs ys x has)

pub has-one : (x : ℕ) → Contains (x ∷ []) x
has-one x = (0, omega arith, refl)

one-is : (x y : ℕ) → Contains (x ∷ []) y → y ≡ x
one-is x y has = elim (Contains-cons_cases x y [] has) [
  | inl is ↦ sym is
  | inr none ↦ absurd (omega (arith, none.1))
]

module _ (front : List ℕ) (at : ℕ) (back : List ℕ) (x : ℕ) where
  pub drop-in : Contains (front ++ back) x → Contains (front ++ at ∷ back) x
  drop-in has = elim (has-append front back x has) [
    | inl left ↦ has-left front (at ∷ back) x left
    | inr right ↦ has-right front (at ∷ back) x (Contains-cons at x back right)
  ]

  pub drop-out : Contains (front ++ at ∷ back) x → x ≢ at → Contains (front ++ back) x
  drop-out has differs = elim (has-append front (at ∷ back) x has) [
    | inl left ↦ has-left front back x left
    | inr right ↦ elim (Contains-cons_cases at x back right) [
      | inl is ↦ absurd (differs (sym is))
      | inr more ↦ has-right front back x more
    ]
  ]

pub some-of : {X : Type 0} (o : Option X) → is_some o ≡ true → (x : X) × (o ≡ Some x)
some-of None is = absurd (true≢false (sym is))
some-of (Some x) is = (x, refl)

pub is-some : {X : Type 0} (o : Option X) (x : X) → o ≡ Some x → is_some o ≡ true
is-some o x is = ap is_some is

-- a list that is cut at a place
pub place-cut : (xs : List ℕ) (place x : ℕ) → slice_get xs place ≡ Some x → (front : List ℕ) × (back : List ℕ)
    × (xs ≡ front ++ x ∷ back) × (length front ≡ place)
place-cut [] place x is = absurd (some≢none x (sym is))
place-cut (y ∷ ys) zero x is = ([], ys, ap (λ z. z ∷ ys) (ap (λ o. unwrap_or o y) is), refl)
place-cut (y ∷ ys) (suc place) x is =
    let rest = place-cut ys place x is in
    (y ∷ rest.0, rest.1, ap (λ l. y ∷ l) rest.2, ap suc rest.3)

module _ {X : Type 0} where
  -- functions that agree but at one key
  pub listed-others : (f g : ℕ → Option X) (key : ℕ) (xs : List ℕ) → Avoids (Some key) xs
      → ((x : ℕ) → x ≢ key → g x ≡ f x) → filter_map g xs ≡ filter_map f xs
  listed-others f g key [] free others = refl
  listed-others f g key (x ∷ xs) free others =
      ap (λ o. cons_option o (filter_map g xs)) (others x (λ is. free.0 (ap (λ n. Some n) (sym is))))
      ∙ ap (cons_option (f x)) (listed-others f g key xs free.1 others)

  pub listed-same : (f g : ℕ → Option X) (xs : List ℕ) → ((x : ℕ) → g x ≡ f x)
      → filter_map g xs ≡ filter_map f xs
  listed-same f g [] same = refl
  listed-same f g (x ∷ xs) same = ap (λ o. cons_option o (filter_map g xs)) (same x) ∙ ap (cons_option (f x))
      (listed-same f g xs same)

  pub listed-cut : (f : ℕ → Option X) (front : List ℕ) (at : ℕ) (back : List ℕ) (p : X) → f at ≡ Some p
      → filter_map f (front ++ at ∷ back) ≡ filter_map f front ++ p ∷ filter_map f back
  listed-cut f front at back p is =
      filter_map-append f front (at ∷ back)
      ∙ ap (λ o. filter_map f front ++ cons_option o (filter_map f back)) is

  -- as many as there are entries
  pub length-listed : (f : ℕ → Option X) (xs : List ℕ) → ((x : ℕ) → Contains xs x → is_some (f x) ≡ true)
      → length (filter_map f xs) ≡ length xs
  length-listed f [] held = refl
  length-listed f (x ∷ xs) held =
      let here = some-of (f x) (held x (0, omega arith, refl)) in
      ap (λ o. length (cons_option o (filter_map f xs))) here.1
      ∙ ap suc (length-listed f xs (λ y has. held y (Contains-cons x y xs has)))

module _ {K V : Type 0} where
  -- an entry of the list, and what is round it
  pub record Spot (c : Chained (Entry K V)) (at : ℕ) : Type 0 where
    pub front : List ℕ
    pub back : List ℕ
    pub whole : c.order ≡ front ++ at ∷ back
    pub not-front : Avoids (Some at) front
    pub not-back : Avoids (Some at) back
    pub rest-apart : Apart (front ++ back)
    pub pair : K × V
    pub here : pairs_at c.items at ≡ Some pair
    pub listed : pairs_of c ≡ filter_map (pairs_at c.items) front ++ pair ∷ filter_map (pairs_at c.items) back
    pub front-length : length (filter_map (pairs_at c.items) front) ≡ length front
    pub left : without at c.order ≡ front ++ back

  abbrev pub spot-from : (c : Chained (Entry K V)) → IsFull c → (front : List ℕ) (at : ℕ) (back : List ℕ)
      → c.order ≡ front ++ at ∷ back → Spot c at
  spot-from c full front at back whole =
      let apart : Apart (front ++ at ∷ back) = subst Apart whole full.apart in
      let across = apart-across front (at ∷ back) apart in
      let right = apart-right front (at ∷ back) apart in
      let not-front = avoids-across front at back across in
      let held : (x : ℕ) → Contains (front ++ at ∷ back) x → is_some (pairs_at c.items x) ≡ true = λ x has.
      (full.listed x).0 (subst (λ l. Contains l x) (sym whole) has) in
      let found = some-of (pairs_at c.items at)
      (held at (has-right front (at ∷ back) at (0, omega arith, refl))) in
      record {
        front = front;
        back = back;
        whole = whole;
        not-front = not-front;
        not-back = right.0;
        rest-apart = apart-append front back (apart-left front (at ∷ back) apart) right.1
            (across-without front at back across);
        pair = found.0;
        here = found.1;
        listed = ap (filter_map (pairs_at c.items)) whole
            ∙ listed-cut (pairs_at c.items) front at back found.0 found.1;
        front-length = length-listed (pairs_at c.items) front
            (λ x has. held x (has-left front (at ∷ back) x has));
        left = ap (without at) whole ∙ without-cut front at back not-front;
      }

  pub spot : (c : Chained (Entry K V)) (at : ℕ) → IsFull c → Contains c.order at → Spot c at
  spot c at full has = let s = cut c.order at has in spot-from c full s.front at s.back s.whole

  -- the list is as long as the order
  pub length-pairs : (c : Chained (Entry K V)) → IsFull c → length (pairs_of c) ≡ length c.order
  length-pairs c full = length-listed (pairs_at c.items) c.order (λ x has. (full.listed x).0 has)

  module _ (c new : Chained (Entry K V)) (at : ℕ) (s : Spot c at) (others : (x : ℕ) → x ≢ at
      → pairs_at new.items x ≡ pairs_at c.items x) where
    -- what became of the pairs, where one was written, taken out, or moved to the end
    pub listed-written : (q : K × V) → new.order ≡ c.order → pairs_at new.items at ≡ Some q
        → pairs_of new ≡ filter_map (pairs_at c.items) s.front ++ q ∷ filter_map (pairs_at c.items) s.back
    listed-written q order is =
        ap (filter_map (pairs_at new.items)) (order ∙ s.whole)
        ∙ (listed-cut (pairs_at new.items) s.front at s.back q is
        ∙ (ap (λ l. l ++ q ∷ filter_map (pairs_at new.items) s.back)
        (listed-others (pairs_at c.items) (pairs_at new.items) at s.front s.not-front others)
        ∙ ap (λ l. filter_map (pairs_at c.items) s.front ++ q ∷ l)
        (listed-others (pairs_at c.items) (pairs_at new.items) at s.back s.not-back others)))

    rest-listed : filter_map (pairs_at new.items) (s.front ++ s.back) ≡ filter_map (pairs_at c.items) s.front
        ++ filter_map (pairs_at c.items) s.back
    rest-listed =
        listed-others (pairs_at c.items) (pairs_at new.items) at (s.front ++ s.back)
        (avoids-append (Some at) s.front s.back s.not-front s.not-back) others
        ∙ filter_map-append (pairs_at c.items) s.front s.back

    pub listed-taken : new.order ≡ without at c.order
        → pairs_of new ≡ filter_map (pairs_at c.items) s.front ++ filter_map (pairs_at c.items) s.back
    listed-taken order = ap (filter_map (pairs_at new.items)) (order ∙ s.left) ∙ rest-listed

    pub listed-moved : (q : K × V) → new.order ≡ without at c.order ++ at ∷ []
        → pairs_at new.items at ≡ Some q
        → pairs_of new ≡ (filter_map (pairs_at c.items) s.front ++ filter_map (pairs_at c.items) s.back) ++ q
        ∷ []
    listed-moved q order is =
        ap (filter_map (pairs_at new.items)) (order ∙ ap (λ l. l ++ at ∷ []) s.left)
        ∙ (listed-cut (pairs_at new.items) (s.front ++ s.back) at [] q is
        ∙ ap (λ l. l ++ q ∷ []) rest-listed)

    -- each entry is still in the list, once
    pub full-taken : IsFull c → new.order ≡ without at c.order → pairs_at new.items at ≡ None
        → slab_len new.items + 1 ≡ slab_len c.items → IsFull new
    full-taken full order gone len =
        let is : new.order ≡ s.front ++ s.back = order ∙ s.left in
        let free : Avoids (Some at) (s.front ++ s.back) =
        avoids-append (Some at) s.front s.back s.not-front s.not-back in
        record {
          apart = subst Apart (sym is) s.rest-apart;
          listed = λ x. (
            (λ has. let there = subst (λ l. Contains l x) is has in
                ap is_some (others x (avoids-has at (s.front ++ s.back) x free there))
                ∙ (full.listed x).0 (subst (λ l. Contains l x) (sym s.whole)
                (drop-in s.front at s.back x there))),
            (λ held. elim (cases_eq x at) [
              | inl same ↦ absurd (true≢false (sym held ∙ ap is_some (ap (pairs_at new.items) same ∙ gone)))
              | inr differs ↦ subst (λ l. Contains l x) (sym is)
                  (drop-out s.front at s.back x
                  (subst (λ l. Contains l x) s.whole
                  ((full.listed x).1 (sym (ap is_some (others x differs)) ∙ held))) differs)
            ]),
          );
          counted = omega (
            arith,
            len,
            full.counted,
            ap length is,
            ap length s.whole,
            length-append s.front (at ∷ s.back),
            length-append s.front s.back,
          );
        }

    pub full-moved : (q : K × V) → IsFull c → new.order ≡ without at c.order ++ at ∷ []
        → pairs_at new.items at ≡ Some q → slab_len new.items ≡ slab_len c.items → IsFull new
    full-moved q full order here len =
        let is : new.order ≡ (s.front ++ s.back) ++ at ∷ [] = order ∙ ap (λ l. l ++ at ∷ []) s.left in
        let free : Avoids (Some at) (s.front ++ s.back) =
        avoids-append (Some at) s.front s.back s.not-front s.not-back in
        record {
          apart = subst Apart (sym is) (apart-append (s.front ++ s.back) (at ∷ []) s.rest-apart (tt, tt)
              (across-one (s.front ++ s.back) at free));
          listed = λ x. elim (cases_eq x at) [
            | inl same ↦ (
              (λ has. ap is_some (ap (pairs_at new.items) same ∙ here)),
              (λ held. subst (λ y. Contains new.order y) (sym same)
                  (subst (λ l. Contains l at) (sym is)
                  (has-right (s.front ++ s.back) (at ∷ []) at (has-one at)))),
            )
            | inr differs ↦ (
              (λ has. elim (has-append (s.front ++ s.back) (at ∷ []) x (subst (λ l. Contains l x) is has)) [
                | inl there ↦ ap is_some (others x differs)
                    ∙ (full.listed x).0 (subst (λ l. Contains l x) (sym s.whole)
                    (drop-in s.front at s.back x there))
                | inr last ↦ absurd (differs (one-is at x last))
              ]),
              (λ held. subst (λ l. Contains l x) (sym is)
                  (has-left (s.front ++ s.back) (at ∷ []) x
                  (drop-out s.front at s.back x
                  (subst (λ l. Contains l x) s.whole
                  ((full.listed x).1 (sym (ap is_some (others x differs)) ∙ held))) differs))),
            )
          ];
          counted = omega (
            arith,
            len,
            full.counted,
            ap length is,
            ap length s.whole,
            length-append s.front (at ∷ s.back),
            length-append s.front s.back,
            length-append (s.front ++ s.back) (at ∷ []),
          );
        }

  -- one more entry, at the end
  module _ (c new : Chained (Entry K V)) (at : ℕ) (q : K × V) (full : IsFull c)
      (order : new.order ≡ c.order ++ at ∷ []) (vacant : pairs_at c.items at ≡ None)
      (here : pairs_at new.items at ≡ Some q) (others : (x : ℕ) → x ≢ at
      → pairs_at new.items x ≡ pairs_at c.items x) where
    pub not-yet : ¬ (Contains c.order at)
    not-yet has = true≢false (sym ((full.listed at).0 has) ∙ ap is_some vacant)

    pub full-pushed : slab_len new.items ≡ slab_len c.items + 1 → IsFull new
    full-pushed len =
        let free : Avoids (Some at) c.order = avoids-absent c.order at not-yet in
        record {
          apart = subst Apart (sym order)
              (apart-append c.order (at ∷ []) full.apart (tt, tt) (across-one c.order at free));
          listed = λ x. elim (cases_eq x at) [
            | inl same ↦ (
              (λ has. ap is_some (ap (pairs_at new.items) same ∙ here)),
              (λ held. subst (λ y. Contains new.order y) (sym same)
                  (subst (λ l. Contains l at) (sym order) (has-right c.order (at ∷ []) at (has-one at)))),
            )
            | inr differs ↦ (
              (λ has. elim (has-append c.order (at ∷ []) x (subst (λ l. Contains l x) order has)) [
                | inl there ↦ ap is_some (others x differs) ∙ (full.listed x).0 there
                | inr last ↦ absurd (differs (one-is at x last))
              ]),
              (λ held. subst (λ l. Contains l x) (sym order)
                  (has-left c.order (at ∷ []) x
                  ((full.listed x).1 (sym (ap is_some (others x differs)) ∙ held)))),
            )
          ];
          counted = omega (arith, len, full.counted, ap length order, length-append c.order (at ∷ []));
        }

    pub listed-pushed : pairs_of new ≡ pairs_of c ++ q ∷ []
    listed-pushed =
        ap (filter_map (pairs_at new.items)) order
        ∙ (listed-cut (pairs_at new.items) c.order at [] q here
        ∙ ap (λ l. l ++ q ∷ []) (listed-others (pairs_at c.items) (pairs_at new.items) at c.order
        (avoids-absent c.order at not-yet) others))

  -- entries whose pairs are the old ones, or that are held as the old ones were
  pub full-held : (c new : Chained (Entry K V)) → IsFull c → new.order ≡ c.order
      → ((x : ℕ) → is_some (pairs_at new.items x) ≡ is_some (pairs_at c.items x))
      → slab_len new.items ≡ slab_len c.items → IsFull new
  full-held c new full order held len =
      record {
        apart = subst Apart (sym order) full.apart;
        listed = λ x. (
          (λ has. held x ∙ (full.listed x).0 (subst (λ l. Contains l x) order has)),
          (λ is. subst (λ l. Contains l x) (sym order) ((full.listed x).1 (sym (held x) ∙ is))),
        );
        counted = len ∙ (full.counted ∙ ap length (sym order));
      }

  pub full-relinked : (c new : Chained (Entry K V)) → Relinks c new → IsFull c → IsFull new
  full-relinked c new r full = full-held c new full r.order (λ x. ap is_some (r.pairs x)) r.len

  pub pairs-relinked : (c new : Chained (Entry K V)) → Relinks c new → pairs_of new ≡ pairs_of c
  pairs-relinked c new r = ap (filter_map (pairs_at new.items)) r.order ∙ listed-same (pairs_at c.items)
      (pairs_at new.items) c.order r.pairs

  pub relinks-then : (a b c : Chained (Entry K V)) → Relinks a b → Relinks b c → Relinks a c
  relinks-then a b c r s = record {
    order = s.order ∙ r.order;
    pairs = λ x. s.pairs x ∙ r.pairs x;
    len = s.len
        ∙ r.len;
  }

  -- keys that differ
  module _ (eq : K → K → Bool) (f g : ℕ → Option (K × V)) (differ : Differ eq f) where
    pub differ-same : ((x : ℕ) → g x ≡ f x) → Differ eq g
    differ-same same x y p q at-x at-y equal = differ x y p q (sym (same x) ∙ at-x)
        (sym (same y) ∙ at-y) equal

    module _ (at : ℕ) (others : (x : ℕ) → x ≢ at → g x ≡ f x) where
      pub differ-taken : g at ≡ None → Differ eq g
      differ-taken gone x y p q at-x at-y equal =
          let there : (z : ℕ) (r : K × V) → g z ≡ Some r → f z ≡ Some r = λ z r is. elim (cases_eq z at) [
            | inl same ↦ absurd (some≢none r (sym is ∙ (ap g same ∙ gone)))
            | inr other ↦ sym (others z other) ∙ is
          ] in
          differ x y p q (there x p at-x) (there y q at-y) equal

      -- one that takes a pair whose key is no other entry's
      pub differ-put : (law : IsEquivalence eq) (p : K × V) → g at ≡ Some p
          → ((x : ℕ) (q : K × V) → x ≢ at → f x ≡ Some q → eq p.0 q.0 ≡ true → ⊥) → Differ eq g
      differ-put law p is apart x y r s at-x at-y equal = elim (cases_eq x at) [
        | inl x-is ↦ elim (cases_eq y at) [
          | inl y-is ↦ x-is ∙ sym y-is
          | inr y-not ↦
              let r-is : r ≡ p = ap (λ o. unwrap_or o r) (sym at-x ∙ (ap g x-is ∙ is)) in
              absurd (apart y s y-not (sym (others y y-not) ∙ at-y) (sym (ap (λ (t : K × V). eq t.0 s.0) r-is)
              ∙ equal))
        ]
        | inr x-not ↦ elim (cases_eq y at) [
          | inl y-is ↦
              let s-is : s ≡ p = ap (λ o. unwrap_or o s) (sym at-y ∙ (ap g y-is ∙ is)) in
              absurd (apart x r x-not (sym (others x x-not) ∙ at-x)
              (law.symm p.0 r.0 ∙ (sym (ap (λ (t : K × V). eq r.0 t.0) s-is) ∙ equal)))
          | inr y-not ↦ differ x y r s (sym (others x x-not) ∙ at-x) (sym (others y y-not) ∙ at-y) equal
        ]
      ]

  -- keys of a list that differ
  apart-listed : (eq : K → K → Bool) (f : ℕ → Option (K × V)) (x : ℕ) (p : K × V) (xs : List ℕ) → Differ eq f
      → f x ≡ Some p → Avoids (Some x) xs → AllByRecursion (λ y. eq p.0 y ≡ false) (keys_of (filter_map f xs))
  apart-listed eq f x p [] differ is free = tt
  apart-listed eq f x p (y ∷ ys) differ is free = by (f y) refl (apart-listed eq f x p ys differ is free.1)
    where
      test : (q : K × V) (b : Bool) → f y ≡ Some q → eq p.0 q.0 ≡ b → eq p.0 q.0 ≡ false
      test q true at e = absurd (free.0 (ap (λ n. Some n) (differ x y p q is at e)))
      test q false at e = e

      by : (o : Option (K × V)) → f y ≡ o → AllByRecursion (λ z. eq p.0 z ≡ false) (keys_of (filter_map f ys))
          → AllByRecursion (λ z. eq p.0 z ≡ false) (keys_of (cons_option (f y) (filter_map f ys)))
      by None at rest = subst (λ o. AllByRecursion (λ z. eq p.0 z ≡ false)
          (keys_of (cons_option o (filter_map f ys)))) (sym at) rest
      by (Some q) at rest = subst
          (λ o. AllByRecursion (λ z. eq p.0 z ≡ false) (keys_of (cons_option o (filter_map f ys)))) (sym at)
          (test q (eq p.0 q.0) at refl, rest)

  pub distinct-listed : (eq : K → K → Bool) (f : ℕ → Option (K × V)) (xs : List ℕ) → Differ eq f → Apart xs
      → IsDistinct eq (keys_of (filter_map f xs))
  unfolding IsDistinct
  distinct-listed eq f [] differ apart = tt
  distinct-listed eq f (x ∷ xs) differ apart = by (f x) refl (distinct-listed eq f xs differ apart.1)
    where
      by : (o : Option (K × V)) → f x ≡ o → IsDistinct eq (keys_of (filter_map f xs))
          → IsDistinct eq (keys_of (cons_option (f x) (filter_map f xs)))
      by None at rest = subst (λ o. IsDistinct eq (keys_of (cons_option o (filter_map f xs)))) (sym at) rest
      by (Some p) at rest = subst (λ o. IsDistinct eq (keys_of (cons_option o (filter_map f xs)))) (sym at)
          (IsDistinct-cons eq p.0 (keys_of (filter_map f xs)) (apart-listed eq f x p xs differ at apart.0)
          rest)

  -- look-ups
  module _ (test : K → Bool) where
    abbrev pub Fail : List (K × V) → Type 0
    Fail [] = Unit {0}
    Fail (e ∷ es) = (test e.0 ≡ false) × Fail es

    fail-listed : (f : ℕ → Option (K × V)) (key : Option ℕ) (xs : List ℕ) → Avoids key xs
        → ((y : ℕ) (q : K × V) → key ≢ Some y → f y ≡ Some q → test q.0 ≡ false) → Fail (filter_map f xs)
    fail-listed f key [] free fails = tt
    fail-listed f key (x ∷ xs) free fails = by (f x) refl (fail-listed f key xs free.1 fails)
      where
        by : (o : Option (K × V)) → f x ≡ o → Fail (filter_map f xs)
            → Fail (cons_option (f x) (filter_map f xs))
        by None at rest = subst (λ o. Fail (cons_option o (filter_map f xs))) (sym at) rest
        by (Some q) at rest = subst (λ o. Fail (cons_option o (filter_map f xs))) (sym at)
            (fails x q free.0 at, rest)

    -- what a look-up gives, and what is left without it
    pub record Gives (es : List (K × V)) (found : Option (K × V)) (rest : List (K × V)) : Type 0 where
      pub value : lookup test es ≡ option_map (λ p. p.1) found
      pub key : lookup_key test es ≡ option_map (λ p. p.0) found
      pub entry : lookup_entry test es ≡ found
      pub others : remove_entry test es ≡ rest

    pub gives-none : (es : List (K × V)) → Fail es → Gives es None es
    gives-none [] h = record { value = refl; key = refl; entry = refl; others = refl }
    gives-none (e ∷ es) h =
        let rest = gives-none es h.1 in
        record {
          value = ap (λ b. cond b (Some e.1) (lookup test es)) h.0 ∙ rest.value;
          key = ap (λ b. cond b (Some e.0) (lookup_key test es)) h.0 ∙ rest.key;
          entry = ap (λ b. cond b (Some e) (lookup_entry test es)) h.0 ∙ rest.entry;
          others = ap (λ b. cond b es (e ∷ remove_entry test es)) h.0 ∙ ap (λ l. e ∷ l) rest.others;
        }

    pub gives-some : (front : List (K × V)) (p : K × V) (back : List (K × V)) → Fail front → test p.0 ≡ true
        → Gives (front ++ p ∷ back) (Some p) (front ++ back)
    gives-some [] p back h is =
        record {
          value = ap (λ b. cond b (Some p.1) (lookup test back)) is;
          key = ap (λ b. cond b (Some p.0) (lookup_key test back)) is;
          entry = ap (λ b. cond b (Some p) (lookup_entry test back)) is;
          others = ap (λ b. cond b back (p ∷ remove_entry test back)) is;
        }
    gives-some (e ∷ es) p back h is =
        let rest = gives-some es p back h.1 is in let all = es ++ p ∷ back in
        record {
          value = ap (λ b. cond b (Some e.1) (lookup test all)) h.0 ∙ rest.value;
          key = ap (λ b. cond b (Some e.0) (lookup_key test all)) h.0 ∙ rest.key;
          entry = ap (λ b. cond b (Some e) (lookup_entry test all)) h.0 ∙ rest.entry;
          others = ap (λ b. cond b all (e ∷ remove_entry test all)) h.0 ∙ ap (λ l. e ∷ l) rest.others;
        }

    -- no entry passes
    pub test-fails : (pairs : ℕ → Option (K × V)) (x : ℕ) (q : K × V) → ¬ (Matches test pairs x)
        → pairs x ≡ Some q → test q.0 ≡ false
    test-fails pairs x q not is = by (test q.0) refl
      where
        by : (b : Bool) → test q.0 ≡ b → test q.0 ≡ false
        by true e = absurd (not (subst (λ o. IsSomeAnd o (λ p. test p.0 ≡ true)) (sym is) e))
        by false e = e

    pub absent-listed : (c : Chained (Entry K V)) → ((x : ℕ) → ¬ (Matches test (pairs_at c.items) x))
        → Gives (pairs_of c) None (pairs_of c)
    absent-listed c absent =
        gives-none (pairs_of c) (fail-listed (pairs_at c.items) None c.order (avoids-none c.order)
        (λ y q k is. test-fails (pairs_at c.items) y q (absent y) is))

    pub matches-pair : (pairs : ℕ → Option (K × V)) (x : ℕ) → Matches test pairs x → (p : K × V)
        × (pairs x ≡ Some p) × (test p.0 ≡ true)
    matches-pair pairs x m = by (pairs x) refl
      where
        by : (o : Option (K × V)) → pairs x ≡ o → (p : K × V) × (pairs x ≡ Some p) × (test p.0 ≡ true)
        by None is = absurd (subst (λ o. IsSomeAnd o (λ p. test p.0 ≡ true)) is m)
        by (Some p) is = (p, is, subst (λ o. IsSomeAnd o (λ p. test p.0 ≡ true)) is m)

  module _ (eq : K → K → Bool) (law : IsEquivalence eq) (c : Chained (Entry K V)) (full : IsFull c)
      (differ : Differ eq (pairs_at c.items)) (k : K) (at : ℕ) (m : Matches (eq k) (pairs_at c.items) at)
    where
      pub found-listed : Contains c.order at
      found-listed = let p = matches-pair (eq k) (pairs_at c.items) at m in (full.listed at).1
          (ap is_some p.1)

      pub passes : (s : Spot c at) → eq k s.pair.0 ≡ true
      passes s = subst (λ o. IsSomeAnd o (λ p. eq k p.0 ≡ true)) s.here m

      -- no other entry passes
      pub only-one : (s : Spot c at) (y : ℕ) (q : K × V) → y ≢ at → pairs_at c.items y ≡ Some q
          → eq k q.0 ≡ false
      only-one s y q differs is = by (eq k q.0) refl
        where
          by : (b : Bool) → eq k q.0 ≡ b → eq k q.0 ≡ false
          by true e = absurd (differs
              (sym (differ at y s.pair q s.here is (sym (law.congr k s.pair.0 q.0 (passes s)) ∙ e))))
          by false e = e

      -- what the look-up gives
      pub found-gives : (s : Spot c at) → Gives (eq k) (pairs_of c) (Some s.pair)
          (filter_map (pairs_at c.items) s.front ++ filter_map (pairs_at c.items) s.back)
      found-gives s =
          subst (λ l. Gives (eq k) l (Some s.pair)
          (filter_map (pairs_at c.items) s.front ++ filter_map (pairs_at c.items) s.back)) (sym s.listed)
          (gives-some (eq k) (filter_map (pairs_at c.items) s.front) s.pair
          (filter_map (pairs_at c.items) s.back)
          (fail-listed (eq k) (pairs_at c.items) (Some at) s.front s.not-front
          (λ y q not is. only-one s y q (λ e. not (ap (λ n. Some n) (sym e))) is))
          (passes s))
