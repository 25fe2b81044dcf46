-- The two ends of a list of entries, and the part of it that an iterator has left.
use Rattle.std.proofs.Common.{◌≡◌, ◌≢◌, ℕ, zero, suc, ◌+◌, ◌-◌, ◌<◌, ◌≤◌, List, [], ◌∷◌, ◌++◌, length, Option}
use Rattle.std.proofs.Common.{Some, None, refl, sym, ap, ◌∙◌, subst, unwrap_or, inl, inr, arith, Contains}
use Rattle.std.proofs.Common.{slice_get, get_or, take, drop, length-drop}
use Rattle.std.specs.List.{filter_map, cons_option}
use Rattle.std.proofs.lemmas.List.{get_or-drop, take_more, take_all, length-take}
use Rattle.std.proofs.lemmas.List.Elements.{filter_map-append}
use Rattle.std.specs.Option.{option_map}
use Rattle.slab.specs.Slab.{get}
use Rattle.slab.proofs.SlabLemmas.{Contains-cons, Contains-cons_cases}
use Rattle.lru_metered.specs.declared.index.Entry.{Entry}
use Rattle.lru_metered.specs.Chain.{Chained, first_or, last_or, without}
use Rattle.lru_metered.specs.Index.{pair_of, pairs_at}
use Rattle.lru_metered.specs.Listing.{pairs_of, IsFull, left_of, IsPart}
use Rattle.lru_metered.proofs.ChainLemmas.{some≢none, first-got}
use Rattle.lru_metered.proofs.ListingLemmas.{Spot, spot-from, place-cut, has-right, has-one, listed-taken}
use Rattle.lru_metered.proofs.ListingLemmas.{length-listed, length-pairs}

-- the last of a list
pub last-cut : (xs : List ℕ) (x : ℕ) → last_or None xs ≡ Some x → (front : List ℕ) × (xs ≡ front ++ x ∷ [])
last-cut [] x is = absurd (some≢none x (sym is))
last-cut (y ∷ []) x is = ([], ap (λ z. z ∷ []) (ap (λ o. unwrap_or o y) is))
last-cut (y ∷ z ∷ zs) x is = let rest = last-cut (z ∷ zs) x is in (y ∷ rest.0, ap (λ l. y ∷ l) rest.1)

pub last-has : (xs : List ℕ) (x : ℕ) → last_or None xs ≡ Some x → Contains xs x
last-has xs x is = let e = last-cut xs x is in subst (λ l. Contains l x) (sym e.1)
    (has-right e.0 (x ∷ []) x (has-one x))

pub last-got : (xs : List ℕ) → last_or None xs ≡ slice_get xs (length xs - 1)
last-got [] = refl
last-got (y ∷ []) = refl
last-got (y ∷ z ∷ zs) =
    let at : length (y ∷ z ∷ zs) - 1 ≡ suc (length (z ∷ zs) - 1) = omega arith in
    last-got (z ∷ zs) ∙ sym (ap (slice_get (y ∷ z ∷ zs)) at)

-- what a look-up by place gives
module _ {X : Type 0} where
  pub got : (xs : List X) (i : ℕ) → i < length xs → (x : X) × (slice_get xs i ≡ Some x)
  got [] i within = absurd (omega arith)
  got (x ∷ xs) zero within = (x, refl)
  got (x ∷ xs) (suc i) within = got xs i (omega arith)

  pub got-within : (xs : List X) (i : ℕ) (x : X) → slice_get xs i ≡ Some x → i < length xs
  got-within [] i x is = absurd (some≢none x (sym is))
  got-within (y ∷ ys) zero x is = omega arith
  got-within (y ∷ ys) (suc i) x is = let rest = got-within ys i x is in omega (arith, rest)

  pub got-or : (xs : List X) (i : ℕ) (x d : X) → slice_get xs i ≡ Some x → get_or xs i d ≡ x
  got-or [] i x d is = absurd (some≢none x (sym is))
  got-or (y ∷ ys) zero x d is = ap (λ o. unwrap_or o y) is
  got-or (y ∷ ys) (suc i) x d is = got-or ys i x d is

  pub drop-got : (xs : List X) (i : ℕ) (x : X) → slice_get xs i ≡ Some x → drop i xs ≡ x ∷ drop (suc i) xs
  drop-got [] i x is = absurd (some≢none x (sym is))
  drop-got (y ∷ ys) zero x is = ap (λ z. z ∷ ys) (ap (λ o. unwrap_or o y) is)
  drop-got (y ∷ ys) (suc i) x is = drop-got ys i x is

  got-left : (xs ys : List X) (i : ℕ) → i < length xs → slice_get (xs ++ ys) i ≡ slice_get xs i
  got-left [] ys i within = absurd (omega arith)
  got-left (x ∷ xs) ys zero within = refl
  got-left (x ∷ xs) ys (suc i) within = got-left xs ys i (omega arith)

  got-behind : (xs : List X) (x : X) (ys : List X)
      → slice_get (xs ++ x ∷ ys) (suc (length xs)) ≡ slice_get ys 0
  got-behind [] x ys = refl
  got-behind (z ∷ zs) x ys = got-behind zs x ys

-- a walk along a list, by the key behind each
pub got-none : (xs : List ℕ) (i j : ℕ) → slice_get xs i ≡ None → i ≤ j → slice_get xs j ≡ None
got-none [] i j is order = refl
got-none (x ∷ xs) zero j is order = absurd (some≢none x is)
got-none (x ∷ xs) (suc i) zero is order = absurd (omega arith)
got-none (x ∷ xs) (suc i) (suc j) is order = got-none xs i j is (omega arith)

pub got-has : (xs : List ℕ) (i x : ℕ) → slice_get xs i ≡ Some x → Contains xs x
got-has xs i x is = let e = place-cut xs i x is in subst (λ l. Contains l x) (sym e.2)
    (has-right e.0 (x ∷ e.1) x (0, omega arith, refl))

pub after-got : (xs : List ℕ) (i x : ℕ) (after : Option ℕ) → slice_get xs i ≡ Some x
    → ((front back : List ℕ) → xs ≡ front ++ x ∷ back → after ≡ first_or back None)
    → after ≡ slice_get xs (i + 1)
after-got xs i x after is behind =
    let e = place-cut xs i x is in let more : i + 1 ≡ suc i = omega arith in
    behind e.0 e.1 e.2 ∙ (first-got e.1
    ∙ (sym (got-behind e.0 x e.1)
    ∙ (ap (λ n. slice_get (e.0 ++ x ∷ e.1) (suc n)) e.3
    ∙ (ap (λ l. slice_get l (suc i)) (sym e.2) ∙ ap (slice_get xs) (sym more)))))

in-take : (n : ℕ) (xs : List ℕ) (x : ℕ) → Contains (take n xs) x → Contains xs x
in-take zero xs x has = absurd (omega (arith, has.1))
in-take (suc n) [] x has = has
in-take (suc n) (y ∷ ys) x has = elim (Contains-cons_cases y x (take n ys) has) [
  | inl is ↦ (0, omega arith, is)
  | inr more ↦ Contains-cons y x ys (in-take n ys x more)
]

in-drop : (n : ℕ) (xs : List ℕ) (x : ℕ) → Contains (drop n xs) x → Contains xs x
in-drop zero xs x has = has
in-drop (suc n) [] x has = has
in-drop (suc n) (y ∷ ys) x has = Contains-cons y x ys (in-drop n ys x has)

module _ {K V : Type 0} where
  -- an end that is taken out
  module _ (c new : Chained (Entry K V)) (full : IsFull c) (at : ℕ) (p : K × V)
      (here : pairs_at c.items at ≡ Some p) (order : new.order ≡ without at c.order)
      (others : (x : ℕ) → x ≢ at → pairs_at new.items x ≡ pairs_at c.items x) where
    pair-is : (s : Spot c at) → s.pair ≡ p
    pair-is s = ap (λ o. unwrap_or o s.pair) (sym s.here ∙ here)

    pub first-taken : slice_get c.order 0 ≡ Some at → pairs_of c ≡ p ∷ pairs_of new
    first-taken is = by c.order refl
      where
        by : (xs : List ℕ) → c.order ≡ xs → pairs_of c ≡ p ∷ pairs_of new
        by [] e = absurd (some≢none at (sym is ∙ ap (λ l. slice_get l 0) e))
        by (y ∷ ys) e =
            let same : y ≡ at = ap (λ o. unwrap_or o y) (ap (λ l. slice_get l 0) (sym e) ∙ is) in
            let s = spot-from c full [] at ys (e ∙ ap (λ z. z ∷ ys) same) in
            s.listed ∙ (ap (λ q. q ∷ filter_map (pairs_at c.items) ys) (pair-is s)
            ∙ ap (λ l. p ∷ l) (sym (listed-taken c new at s others order)))

    pub last-taken : last_or None c.order ≡ Some at → pairs_of c ≡ pairs_of new ++ p ∷ []
    last-taken is =
        let e = last-cut c.order at is in
        let s = spot-from c full e.0 at [] e.1 in
        s.listed ∙ (ap (λ q. filter_map (pairs_at c.items) e.0 ++ q ∷ []) (pair-is s)
        ∙ ap (λ l. l ++ p ∷ []) (sym (listed-taken c new at s others order
        ∙ nil (filter_map (pairs_at c.items) e.0))))
      where
        nil : {Y : Type 0} (l : List Y) → l ++ [] ≡ l
        nil [] = refl
        nil (y ∷ ys) = ap (λ z. y ∷ z) (nil ys)

  -- no entry, no pair
  pub none-listed : (c : Chained (Entry K V)) → slice_get c.order 0 ≡ None → pairs_of c ≡ []
  none-listed c is = by c.order refl
    where
      by : (xs : List ℕ) → c.order ≡ xs → pairs_of c ≡ []
      by [] e = ap (filter_map (pairs_at c.items)) e
      by (y ∷ ys) e = absurd (some≢none y (ap (λ l. slice_get l 0) (sym e) ∙ is))

  pub none-last : (c : Chained (Entry K V)) → last_or None c.order ≡ None → pairs_of c ≡ []
  none-last c is = by c.order refl
    where
      some-last : (y : ℕ) (ys : List ℕ) → last_or (Some y) ys ≢ None
      some-last y [] e = some≢none y e
      some-last y (z ∷ zs) e = some-last z zs e

      by : (xs : List ℕ) → c.order ≡ xs → pairs_of c ≡ []
      by [] e = ap (filter_map (pairs_at c.items)) e
      by (y ∷ ys) e = absurd (some-last y ys (ap (last_or None) (sym e) ∙ is))

  -- the part that is left of a list
  module _ (c : Chained (Entry K V)) (end left : ℕ) (first last : Option ℕ)
      (part : IsPart c end left first last) where
    pub length-left : length (left_of c end left) ≡ left
    length-left =
        length-listed (pairs_at c.items) (take left (drop (end - left) c.order))
        (λ x has. (part.full.listed x).0
        (in-drop (end - left) c.order x (in-take left (drop (end - left) c.order) x has)))
        ∙ omega (
          arith,
          part.within,
          part.ends_within,
          length-take left (drop (end - left) c.order),
          length-drop (end - left) c.order,
        )

    module _ (some : 0 < left) (at : ℕ) (e : Entry K V) (found : get c.items at ≡ Some e) where
      here : pairs_at c.items at ≡ Some (pair_of e)
      here = ap (option_map pair_of) found

      -- the first of them is taken
      pub part-first : first ≡ Some at → left_of c end left ≡ pair_of e ∷ left_of c end (left - 1)
      part-first is =
          let place = end - left in
          let there : slice_get c.order place ≡ Some at = sym (part.starts some) ∙ is in
          let less : left ≡ suc (left - 1) = omega arith in
          let more : suc place ≡ end - (left - 1) = omega (arith, part.within) in
          let rest : take left (drop place c.order) ≡ at ∷ take (left - 1) (drop (end - (left - 1)) c.order) =
          ap (λ n. take n (drop place c.order)) less
          ∙ (ap (take (suc (left - 1))) (drop-got c.order place at there)
          ∙ ap (λ n. at ∷ take (left - 1) (drop n c.order)) more) in
          ap (filter_map (pairs_at c.items)) rest ∙ ap (λ o. cons_option o (left_of c end (left - 1))) here

      pub part-next : first ≡ Some at → (after : Option ℕ)
          → ((front back : List ℕ) → c.order ≡ front ++ at ∷ back → after ≡ first_or back None)
          → IsPart c end (left - 1) after last
      part-next is after behind =
          let there : slice_get c.order (end - left) ≡ Some at = sym (part.starts some) ∙ is in
          let more : end - left + 1 ≡ end - (left - 1) = omega (arith, part.within) in
          record {
            full = part.full;
            within = omega (arith, part.within);
            ends_within = part.ends_within;
            starts = λ _. after-got c.order (end - left) at after there behind ∙ ap (slice_get c.order) more;
            ends = λ _. part.ends some;
          }

      -- the last of them is taken
      pub part-last : last ≡ Some at → left_of c end left ≡ left_of c (end - 1) (left - 1) ++ pair_of e ∷ []
      part-last is =
          let place = end - left in
          let there : slice_get c.order (end - 1) ≡ Some at = sym (part.ends some) ∙ is in
          let less : left ≡ left - 1 + 1 = omega arith in
          let index : place + (left - 1) ≡ end - 1 = omega (arith, part.within) in
          let same : place ≡ end - 1 - (left - 1) = omega (arith, part.within) in
          let within : left - 1 < length (drop place c.order) =
          omega (arith, length-drop place c.order, part.within, part.ends_within) in
          let item : get_or (drop place c.order) (left - 1) at ≡ at =
          get_or-drop place c.order (left - 1) at
          ∙ (ap (λ n. get_or c.order n at) index ∙ got-or c.order (end - 1) at at there) in
          let rest : take left (drop place c.order) ≡ take (left - 1) (drop (end - 1 - (left - 1)) c.order)
          ++ at ∷ [] =
          ap (λ n. take n (drop place c.order)) less ∙ (take_more (drop place c.order) (left - 1) at within
          ∙ (ap (λ z. take (left - 1) (drop place c.order) ++ z ∷ []) item
          ∙ ap (λ n. take (left - 1) (drop n c.order) ++ at ∷ []) same)) in
          ap (filter_map (pairs_at c.items)) rest
          ∙ (filter_map-append (pairs_at c.items) (take (left - 1) (drop (end - 1 - (left - 1)) c.order))
          (at ∷ [])
          ∙ ap (λ o. left_of c (end - 1) (left - 1) ++ cons_option o []) here)

      pub part-back : last ≡ Some at → (before : Option ℕ)
          → ((front back : List ℕ) → c.order ≡ front ++ at ∷ back → before ≡ last_or None front)
          → IsPart c (end - 1) (left - 1) first before
      part-back is before ahead =
          let there : slice_get c.order (end - 1) ≡ Some at = sym (part.ends some) ∙ is in
          let x = place-cut c.order (end - 1) at there in
          let same : end - left ≡ end - 1 - (left - 1) = omega (arith, part.within) in
          record {
            full = part.full;
            within = omega (arith, part.within);
            ends_within = omega (arith, part.ends_within);
            starts = λ _. part.starts some ∙ ap (slice_get c.order) same;
            ends = λ more.
                let n : length x.0 - 1 ≡ end - 1 - 1 = omega (arith, x.3) in
                let inside : end - 1 - 1 < length x.0 = omega (arith, x.3, part.within) in
                ahead x.0 x.1 x.2 ∙ (last-got x.0
                ∙ (ap (slice_get x.0) n ∙ (sym (got-left x.0 (at ∷ x.1) (end - 1 - 1) inside)
                ∙ ap (λ l. slice_get l (end - 1 - 1)) (sym x.2))));
          }

  -- the whole list
  pub whole-part : (c : Chained (Entry K V)) (left : ℕ) (first last : Option ℕ) → IsFull c
      → left ≡ length c.order → first ≡ slice_get c.order 0 → last ≡ last_or None c.order
      → IsPart c left left first last
  whole-part c left first last full is starts ends =
      let none : 0 ≡ left - left = omega arith in
      let same : length c.order - 1 ≡ left - 1 = omega (arith, is) in
      record {
        full = full;
        within = omega arith;
        ends_within = omega (arith, is);
        starts = λ _. starts ∙ ap (slice_get c.order) none;
        ends = λ _. ends ∙ (last-got c.order ∙ ap (slice_get c.order) same);
      }

  pub whole-left : (c : Chained (Entry K V)) (left : ℕ) → left ≡ length c.order
      → left_of c left left ≡ pairs_of c
  whole-left c left is =
      let none : left - left ≡ 0 = omega arith in
      ap (λ n. filter_map (pairs_at c.items) (take left (drop n c.order))) none
      ∙ ap (filter_map (pairs_at c.items)) (take_all left c.order (omega (arith, is)))

  -- the last of them, where there is one
  pub last-there : (c : Chained (Entry K V)) → IsFull c → (n : ℕ) → n ≡ length (pairs_of c) → 0 < n → (x : ℕ)
      × (last_or None c.order ≡ Some x) × (slice_get c.order (n - 1) ≡ Some x)
  last-there c full n is some =
      let len = length-pairs c full in
      let same : n - 1 ≡ length c.order - 1 = omega (arith, is, len) in
      let at = got c.order (n - 1) (omega (arith, is, len)) in
      (at.0, last-got c.order ∙ (ap (slice_get c.order) (sym same) ∙ at.1), at.1)
