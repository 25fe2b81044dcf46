-- A table after each of its steps: what its entries, its list and its buckets are then.
use Rattle.std.proofs.Common.{◌≡◌, ◌≢◌, ℕ, ◌+◌, ◌<◌, ◌≤◌, inl, inr, Bool, true, false, cond, List, [], ◌∷◌}
use Rattle.std.proofs.Common.{◌++◌, length, Option, Some, None, is_some, refl, sym, ap, ◌∙◌, subst}
use Rattle.std.proofs.Common.{true≢false, unwrap_or, arith, Contains, slice_get, get_or, count_by, replicate}
use Rattle.std.proofs.Common.{IfNone, IfSome}
use Rattle.std.specs.List.{filter_map, IsDistinct, AllByRecursion}
use Rattle.std.proofs.lemmas.Map.Keys.{IsDistinct-head, IsDistinct-tail}
use Rattle.std.specs.Option.{option_map, option_map_or, IsSomeAnd}
use Rattle.std.specs.Cmp.{IsEquivalence}
use Rattle.std.specs.Map.{keys_of, values_of, lookup, lookup_key, remove_entry}
use Rattle.std.proofs.lemmas.Bool.{cases_eq, cases_lt}
use Rattle.std.proofs.lemmas.List.{get_or-set_same, get_or-set_other, get_or-replicate, get_or_past}
use Rattle.std.proofs.lemmas.List.{length-replicate}
use Rattle.std.proofs.lemmas.List.Sums.{sum_by-set}
use Rattle.std.proofs.lemmas.Option.{slice_get-map}
use Rattle.slab.specs.Slab.{Slab, get, with_value, slab_len, Updates}
use Rattle.slab.proofs.SlabLemmas.{ContainsKey-within}
use Rattle.lru_metered.specs.declared.index.Entry.{Entry}
use Rattle.lru_metered.specs.Chain.{Chained, Apart, without}
use Rattle.lru_metered.specs.Index.{pair_of, pairs_at, nexts, homes, bucket_in, Matches, Relinks, IsBucketed}
use Rattle.lru_metered.specs.Index.{IsIndexed, placed, below}
use Rattle.lru_metered.specs.Listing.{pairs_of, IsFull, IsTable, Renewed, Pushed, HasSlots}
use Rattle.lru_metered.specs.Metered.{promoted, set_at}
use Rattle.lru_metered.proofs.ChainLemmas.{some≢none, avoids-append}
use Rattle.lru_metered.proofs.IndexLemmas.{avoids-has, bucketed-home, bucketed-kept, bucketed-none}
use Rattle.lru_metered.proofs.IndexLemmas.{placed-same, placed-other, below-in, below-out}
use Rattle.lru_metered.proofs.ListingLemmas.{Spot, spot, spot-from, place-cut, Gives, full-taken, full-moved}
use Rattle.lru_metered.proofs.ListingLemmas.{full-pushed, full-held, full-relinked, listed-written}
use Rattle.lru_metered.proofs.ListingLemmas.{listed-taken, listed-moved, listed-pushed, differ-same}
use Rattle.lru_metered.proofs.ListingLemmas.{differ-taken, differ-put, absent-listed, matches-pair}
use Rattle.lru_metered.proofs.ListingLemmas.{found-listed, found-gives, passes, only-one}
use Rattle.lru_metered.proofs.Lookups.{slice_get-cut, set_at-cut}
use Rattle.lru_metered.proofs.SearchLemmas.{home-of}

module _ {K V : Type 0} where
  -- an entry that is written
  module _ (items : Slab (Entry K V)) (at : ℕ) (e w : Entry K V) (found : get items at ≡ Some e) where
    within : at < length items.slots
    within = ContainsKey-within items at (ap is_some found)

    pub written-here : get (with_value items at w) at ≡ Some w
    written-here = get_or-set_same items.slots at (Some w) None within

    pub written-others : (x : ℕ) → x ≢ at → get (with_value items at w) x ≡ get items x
    written-others x differs = get_or-set_other items.slots at x (Some w) None differs

    pub written-len : slab_len (with_value items at w) ≡ slab_len items
    written-len =
        let change = sum_by-set (λ (o : Option (Entry K V)). cond (is_some o) 1 0) items.slots at
        (Some w) None within in
        let one : ◌≡◌ {A = ℕ} (cond (is_some (get_or items.slots at None)) 1 0) 1 =
        ap (λ b. cond b 1 0) (ap is_some found) in
        omega (arith, change, one)

    pub written-pairs : pair_of w ≡ pair_of e → (x : ℕ)
        → pairs_at (with_value items at w) x ≡ pairs_at items x
    written-pairs same x = elim (cases_eq x at) [
      | inl is ↦ ap (pairs_at (with_value items at w)) is
          ∙ (ap (option_map pair_of) written-here
          ∙ (ap (λ p. Some p) same ∙ (sym (ap (option_map pair_of) found) ∙ ap (pairs_at items) (sym is))))
      | inr differs ↦ ap (option_map pair_of) (written-others x differs)
    ]

    pub written-nexts : w.next ≡ e.next → (x : ℕ) → nexts (with_value items at w) x ≡ nexts items x
    written-nexts same x = elim (cases_eq x at) [
      | inl is ↦ ap (nexts (with_value items at w)) is
          ∙ (ap (option_map (λ (n : Entry K V). n.next)) written-here
          ∙ (ap (λ n. Some n) same ∙ (sym (ap (option_map (λ (n : Entry K V). n.next)) found)
          ∙ ap (nexts items) (sym is))))
      | inr differs ↦ ap (option_map (λ (n : Entry K V). n.next)) (written-others x differs)
    ]

  -- an entry that is given another next
  pub relinked-next : (c : Chained (Entry K V)) (at : ℕ) (e w : Entry K V) → get c.items at ≡ Some e
      → pair_of w ≡ pair_of e → Relinks c (record { items = with_value c.items at w; order = c.order })
  relinked-next c at e w found same = record {
    order = refl;
    pairs = written-pairs c.items at e w found same;
    len = written-len c.items at e w found;
  }

  pub relinks-none : (c : Chained (Entry K V)) → Relinks c c
  relinks-none c = record { order = refl; pairs = λ x. refl; len = refl }

  -- an entry that is taken out of the list is not in it
  pub not-left : (c new : Chained (Entry K V)) (at : ℕ) → IsFull c → Contains c.order at
      → new.order ≡ without at c.order → ¬ (Contains new.order at)
  not-left c new at full has order there =
      let s = spot c at full has in
      avoids-has at (s.front ++ s.back) at (avoids-append (Some at) s.front s.back s.not-front s.not-back)
      (subst (λ l. Contains l at) (order ∙ s.left) there) refl

  pub full-out : (c mid new : Chained (Entry K V)) (at : ℕ) → IsFull c → Contains c.order at
      → mid.order ≡ without at c.order → mid.items ≡ c.items
      → new.order ≡ mid.order → Updates mid.items new.items at None
      → slab_len new.items + 1 ≡ slab_len mid.items → IsFull new
  full-out c mid new at full has order items order' updates len =
      full-taken c new at (spot c at full has)
      (λ x differs. ap (option_map pair_of) (updates.others x differs ∙ ap (λ s. get s x) items)) full
      (order' ∙ order) (ap (option_map pair_of) updates.changed) (len ∙ ap slab_len items)

  pub renewed-from : (c mid : Chained (Entry K V)) (at : ℕ) (e w : Entry K V) → IsFull c → Contains c.order at
      → mid.order ≡ without at c.order ++ at ∷ [] → mid.items ≡ c.items
      → get mid.items at ≡ Some e → w.next ≡ e.next
      → Renewed c (record { items = with_value mid.items at w; order = mid.order }) at (pair_of w)
  renewed-from c mid at e w full has order items found same =
      let new : Chained (Entry K V) = record { items = with_value mid.items at w; order = mid.order } in
      let here = ap (option_map pair_of) (written-here mid.items at e w found) in
      let others : (x : ℕ) → x ≢ at → pairs_at new.items x ≡ pairs_at c.items x = λ x differs.
      ap (option_map pair_of) (written-others mid.items at e w found x differs ∙ ap (λ s. get s x) items)
      in
      record {
        full = full-moved c new at (spot c at full has) others (pair_of w) full order here
            (written-len mid.items at e w found ∙ ap slab_len items);
        order = order;
        here = here;
        others = others;
        nexts_kept = λ x. written-nexts mid.items at e w found same x ∙ ap (λ s. nexts s x) items;
      }

  -- one more entry, whose bucket lists it first
  pub pushed-from : (c one mid new : Chained (Entry K V)) (heads heads' : List (Option ℕ)) (bucket at : ℕ)
      (w : Entry K V) → IsFull c → get c.items at ≡ None
      → Updates c.items one.items at (Some w) → one.order ≡ c.order
      → slab_len one.items ≡ slab_len c.items + 1 → Relinks one mid
      → ((home : ℕ → Option ℕ) → IsBucketed (nexts one.items) home heads → home at ≡ None
      → IsBucketed (nexts mid.items) (placed at (Some bucket) home) heads')
      → new.order ≡ mid.order ++ at ∷ [] → new.items ≡ mid.items → Pushed c new heads heads' bucket
      (pair_of w)
  pushed-from c one mid new heads heads' bucket at w full vacant updates order len r hooked order' items =
      let none : pairs_at c.items at ≡ None = ap (option_map pair_of) vacant in
      let here : pairs_at new.items at ≡ Some (pair_of w) = ap (λ s. pairs_at s at) items
      ∙ (r.pairs at ∙ ap (option_map pair_of) updates.changed) in
      let others : (x : ℕ) → x ≢ at → pairs_at new.items x ≡ pairs_at c.items x = λ x differs.
      ap (λ s. pairs_at s x) items ∙ (r.pairs x ∙ ap (option_map pair_of) (updates.others x differs)) in
      let last : new.order ≡ c.order ++ at ∷ [] = order' ∙ ap (λ l. l ++ at ∷ []) (r.order ∙ order) in
      record {
        at = at;
        full = full-pushed c new at (pair_of w) full last none here others
            (ap slab_len items ∙ (r.len ∙ len));
        order = last;
        vacant = none;
        here = here;
        others = others;
        bucketed = λ home old out. subst (λ s. IsBucketed (nexts s) (placed at (Some bucket) home) heads')
            (sym items)
            (hooked home (bucketed-kept (nexts c.items) home heads (nexts one.items)
            (λ b x is. ap (option_map (λ (n : Entry K V). n.next))
            (updates.others x (λ same. some≢none b (sym is ∙ (ap home same ∙ out))))) old) out);
      }

  -- an entry of the list is there
  pub held-entry : (c : Chained (Entry K V)) (at : ℕ) → IsFull c → Contains c.order at
      → is_some (get c.items at) ≡ true
  held-entry c at full has = by (get c.items at) ((full.listed at).0 has)
    where
      by : (o : Option (Entry K V)) → is_some (option_map pair_of o) ≡ true → is_some o ≡ true
      by None is = is
      by (Some e) is = refl

  -- what a look-up gives where no entry passes, and whether one does
  pub promoted-absent : (test : K → Bool) (c : Chained (Entry K V))
      → ((x : ℕ) → ¬ (Matches test (pairs_at c.items) x)) → promoted test (pairs_of c) ≡ pairs_of c
  promoted-absent test c absent =
      ap (λ o. option_map_or (λ p. remove_entry test (pairs_of c) ++ p ∷ []) o (pairs_of c))
      (absent-listed test c absent).entry

  -- a table of no entry
  pub table-none : (eq : K → K → Bool) (hash : K → ℕ) (c : Chained (Entry K V)) (heads : List (Option ℕ))
      → c.order ≡ [] → c.items.slots ≡ [] → ((b : ℕ) → get_or heads b None ≡ None) → IsTable eq hash c heads
  table-none eq hash c heads order slots empty =
      let none : (x : ℕ) → pairs_at c.items x ≡ None = λ x.
      ap (λ s. option_map pair_of (get_or s x None)) slots ∙ nil x in
      record {
        full = record {
          apart = subst Apart (sym order) tt;
          listed = λ x. (
            (λ has. absurd (omega (arith, (subst (λ l. Contains l x) order has).1))),
            (λ is. absurd (true≢false (sym is ∙ ap is_some (none x)))),
          );
          counted = ap (count_by is_some) slots ∙ ap length (sym order);
        };
        differ = λ x y p q at-x at-y equal. absurd (some≢none p (sym at-x ∙ none x));
        indexed = bucketed-none (nexts c.items)
            (homes (λ k. bucket_in (length heads) (hash k)) (pairs_at c.items)) heads empty
            (λ x. ap (option_map (λ p. bucket_in (length heads) (hash p.0))) (none x));
      }
    where
      nil : (x : ℕ) → option_map pair_of (get_or (let l : List (Option (Entry K V)) = [] in l) x None) ≡ None
      nil x = refl

  module _ (eq : K → K → Bool) (hash : K → ℕ) where
    pub table-relinked : (c new : Chained (Entry K V)) (heads heads' : List (Option ℕ))
        → IsTable eq hash c heads → Relinks c new → IsIndexed hash new.items heads'
        → IsTable eq hash new heads'
    table-relinked c new heads heads' t r indexed =
        record {
          full = full-relinked c new r t.full;
          differ = differ-same eq (pairs_at c.items)
              (pairs_at new.items) t.differ r.pairs;
          indexed = indexed;
        }

    -- where the slots and the list are the old ones
    pub table-slots : (c new : Chained (Entry K V)) (heads : List (Option ℕ)) → IsTable eq hash c heads
        → HasSlots c new → IsTable eq hash new heads
    table-slots c new heads t same =
        let pairs : (x : ℕ) → pairs_at new.items x ≡ pairs_at c.items x = λ x.
        ap (λ s. option_map pair_of (get_or s x None)) same.slots in
        table-relinked c new heads heads t
        (record { order = same.order; pairs = pairs; len = ap (count_by is_some) same.slots })
        (bucketed-home (nexts new.items) (homes (λ k. bucket_in (length heads) (hash k)) (pairs_at c.items))
        heads (homes (λ k. bucket_in (length heads) (hash k)) (pairs_at new.items))
        (λ x. ap (option_map (λ p. bucket_in (length heads) (hash p.0))) (pairs x))
        (bucketed-kept (nexts c.items) (homes (λ k. bucket_in (length heads) (hash k)) (pairs_at c.items))
        heads (nexts new.items) (λ b x is.
        ap (λ s. option_map (λ (n : Entry K V). n.next) (get_or s x None)) same.slots) t.indexed))

    module _ (law : IsEquivalence eq) where
      -- the key's pair is moved to the end
      module _ (c : Chained (Entry K V)) (heads : List (Option ℕ)) (t : IsTable eq hash c heads) (k : K)
          (at : ℕ) (m : Matches (eq k) (pairs_at c.items) at) where
        pub at-listed : Contains c.order at
        at-listed = found-listed eq law c t.full t.differ k at m

        at-spot : Spot c at
        at-spot = spot c at t.full at-listed

        gives : Gives (eq k) (pairs_of c) (Some at-spot.pair)
            (filter_map (pairs_at c.items) at-spot.front ++ filter_map (pairs_at c.items) at-spot.back)
        gives = found-gives eq law c t.full t.differ k at m at-spot

        module _ (new : Chained (Entry K V)) (order : new.order ≡ without at c.order ++ at ∷ [])
            (items : new.items ≡ c.items) where
          pub table-moved : IsTable eq hash new heads
          table-moved =
              let pairs : (x : ℕ) → pairs_at new.items x ≡ pairs_at c.items x = λ x.
              ap (λ s. pairs_at s x) items in
              record {
                full = full-moved c new at at-spot (λ x differs. pairs x) at-spot.pair t.full order
                    (pairs at ∙ at-spot.here) (ap slab_len items);
                differ = differ-same eq (pairs_at c.items) (pairs_at new.items) t.differ pairs;
                indexed = subst (λ s. IsIndexed hash s heads) (sym items) t.indexed;
              }

          pub pairs-moved : pairs_of new ≡ promoted (eq k) (pairs_of c)
          pairs-moved =
              listed-moved c new at at-spot (λ x differs. ap (λ s. pairs_at s x) items) at-spot.pair order
              (ap (λ s. pairs_at s at) items ∙ at-spot.here)
              ∙ sym (ap (λ o. option_map_or (λ p. remove_entry (eq k) (pairs_of c) ++ p ∷ []) o (pairs_of c))
              gives.entry ∙ ap (λ l. l ++ at-spot.pair ∷ []) gives.others)

        -- the bucket of its key's hash is where it belongs
        pub home-found : ((l : K) → eq k l ≡ true → hash k ≡ hash l)
            → homes (λ l. bucket_in (length heads) (hash l)) (pairs_at c.items) at ≡ Some
            (bucket_in (length heads) (hash k))
        home-found respects = home-of eq (λ l. bucket_in (length heads) (hash l)) (pairs_at c.items) k at
            (λ l e. ap (bucket_in (length heads)) (respects l e)) m

        pub value-found : (p : K × V) → pairs_at c.items at ≡ Some p → lookup (eq k) (pairs_of c) ≡ Some p.1
        value-found p is = gives.value ∙ ap (option_map (λ (q : K × V). q.1)) (sym at-spot.here ∙ is)

        pub key-found : (p : K × V) → pairs_at c.items at ≡ Some p → lookup_key (eq k) (pairs_of c) ≡ Some p.0
        key-found p is = gives.key ∙ ap (option_map (λ (q : K × V). q.0)) (sym at-spot.here ∙ is)

        -- the first entry, by its own key, is that entry
        pub found-self : (x : ℕ) (e : Entry K V) → get c.items x ≡ Some e → k ≡ e.key → at ≡ x
        found-self x e found key =
            let p = matches-pair (eq k) (pairs_at c.items) at m in
            sym (t.differ x at (pair_of e) p.0 (ap (option_map pair_of) found) p.1
            (sym (ap (λ l. eq l p.0.0) key) ∙ p.2))

        pub found-some : is_some (lookup (eq k) (pairs_of c)) ≡ true
        found-some = ap is_some gives.value

        -- it is taken out
        module _ (mid new : Chained (Entry K V)) (r : Relinks c mid) (full : IsFull new)
            (order : new.order ≡ without at mid.order) (updates : Updates mid.items new.items at None) where
          pub taken-others : (x : ℕ) → x ≢ at → pairs_at new.items x ≡ pairs_at c.items x
          taken-others x differs = ap (option_map pair_of) (updates.others x differs) ∙ r.pairs x

          taken-gone : pairs_at new.items at ≡ None
          taken-gone = ap (option_map pair_of) updates.changed

          pub table-taken : (heads' : List (Option ℕ)) (bucket : ℕ) → length heads' ≡ length heads
              → ((home : ℕ → Option ℕ) → IsBucketed (nexts c.items) home heads → home at ≡ Some bucket
              → IsBucketed (nexts mid.items) (placed at None home) heads')
              → homes (λ l. bucket_in (length heads) (hash l)) (pairs_at c.items) at ≡ Some bucket
              → IsTable eq hash new heads'
          table-taken heads' bucket len bucketed home =
              let place = λ (l : K). bucket_in (length heads) (hash l) in
              let old = homes place (pairs_at c.items) in
              let mid-in = bucketed old t.indexed home in
              let now : (x : ℕ) → homes place (pairs_at new.items) x ≡ placed at None old x = λ x.
              elim (cases_eq x at) [
                | inl is ↦ ap (homes place (pairs_at new.items)) is
                    ∙ (ap (option_map (λ (p : K × V). place p.0)) taken-gone
                    ∙ (sym (placed-same at None old) ∙ ap (placed at None old) (sym is)))
                | inr differs ↦ ap (option_map (λ (p : K × V). place p.0)) (taken-others x differs)
                    ∙ sym (placed-other at None old x differs)
              ] in
              let kept : (b x : ℕ) → placed at None old x ≡ Some b → nexts new.items x ≡ nexts mid.items x =
              λ b x is. elim (cases_eq x at) [
                | inl same ↦ absurd (some≢none b
                    (sym is ∙ (ap (placed at None old) same ∙ placed-same at None old)))
                | inr differs ↦ ap (option_map (λ (n : Entry K V). n.next)) (updates.others x differs)
              ] in
              record {
                full = full;
                differ = differ-taken eq (pairs_at c.items) (pairs_at new.items) t.differ at taken-others
                    taken-gone;
                indexed = subst (λ n. IsBucketed (nexts new.items)
                    (homes (λ l. bucket_in n (hash l)) (pairs_at new.items)) heads') (sym len)
                    (bucketed-home (nexts new.items) (placed at None old) heads'
                    (homes place (pairs_at new.items)) now
                    (bucketed-kept (nexts mid.items) (placed at None old) heads'
                    (nexts new.items) kept mid-in));
              }

          pub pairs-taken : pairs_of new ≡ remove_entry (eq k) (pairs_of c)
          pairs-taken = listed-taken c new at at-spot taken-others (order ∙ ap (without at) r.order)
              ∙ sym gives.others

        -- it is given a new pair, with an equal key, and moved to the end
        module _ (new : Chained (Entry K V)) (v : V) (renewed : Renewed c new at (k, v)) where
          pub pairs-renewed : pairs_of new ≡ remove_entry (eq k) (pairs_of c) ++ (k, v) ∷ []
          pairs-renewed = listed-moved c new at at-spot renewed.others (k, v) renewed.order renewed.here
              ∙ ap (λ l. l ++ (k, v) ∷ []) (sym gives.others)

          pub table-renewed : ((l : K) → eq k l ≡ true → hash k ≡ hash l) → IsTable eq hash new heads
          table-renewed respects =
              let place = λ (l : K). bucket_in (length heads) (hash l) in
              let same-place : place k ≡ place at-spot.pair.0 = ap (bucket_in (length heads))
              (respects at-spot.pair.0 (passes eq law c t.full t.differ k at m at-spot)) in
              let now : (x : ℕ) → homes place (pairs_at new.items) x ≡ homes place (pairs_at c.items) x = λ x.
              elim (cases_eq x at) [
                | inl is ↦ ap (homes place (pairs_at new.items)) is
                    ∙ (ap (option_map (λ (p : K × V). place p.0)) renewed.here
                    ∙ (ap (λ n. Some n) same-place
                    ∙ (sym (ap (option_map (λ (p : K × V). place p.0)) at-spot.here)
                    ∙ ap (homes place (pairs_at c.items)) (sym is))))
                | inr differs ↦ ap (option_map (λ (p : K × V). place p.0)) (renewed.others x differs)
              ] in
              record {
                full = renewed.full;
                differ = differ-put eq (pairs_at c.items) (pairs_at new.items) t.differ at renewed.others law
                    (k, v) renewed.here (λ x q differs is equal.
                    true≢false (sym equal ∙ only-one eq law c t.full t.differ k at m at-spot x q differs is));
                indexed = bucketed-home (nexts new.items) (homes place (pairs_at c.items)) heads
                    (homes place (pairs_at new.items)) now
                    (bucketed-kept (nexts c.items) (homes place (pairs_at c.items)) heads (nexts new.items)
                    (λ b x is. renewed.nexts_kept x) t.indexed);
              }

      -- one more pair
      pub table-pushed : (c new : Chained (Entry K V)) (heads heads' : List (Option ℕ)) (bucket : ℕ) (k : K)
          (v : V) → IsTable eq hash c heads → length heads' ≡ length heads → bucket ≡ bucket_in (length heads)
          (hash k)
          → ((x : ℕ) (q : K × V) → pairs_at c.items x ≡ Some q → eq k q.0 ≡ true → ⊥)
          → Pushed c new heads heads' bucket (k, v) → IsTable eq hash new heads'
      table-pushed c new heads heads' bucket k v t len at-bucket absent p =
          let place = λ (l : K). bucket_in (length heads) (hash l) in
          let old = homes place (pairs_at c.items) in
          let now : (x : ℕ) → homes place (pairs_at new.items) x ≡ placed p.at (Some bucket) old x = λ x.
          elim (cases_eq x p.at) [
            | inl is ↦ ap (homes place (pairs_at new.items)) is
                ∙ (ap (option_map (λ (q : K × V). place q.0)) p.here
                ∙ (ap (λ n. Some n) (sym at-bucket)
                ∙ (sym (placed-same p.at (Some bucket) old) ∙ ap (placed p.at (Some bucket) old) (sym is))))
            | inr differs ↦ ap (option_map (λ (q : K × V). place q.0)) (p.others x differs)
                ∙ sym (placed-other p.at (Some bucket) old x differs)
          ] in
          record {
            full = p.full;
            differ = differ-put eq (pairs_at c.items) (pairs_at new.items) t.differ p.at p.others law
                (k, v) p.here (λ x q differs is equal. absent x q is equal);
            indexed = subst (λ n. IsBucketed (nexts new.items)
                (homes (λ l. bucket_in n (hash l)) (pairs_at new.items)) heads') (sym len)
                (bucketed-home (nexts new.items) (placed p.at (Some bucket) old) heads'
                (homes place (pairs_at new.items)) now
                (p.bucketed old t.indexed (ap (option_map (λ (q : K × V). place q.0)) p.vacant)));
          }

      pub pairs-pushed : (c new : Chained (Entry K V)) (heads heads' : List (Option ℕ)) (bucket : ℕ)
          (q : K × V) → IsFull c → Pushed c new heads heads' bucket q → pairs_of new ≡ pairs_of c ++ q ∷ []
      pairs-pushed c new heads heads' bucket q full p =
          listed-pushed c new p.at q full p.order p.vacant p.here p.others

      -- a value is written
      module _ (c : Chained (Entry K V)) (heads : List (Option ℕ)) (t : IsTable eq hash c heads) (at : ℕ)
          (e w : Entry K V) (found : get c.items at ≡ Some e) (key : w.key ≡ e.key)
          (next : w.next ≡ e.next) where
        wrote-others : (x : ℕ) → x ≢ at → pairs_at (with_value c.items at w) x ≡ pairs_at c.items x
        wrote-others x differs = ap (option_map pair_of) (written-others c.items at e w found x differs)

        wrote-here : pairs_at (with_value c.items at w) at ≡ Some (pair_of w)
        wrote-here = ap (option_map pair_of) (written-here c.items at e w found)

        was-here : pairs_at c.items at ≡ Some (pair_of e)
        was-here = ap (option_map pair_of) found

        pub table-wrote : IsTable eq hash (record { items = with_value c.items at w; order = c.order }) heads
        table-wrote =
            let new = with_value c.items at w in
            let place = λ (l : K). bucket_in (length heads) (hash l) in
            let now : (x : ℕ) → homes place (pairs_at new) x ≡ homes place (pairs_at c.items) x = λ x.
            elim (cases_eq x at) [
              | inl is ↦ ap (homes place (pairs_at new)) is
                  ∙ (ap (option_map (λ (q : K × V). place q.0)) wrote-here
                  ∙ (ap (λ l. Some (place l)) key ∙ (sym (ap (option_map (λ (q : K × V). place q.0)) was-here)
                  ∙ ap (homes place (pairs_at c.items)) (sym is))))
              | inr differs ↦ ap (option_map (λ (q : K × V). place q.0)) (wrote-others x differs)
            ] in
            let held : (x : ℕ) → is_some (pairs_at new x) ≡ is_some (pairs_at c.items x) = λ x.
            elim (cases_eq x at) [
              | inl is ↦ ap (λ y. is_some (pairs_at new y)) is
                  ∙ (ap is_some wrote-here
                  ∙ (sym (ap is_some was-here) ∙ ap (λ y. is_some (pairs_at c.items y)) (sym is)))
              | inr differs ↦ ap is_some (wrote-others x differs)
            ] in
            record {
              full = full-held c (record { items = new; order = c.order }) t.full refl held
                  (written-len c.items at e w found);
              differ = differ-put eq (pairs_at c.items) (pairs_at new) t.differ at wrote-others law
                  (pair_of w) wrote-here
                  (λ x q differs is equal.
                  differs (sym (t.differ at x (pair_of e) q was-here is
                  (sym (ap (λ l. eq l q.0) key) ∙ equal))));
              indexed = bucketed-home (nexts new) (homes place (pairs_at c.items)) heads
                  (homes place (pairs_at new)) now
                  (bucketed-kept (nexts c.items) (homes place (pairs_at c.items)) heads (nexts new)
                  (λ b x is. written-nexts c.items at e w found next x) t.indexed);
            }

        module _ (place : ℕ) (there : slice_get c.order place ≡ Some at) where
          abbrev cut-there : Spot c at
          cut-there = let x = place-cut c.order place at there in spot-from c t.full x.0 at x.1 x.2

          there-length : length (filter_map (pairs_at c.items) cut-there.front) ≡ place
          there-length = let x = place-cut c.order place at there in cut-there.front-length ∙ x.3

          there-pair : cut-there.pair ≡ pair_of e
          there-pair = ap (λ o. unwrap_or o cut-there.pair) (sym cut-there.here ∙ was-here)

          pub pairs-wrote : pairs_of (record { items = with_value c.items at w; order = c.order }) ≡ set_at
              (pairs_of c) place w.value
          pairs-wrote =
              let new : Chained (Entry K V) = record { items = with_value c.items at w; order = c.order } in
              let front = filter_map (pairs_at c.items) cut-there.front in let back =
              filter_map (pairs_at c.items) cut-there.back in
              let same : (cut-there.pair.0, w.value) ≡ pair_of w =
              ap (λ (q : K × V). (q.0, w.value)) there-pair ∙ ap (λ l. (l, w.value)) (sym key) in
              listed-written c new at cut-there wrote-others (pair_of w) refl wrote-here
              ∙ sym (ap (λ l. set_at l place w.value) cut-there.listed
              ∙ (ap (λ n. set_at (front ++ cut-there.pair ∷ back) n w.value) (sym there-length)
              ∙ (set_at-cut front cut-there.pair back w.value
              ∙ ap (λ q. front ++ q ∷ back) same)))

          pub pair-there : slice_get (pairs_of c) place ≡ Some (pair_of e)
          pair-there =
              let front = filter_map (pairs_at c.items) cut-there.front in let back =
              filter_map (pairs_at c.items) cut-there.back in
              ap (λ l. slice_get l place) cut-there.listed
              ∙ (ap (slice_get (front ++ cut-there.pair ∷ back)) (sym there-length)
              ∙ (slice_get-cut front cut-there.pair back ∙ ap (λ q. Some q) there-pair))

          pub value-there : slice_get (values_of (pairs_of c)) place ≡ Some e.value
          value-there = slice_get-map (λ (p : K × V). p.1) (pairs_of c) place
              ∙ ap (option_map (λ (p : K × V). p.1)) pair-there

  -- whether a look-up finds a key
  pub lookup-is : {X : Type 0} (eq : K → K → Bool) (hash : K → ℕ) (law : IsEquivalence eq)
      (c : Chained (Entry K V)) (heads : List (Option ℕ)) (t : IsTable eq hash c heads) (k : K) (at : X → ℕ)
      (o : Option X)
      → IfSome o (λ f. Matches (eq k) (pairs_at c.items) (at f))
      → IfNone o ((x : ℕ) → ¬ (Matches (eq k) (pairs_at c.items) x))
      → is_some o ≡ is_some (lookup (eq k) (pairs_of c))
  lookup-is eq hash law c heads t k at None some none = sym (ap is_some (absent-listed (eq k) c none).value)
  lookup-is eq hash law c heads t k at (Some f) some none =
      sym (found-some eq hash law c heads t k (at f) some)

pub none-replicated : (n b : ℕ) → get_or (replicate n (let o : Option ℕ = None in o)) b None ≡ None
none-replicated n b = elim (cases_lt b n) [
  | inl less ↦ get_or-replicate n b None None less
  | inr more ↦ get_or_past (replicate n None) b None
      (omega (arith, more, length-replicate n (let o : Option ℕ = None in o)))
]

-- entries that go into their buckets by rising key
pub rehash-start : (next : ℕ → Option (Option ℕ)) (home : ℕ → Option ℕ) (heads : List (Option ℕ))
    → ((b : ℕ) → get_or heads b None ≡ None) → IsBucketed next (below 0 home) heads
rehash-start next home heads empty = bucketed-none next (below 0 home) heads empty
    (λ x. below-out 0 home x (omega arith))

below-more : (home : ℕ → Option ℕ) (at : ℕ) (h : Option ℕ) → h ≡ home at → (x : ℕ)
    → below (at + 1) home x ≡ placed at h (below at home) x
below-more home at h is x = elim (cases_eq x at) [
  | inl same ↦ below-in (at + 1) home x (omega (arith, same))
      ∙ (ap home same ∙ (sym is
      ∙ (sym (placed-same at h (below at home)) ∙ ap (placed at h (below at home)) (sym same))))
  | inr differs ↦ elim (cases_lt x at) [
    | inl less ↦ below-in (at + 1) home x (omega (arith, less))
        ∙ (sym (below-in at home x less) ∙ sym (placed-other at h (below at home) x differs))
    | inr more ↦ below-out (at + 1) home x (past x at differs more)
        ∙ (sym (below-out at home x more) ∙ sym (placed-other at h (below at home) x differs))
  ]
]
  where
    past : (x at : ℕ) → x ≢ at → at ≤ x → at + 1 ≤ x
    past x at differs more = elim (cases_lt at x) [
      | inl less ↦ omega (arith, less)
      | inr not ↦ absurd (differs (omega (arith, more, not)))
    ]

module _ {K V : Type 0} (place : K → ℕ) where
  pub rehash-step : (c now new : Chained (Entry K V)) (heads heads' : List (Option ℕ)) (at : ℕ)
      → Relinks c now
      → IsBucketed (nexts now.items) (below at (homes place (pairs_at c.items))) heads
      → ((home : ℕ → Option ℕ) → IsBucketed (nexts now.items) home heads → home at ≡ None
      → IsBucketed (nexts new.items) (placed at (homes place (pairs_at now.items) at) home) heads')
      → IsBucketed (nexts new.items) (below (at + 1) (homes place (pairs_at c.items))) heads'
  rehash-step c now new heads heads' at r old hooked =
      let home = homes place (pairs_at c.items) in
      let same : homes place (pairs_at now.items) at ≡ home at = ap (option_map (λ (p : K × V). place p.0))
      (r.pairs at) in
      bucketed-home (nexts new.items) (placed at (homes place (pairs_at now.items) at) (below at home)) heads'
      (below (at + 1) home) (below-more home at (homes place (pairs_at now.items) at) same)
      (hooked (below at home) old (below-out at home at (omega arith)))

  -- an entry that is not there belongs nowhere
  pub hook-none : (c : Chained (Entry K V)) (heads : List (Option ℕ)) (home : ℕ → Option ℕ) (at : ℕ)
      → get c.items at ≡ None → IsBucketed (nexts c.items) home heads → home at ≡ None
      → IsBucketed (nexts c.items) (placed at (homes place (pairs_at c.items) at) home) heads
  hook-none c heads home at none old out =
      let nowhere : homes place (pairs_at c.items) at ≡ None =
      ap (λ o. option_map (λ (p : K × V). place p.0) (option_map pair_of o)) none in
      bucketed-home (nexts c.items) home heads (placed at (homes place (pairs_at c.items) at) home)
      (λ x. elim (cases_eq x at) [
        | inl same ↦ ap (placed at (homes place (pairs_at c.items) at) home) same
            ∙ (placed-same at (homes place (pairs_at c.items) at) home
            ∙ (nowhere ∙ (sym out ∙ ap home (sym same))))
        | inr differs ↦ placed-other at (homes place (pairs_at c.items) at) home x differs
      ]) old

pub rehash-end : {K V : Type 0} (hash : K → ℕ) (c new : Chained (Entry K V)) (heads : List (Option ℕ))
    (buckets end : ℕ) → length heads ≡ buckets → Relinks c new → ((x : ℕ) → end ≤ x → get c.items x ≡ None)
    → IsBucketed (nexts new.items) (below end (homes (λ k. bucket_in buckets (hash k)) (pairs_at c.items)))
    heads → IsIndexed hash new.items heads
rehash-end {K} {V} hash c new heads buckets end len r past old =
    let place = λ (k : K). bucket_in buckets (hash k) in let home = homes place (pairs_at c.items) in
    let now : (x : ℕ) → homes place (pairs_at new.items) x ≡ below end home x = λ x.
    ap (option_map (λ (p : K × V). place p.0)) (r.pairs x) ∙ elim (cases_lt x end) [
      | inl less ↦ sym (below-in end home x less)
      | inr more ↦ ap (λ o. option_map (λ (p : K × V). place p.0) (option_map pair_of o)) (past x more)
          ∙ sym (below-out end home x more)
    ] in
    subst (λ n. IsBucketed (nexts new.items) (homes (λ k. bucket_in n (hash k)) (pairs_at new.items)) heads)
    (sym len)
    (bucketed-home (nexts new.items) (below end home) heads (homes place (pairs_at new.items)) now old)

-- a key that a look-up does not find is no entry's
pub absent-keys : {K V : Type 0} (eq : K → K → Bool) (hash : K → ℕ) (law : IsEquivalence eq)
    (c : Chained (Entry K V)) (heads : List (Option ℕ)) → IsTable eq hash c heads → (k : K)
    → lookup (eq k) (pairs_of c) ≡ None
    → (x : ℕ) (q : K × V) → pairs_at c.items x ≡ Some q → eq k q.0 ≡ true → ⊥
absent-keys {K} {V} eq hash law c heads t k none x q is equal =
    true≢false (sym (found-some eq hash law c heads t k x
    (subst (λ o. IsSomeAnd o (λ (p : K × V). eq k p.0 ≡ true)) (sym is) equal)) ∙ ap is_some none)

-- a pair that comes after others with different keys
pub fresh-key : {K V : Type 0} (eq : K → K → Bool) → IsEquivalence eq → (done : List (K × V)) (p : K × V)
    (rest : List (K × V)) → IsDistinct eq (keys_of (done ++ p ∷ rest)) → lookup (eq p.0) done ≡ None
fresh-key {K} {V} eq law [] p rest apart = refl
fresh-key {K} {V} eq law (e ∷ es) p rest apart =
    ap (λ b. cond b (Some e.1) (lookup (eq p.0) es))
    (law.symm p.0 e.0 ∙ among es p rest (IsDistinct-head eq e.0 (keys_of (es ++ p ∷ rest)) apart))
    ∙ fresh-key eq law es p rest (IsDistinct-tail eq e.0 (keys_of (es ++ p ∷ rest)) apart)
  where
    among : (xs : List (K × V)) (q : K × V) (ys : List (K × V)) → AllByRecursion (λ y. eq e.0 y ≡ false)
        (keys_of (xs ++ q ∷ ys)) → eq e.0 q.0 ≡ false
    among [] q ys h = h.0
    among (x ∷ xs) q ys h = among xs q ys h.1
