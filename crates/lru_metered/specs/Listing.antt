-- The pairs of a table in their order, and what holds of every table.
use Rattle.std.specs.Prelude.{◌≡◌, ◌≢◌, ℕ, ◌-◌, ◌<◌, ◌≤◌, ◌↔◌, Bool, true, List, [], ◌∷◌, ◌++◌, length, take}
use Rattle.std.specs.Prelude.{drop, Option, Some, None, IsSome, slice_get, filter_map, Contains}
use Rattle.slab.specs.Slab.{slab_len}
use Rattle.lru_metered.specs.declared.index.Entry.{Entry}
use Rattle.lru_metered.specs.Chain.{Chained, Apart, without}
use Rattle.lru_metered.specs.Index.{pairs_at, nexts, IsBucketed, IsIndexed, placed}

module _ {K V : Type 0} where
  -- the pairs of the list, first to last
  abbrev pub pairs_of : Chained (Entry K V) → List (K × V)
  pairs_of c = filter_map (pairs_at c.items) c.order

  -- each entry is in the list, once
  pub record IsFull (c : Chained (Entry K V)) : Type 0 where
    pub apart : Apart c.order
    pub listed : (x : ℕ) → Contains c.order x ↔ IsSome (pairs_at c.items x)
    pub counted : slab_len c.items ≡ length c.order

  -- the slots and the list are the old ones
  pub record HasSlots (old new : Chained (Entry K V)) : Type 0 where
    pub slots : new.items.slots ≡ old.items.slots
    pub order : new.order ≡ old.order

  -- an entry has this pair now, and is last
  pub record Renewed (old new : Chained (Entry K V)) (at : ℕ) (pair : K × V) : Type 0 where
    pub full : IsFull new
    pub order : new.order ≡ without at old.order ++ at ∷ []
    pub here : pairs_at new.items at ≡ Some pair
    pub others : (x : ℕ) → x ≢ at → pairs_at new.items x ≡ pairs_at old.items x
    pub nexts_kept : (x : ℕ) → nexts new.items x ≡ nexts old.items x

  -- there is one entry more, with this pair: the last, and the first of its bucket
  pub record Pushed (old new : Chained (Entry K V)) (heads heads' : List (Option ℕ)) (bucket : ℕ)
      (pair : K × V) : Type 0 where
    pub at : ℕ
    pub full : IsFull new
    pub order : new.order ≡ old.order ++ at ∷ []
    pub vacant : pairs_at old.items at ≡ None
    pub here : pairs_at new.items at ≡ Some pair
    pub others : (x : ℕ) → x ≢ at → pairs_at new.items x ≡ pairs_at old.items x
    pub bucketed : (home : ℕ → Option ℕ) → IsBucketed (nexts old.items) home heads → home at ≡ None
        → IsBucketed (nexts new.items) (placed at (Some bucket) home) heads'

  -- no two entries have equal keys
  abbrev pub Differ : (K → K → Bool) → (ℕ → Option (K × V)) → Type 0
  Differ eq pairs = (x y : ℕ) (p q : K × V) → pairs x ≡ Some p → pairs y ≡ Some q → eq p.0 q.0 ≡ true → x ≡ y

  -- what holds of every table: of its entries, by the hash of each key, and of the heads of its buckets
  pub record IsTable (eq : K → K → Bool) (hash : K → ℕ) (c : Chained (Entry K V))
      (heads : List (Option ℕ)) : Type 0 where
    pub full : IsFull c
    pub differ : Differ eq (pairs_at c.items)
    pub indexed : IsIndexed hash c.items heads

  -- the pairs that an iterator has left: so many, and the last is the one before this place of the list
  abbrev pub left_of : Chained (Entry K V) → ℕ → ℕ → List (K × V)
  left_of c end left = filter_map (pairs_at c.items) (take left (drop (end - left) c.order))

  -- they lie in the list, and these are the first and the last
  pub record IsPart (c : Chained (Entry K V)) (end left : ℕ) (first last : Option ℕ) : Type 0 where
    pub full : IsFull c
    pub within : left ≤ end
    pub ends_within : end ≤ length c.order
    pub starts : 0 < left → first ≡ slice_get c.order (end - left)
    pub ends : 0 < left → last ≡ slice_get c.order (end - 1)
