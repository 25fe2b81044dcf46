-- A chain at a key of the list that it is seen as, and the entries at places of a table's list.
use Rattle.std.proofs.Common.{◌≡◌, ℕ, ◌-◌, ◌<◌, true, List, Option, Some, None, is_some, length, slice_get, Contains}
use Rattle.std.proofs.Common.{IfSome, sym, subst, ◌∙◌}
use Rattle.slab.specs.Slab.{Slab, get}
use Rattle.lru_metered.specs.declared.index.Entry.{Entry}
use Rattle.lru_metered.specs.declared.chain.Node.{Node}
use Rattle.lru_metered.specs.Chain.{Chained, Ends, walk, IsChain, Changes, links, last_or}
use Rattle.lru_metered.specs.Listing.{IsFull, pairs_of}
use Rattle.lru_metered.proofs.ChainLemmas.{CutAt, cut-at, ends-held}
use Rattle.lru_metered.proofs.PartLemmas.{got-has, last-there}
use Rattle.lru_metered.proofs.TableLemmas.{held-entry}

module _ {T : Type 0} (s : Slab (Node T)) (first last : Option ℕ) (seen : List ℕ) (key : ℕ)
    (chain : IsChain (links s) first last (walk (links s) (length s.slots) first))
    (view : walk (links s) (length s.slots) first ≡ seen) (has : Contains seen key) where
  -- the list is cut at the key
  pub cut-seen : CutAt (links s) first last (walk (links s) (length s.slots) first) key
  cut-seen = cut-at (links s) first last (walk (links s) (length s.slots) first) key chain
      (subst (λ o. Contains o key) (sym view) has)

  -- its neighbours are there, once it has others
  pub seen-held : (new : Slab (Node T)) (ends : Ends) (change : Ends → Ends) → links s key ≡ Some ends
      → Changes (links s) (links new) (Some key) change
      → IfSome ends.0 (λ x. is_some (links new x) ≡ true) × IfSome ends.1 (λ x. is_some (links new x) ≡ true)
  seen-held new ends change was changes =
      ends-held (links s) (links new) first last (walk (links s) (length s.slots) first) key ends change
      cut-seen was changes

module _ {K V : Type 0} (c : Chained (Entry K V)) (full : IsFull c) where
  -- the entry that the list names at a place is there
  pub held-at : (place at : ℕ) → slice_get c.order place ≡ Some at → is_some (get c.items at) ≡ true
  held-at place at is = held-entry c at full (got-has c.order place at is)

  -- the last that the list names is at the last place of the pairs
  pub last-place : (n at : ℕ) → n ≡ length (pairs_of c) → 0 < n → last_or None c.order ≡ Some at
      → slice_get c.order (n - 1) ≡ Some at
  last-place n at is some last = let end = last-there c full n is some in end.2 ∙ (sym end.1 ∙ last)
