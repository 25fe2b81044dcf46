-- What a contract sees of a chain, and how its nodes are linked.
use Rattle.std.specs.Prelude.{◌≡◌, ◌≢◌, ℕ, zero, suc, List, [], ◌∷◌, map, Option, Some, None, if◌then◌else◌}
use Rattle.std.specs.Prelude.{nat_eq}
use Rattle.std.specs.Option.{option_map, option_map_or}
use Rattle.slab.specs.Slab.{Slab, get}
use Rattle.lru_metered.specs.declared.chain.Node.{Node}

-- the slab of the items, as it is seen of itself, and the keys in the chain, first to last
pub record Chained (T : Type 0) : Type 0 where
  pub items : Slab T
  pub order : List ℕ

-- the keys without the first that is this one
abbrev pub without : ℕ → List ℕ → List ℕ
without at [] = []
without at (x ∷ xs) = if nat_eq x at then xs else x ∷ without at xs

-- the key of the previous node and of the next
abbrev pub Ends : Type 0
Ends = Option ℕ × Option ℕ

module _ {T : Type 0} where
  abbrev pub item_of : Node T → T
  item_of node = node.item

  abbrev pub ends_of : Node T → Ends
  ends_of node = node.neighbours

  -- a slab of nodes as the slab of their items
  abbrev pub items_of : Slab (Node T) → Slab T
  items_of s =
      record { slots = map (option_map item_of) s.slots; vacant_key = s.vacant_key; capacity = s.capacity }

  -- the neighbours of the node at each key
  abbrev pub links : Slab (Node T) → ℕ → Option Ends
  links s key = option_map ends_of (get s key)

-- the key that follows
abbrev pub following : (ℕ → Option Ends) → ℕ → Option ℕ
following at key = option_map_or (λ e. e.1) (at key) None

-- at most so many keys, each followed by the next
abbrev pub walk : (ℕ → Option Ends) → ℕ → Option ℕ → List ℕ
walk at zero key = []
walk at (suc more) None = []
walk at (suc more) (Some key) = key ∷ walk at more (following at key)

-- the first of the keys, or what follows them
abbrev pub first_or : List ℕ → Option ℕ → Option ℕ
first_or [] after = after
first_or (x ∷ xs) after = Some x

-- the last of the keys, or what is before them
abbrev pub last_or : Option ℕ → List ℕ → Option ℕ
last_or before [] = before
last_or before (x ∷ xs) = last_or (Some x) xs

-- each of the keys has a node, whose neighbours are those in the list
abbrev pub Linked : (ℕ → Option Ends) → Option ℕ → List ℕ → Option ℕ → Type 0
Linked at before [] after = Unit {0}
Linked at before (x ∷ xs) after = (at x ≡ Some (before, first_or xs after)) × Linked at (Some x) xs after

-- none of the keys is this one
abbrev pub Avoids : Option ℕ → List ℕ → Type 0
Avoids key [] = Unit {0}
Avoids key (x ∷ xs) = (key ≢ Some x) × Avoids key xs

-- no two of the keys are one
abbrev pub Apart : List ℕ → Type 0
Apart [] = Unit {0}
Apart (x ∷ xs) = Avoids (Some x) xs × Apart xs

-- the nodes at these keys are linked in this order, from the first key to the last
pub record IsChain (at : ℕ → Option Ends) (first last : Option ℕ) (order : List ℕ) : Type 0 where
  pub linked : Linked at None order None
  pub apart : Apart order
  pub starts : first ≡ first_or order None
  pub ends : last ≡ last_or None order

-- the neighbours of the node at the key, if there is one, became what the function makes of them, and no
-- other's changed
pub record Changes (old new : ℕ → Option Ends) (key : Option ℕ) (change : Ends → Ends) : Type 0 where
  pub there : (x : ℕ) → key ≡ Some x → new x ≡ option_map change (old x)
  pub others : (x : ℕ) → key ≢ Some x → new x ≡ old x

-- with other neighbours
abbrev pub with_ends : Option ℕ → Option ℕ → Ends → Ends
with_ends previous next e = (previous, next)

abbrev pub with_previous : Option ℕ → Ends → Ends
with_previous previous e = (previous, e.1)

abbrev pub with_next : Option ℕ → Ends → Ends
with_next next e = (e.0, next)

-- the neighbours of a node that is out, where there are such, name each other
abbrev pub Joins : (ℕ → Option Ends) → (ℕ → Option Ends) → Ends → Type 0
Joins old new ends =
    (mid : ℕ → Option Ends) × Changes old mid ends.0 (with_next ends.1)
    × Changes mid new ends.1 (with_previous ends.0)
