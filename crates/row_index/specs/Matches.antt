-- What stands at the nodes of a tree: first the leaves, by slot, and behind them the winner of each pair of
-- nodes in turn.
use Rattle.std.specs.Prelude.{◌≡◌, ◌≢◌, ℕ, zero, suc, ◌+◌, ◌-◌, ◌*◌, ◌/◌, ◌^◌, ◌<◌, ◌≤◌, Bool, true, false}
use Rattle.std.specs.Prelude.{not, ◌&&◌, List, map, take, drop, length, Option, Some, None, slice_index_or}
use Rattle.std.specs.Prelude.{if◌then◌else◌, ◌==◌}
use Rattle.row_index.specs.declared.entrant.Entrant.{Entrant}

module _ {K : Type 0} where
  -- who won at a node, or stands at a leaf
  abbrev pub node : List (Option (Entrant K)) → ℕ → Option (Entrant K)
  node nodes at = slice_index_or nodes at None

  -- the number of leaves, one more than that of the nodes above them
  abbrev pub leaves_of : List (Option (Entrant K)) → ℕ
  leaves_of nodes = (length nodes + 1) / 2

  -- the key of a slot as it enters
  abbrev pub entered : ℕ → Option K → Option (Entrant K)
  entered slot None = None
  entered slot (Some key) = Some (record { key = key; slot = slot })

  -- the key of an entrant
  abbrev pub key_of : Option (Entrant K) → Option K
  key_of None = None
  key_of (Some entrant) = Some entrant.key

  -- the keys of so many slots
  abbrev pub keys_of : ℕ → List (Option (Entrant K)) → List (Option K)
  keys_of slots nodes = map key_of (take slots nodes)

  -- the keys of so many slots from the first of them on
  abbrev pub span : List (Option (Entrant K)) → ℕ → ℕ → List (Option K)
  span nodes first n = map key_of (take n (drop first nodes))

  -- a match ended as before, where only the key of one slot has changed: nobody won, or the same slot, and
  -- not that one
  abbrev pub keeps : ℕ → Option (Entrant K) → Option (Entrant K) → Bool
  keeps slot None None = true
  keeps slot None (Some new) = false
  keeps slot (Some old) None = false
  keeps slot (Some old) (Some new) = (old.slot == new.slot) && not (new.slot == slot)

  -- the entrant stands at the leaf of its slot
  abbrev pub IsHeld : ℕ → List (Option (Entrant K)) → Entrant K → Type 0
  IsHeld leaves nodes entrant = (entrant.slot < leaves) × (node nodes entrant.slot ≡ Some entrant)

module _ {K : Type 0} (before : K → K → Bool) where
  -- the one that goes first, the left one where they are equal
  abbrev pub first_of : Option (Entrant K) → Option (Entrant K) → Option (Entrant K)
  first_of None right = right
  first_of (Some one) None = Some one
  first_of (Some one) (Some other) = if before other.key one.key then Some other else Some one

  -- the winner of a pair of nodes
  abbrev pub match_of : List (Option (Entrant K)) → ℕ → Option (Entrant K)
  match_of nodes pair = first_of (node nodes (2 * pair)) (node nodes (2 * pair + 1))

  -- whether the key of a node goes before the bound
  abbrev pub is_early : K → Option (Entrant K) → Bool
  is_early bound None = false
  is_early bound (Some entrant) = before entrant.key bound

  -- the winner of the pair stands at its node
  abbrev pub IsPlayed : ℕ → List (Option (Entrant K)) → ℕ → Type 0
  IsPlayed leaves nodes pair = node nodes (leaves + pair) ≡ match_of nodes pair

  -- each winner does
  abbrev pub ArePlayed : ℕ → List (Option (Entrant K)) → Type 0
  ArePlayed leaves nodes = (pair : ℕ) → pair + 1 < leaves → IsPlayed leaves nodes pair

-- there are no more leaves than any power of two that is at least the number of slots
abbrev pub IsNoMore : ℕ → ℕ → Type 0
IsNoMore slots leaves = (h : ℕ) → slots ≤ 2 ^ h → leaves ≤ 2 ^ h

-- each match is played, and at a leaf stands the key of its slot
pub record IsBoard {K : Type 0} (before : K → K → Bool) (leaves : ℕ) (nodes : List (Option (Entrant K))) :
    Type 0 where
  pub len : length nodes ≡ 2 * leaves - 1
  pub own : (at : ℕ) (e : Entrant K) → at < leaves → node nodes at ≡ Some e → e.slot ≡ at
  pub played : ArePlayed before leaves nodes
  pub bound : leaves ≤ 2 ^ 62

-- a tree of so many slots: the leaves are the least power of two that is enough, and those past the slots
-- are empty
pub record IsTree {K : Type 0} (before : K → K → Bool) (leaves slots : ℕ) (nodes : List (Option (Entrant K)))
    : Type 0 where
  pub board : IsBoard before leaves nodes
  pub fits : slots ≤ leaves
  pub free : (at : ℕ) → slots ≤ at → at < leaves → node nodes at ≡ None
  pub power : 0 < leaves → (t : ℕ) × (leaves ≡ 2 ^ t)
  pub least : IsNoMore slots leaves

-- the key of a slot has changed, and each match is played but that above the node `at`, the last that has
-- risen from the slot
pub record IsOpen {K : Type 0} (before : K → K → Bool) (leaves slot at : ℕ)
    (nodes : List (Option (Entrant K))) : Type 0 where
  pub played : (pair : ℕ) → pair + 1 < leaves → pair ≢ at / 2 → IsPlayed before leaves nodes pair
  pub held : (i : ℕ) (e : Entrant K) → node nodes i ≡ Some e → e.slot ≢ slot → IsHeld leaves nodes e

-- the node is so high above the leaves of the slots from the first on, as many as a power of two
abbrev pub Spans : ℕ → ℕ → ℕ → ℕ → Type 0
Spans leaves zero at first = (at ≡ first) × (first < leaves)
Spans leaves (suc j) at first =
    (pair : ℕ) × (at ≡ leaves + pair) × (pair + 1 < leaves) × Spans leaves j (2 * pair) first
    × Spans leaves j (2 * pair + 1) (first + 2 ^ j)
