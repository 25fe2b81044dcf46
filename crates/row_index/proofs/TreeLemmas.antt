-- The keys of the slots, by the nodes of a tree.
use Rattle.std.proofs.Common.{◌≡◌, ℕ, zero, suc, ◌+◌, ◌-◌, ◌*◌, ◌/◌, ◌^◌, ◌<◌, ◌≤◌, max, min, Bool}
use Rattle.std.proofs.Common.{false, List, ◌++◌, Option, Some, None, length, get_or, set}
use Rattle.std.proofs.Common.{take, replicate, refl, sym, ap, ◌∙◌, subst, inl, inr, arith, pow-suc}
use Rattle.std.proofs.Common.{pow_pos, pow_mono, get_or-set_same, get_or-set_other, get_or-take, length-set}
use Rattle.std.proofs.Common.{length-take, length-take-le, ext_get_or}
use Rattle.std.specs.Int.{IsPowerOfTwo}
use Rattle.std.proofs.lemmas.Bool.{cases_lt, cases_eq}
use Rattle.std.proofs.lemmas.List.{get_or_past, get_or-map, get_or_append_left, get_or-append_right}
use Rattle.std.proofs.lemmas.List.{length-map, length-append, length-replicate}
use Rattle.row_index.specs.declared.entrant.Entrant.{Entrant}
use Rattle.row_index.specs.Winner.{HasNone, IsLeast, Differ}
use Rattle.row_index.specs.Matches.{node, leaves_of, entered, key_of, keys_of, IsHeld, ArePlayed}
use Rattle.row_index.specs.Matches.{IsNoMore, IsTree}
use Rattle.row_index.proofs.MatchLemmas.{Order, IsBehind, entered_slot, entered_key}
use Rattle.row_index.proofs.BoardLemmas.{root_behind, held}

pub keys_len : {K : Type 0} (slots : ℕ) (nodes : List (Option (Entrant K))) → slots ≤ length nodes
    → length (keys_of slots nodes) ≡ slots
keys_len slots nodes short = length-map (take slots nodes) key_of ∙ length-take-le slots nodes short

pub key_here : {K : Type 0} (slots : ℕ) (nodes : List (Option (Entrant K))) (at : ℕ) → slots ≤ length nodes
    → at < slots → get_or (keys_of slots nodes) at None ≡ key_of (node nodes at)
key_here slots nodes at short lt =
    let len : length (take slots nodes) ≡ slots = length-take-le slots nodes short in
    get_or-map key_of (take slots nodes) at None None (omega arith)
    ∙ ap key_of (get_or-take slots nodes at None lt)

pub key_past : {K : Type 0} (slots : ℕ) (nodes : List (Option (Entrant K))) (at : ℕ) → slots ≤ at
    → get_or (keys_of slots nodes) at None ≡ None
key_past slots nodes at past =
    let len : length (keys_of slots nodes) ≡ min slots (length nodes) = length-map (take slots nodes) key_of
    ∙ length-take slots nodes in
    get_or_past (keys_of slots nodes) at None (omega arith)

-- the keys of the slots are these
pub keys_are : {K : Type 0} (slots : ℕ) (nodes : List (Option (Entrant K))) (keys : List (Option K))
    → slots ≤ length nodes → length keys ≡ slots
    → ((at : ℕ) → at < slots → key_of (node nodes at) ≡ get_or keys at None) → keys_of slots nodes ≡ keys
keys_are slots nodes keys short len each =
    let own : length (keys_of slots nodes) ≡ slots = keys_len slots nodes short in
    ext_get_or None (keys_of slots nodes) keys (own ∙ sym len)
    (λ i lt. key_here slots nodes i short (omega arith) ∙ each i (omega arith))

-- a tree has a leaf for each slot
pub tree_short : {K : Type 0} (before : K → K → Bool) (leaves slots : ℕ) (nodes : List (Option (Entrant K)))
    → IsTree before leaves slots nodes → slots ≤ length nodes
tree_short before leaves slots nodes tree = omega (arith, tree.board.len, tree.fits)

-- two lists of nodes with the same leaves
pub leaf_same : {K : Type 0} (leaves : ℕ) (nodes new : List (Option (Entrant K)))
    → take leaves new ≡ take leaves nodes → (at : ℕ) → at < leaves → node new at ≡ node nodes at
leaf_same leaves nodes new same at lt = sym (get_or-take leaves new at None lt) ∙ ap (λ l. node l at) same
    ∙ get_or-take leaves nodes at None lt

-- the tree after a key was written at its leaf and the matches above were played
pub set_tree : {K : Type 0} (before : K → K → Bool) (leaves slots slot : ℕ)
    (nodes new : List (Option (Entrant K))) (key : Option K) → IsTree before leaves slots nodes
    → slot < slots
    →
    take leaves new ≡ take leaves (set nodes slot (entered slot key))
    → length new ≡ length (set nodes slot (entered slot key)) → ArePlayed before leaves new
    → IsTree before leaves slots new
set_tree {K} before leaves slots slot nodes new key tree within same len played =
    record {
      board = record {
        len = len ∙ length-set nodes slot (entered slot key) ∙ tree.board.len;
        own = own;
        played = played;
        bound = tree.board.bound;
      };
      fits = tree.fits;
      free = free;
      power =
          tree.power;
      least = tree.least;
    }
  where
    short : slot < length nodes
    short = omega (arith, tree.board.len, tree.fits)

    own : (at : ℕ) (e : Entrant K) → at < leaves → node new at ≡ Some e → e.slot ≡ at
    own at e lt is =
        elim (cases_eq at slot) [
          | inl here ↦
              let came : entered slot key ≡ Some e =
              sym (get_or-set_same nodes slot (entered slot key) None short)
              ∙ ap (λ x. node (set nodes slot (entered slot key)) x) (sym here)
              ∙ sym (leaf_same leaves (set nodes slot (entered slot key)) new same at lt) ∙ is in
              entered_slot slot key e came ∙ sym here
          | inr apart ↦ tree.board.own at e lt
              (sym (leaf_same leaves (set nodes slot (entered slot key)) new same at lt
              ∙ get_or-set_other nodes slot at (entered slot key) None apart) ∙ is)
        ]

    free : (at : ℕ) → slots ≤ at → at < leaves → node new at ≡ None
    free at past lt = leaf_same leaves (set nodes slot (entered slot key)) new same at lt
        ∙ get_or-set_other nodes slot at (entered slot key) None (λ e. omega arith) ∙ tree.free at past lt

pub set_keys : {K : Type 0} (before : K → K → Bool) (leaves slots slot : ℕ)
    (nodes new : List (Option (Entrant K))) (key : Option K) → IsTree before leaves slots nodes
    → slot < slots
    →
    take leaves new ≡ take leaves (set nodes slot (entered slot key))
    → length new ≡ length (set nodes slot (entered slot key))
    → keys_of slots new ≡ set (keys_of slots nodes) slot key
set_keys {K} before leaves slots slot nodes new key tree within same len =
    keys_are slots new (set (keys_of slots nodes) slot key)
    (omega (
      arith,
      tree_short before leaves slots nodes tree,
      len
          ∙ length-set nodes slot (entered slot key),
    )) (length-set (keys_of slots nodes) slot key
    ∙ keys_len slots nodes short) each
  where
    short : slots ≤ length nodes
    short = tree_short before leaves slots nodes tree

    each : (at : ℕ) → at < slots → key_of (node new at) ≡ get_or (set (keys_of slots nodes) slot key) at None
    each at lt =
        let low : at < leaves = omega (arith, tree.fits) in
        let there : node new at ≡ node (set nodes slot (entered slot key)) at =
        leaf_same leaves (set nodes slot (entered slot key)) new same at low in
        elim (cases_eq at slot) [
          | inl here ↦
              let put : node (set nodes slot (entered slot key)) at ≡ entered slot key =
              ap (λ x. node (set nodes slot (entered slot key)) x) here ∙ get_or-set_same nodes slot
              (entered slot key) None (omega arith) in
              let read : get_or (set (keys_of slots nodes) slot key) at None ≡ key =
              ap (λ x. get_or (set (keys_of slots nodes) slot key) x None) here
              ∙ get_or-set_same (keys_of slots nodes) slot key None
              (omega (arith, keys_len slots nodes short)) in
              ap key_of (there ∙ put) ∙ entered_key slot key ∙ sym read
          | inr apart ↦
              ap key_of (there ∙ get_or-set_other nodes slot at (entered slot key) None apart)
              ∙ sym (get_or-set_other (keys_of slots nodes) slot at key None apart
              ∙ key_here slots nodes at short lt)
        ]

-- a tree by the number of its nodes
pub tree_of : {K : Type 0} (before : K → K → Bool) (leaves slots : ℕ) (nodes : List (Option (Entrant K)))
    → IsTree before leaves slots nodes → IsTree before (leaves_of nodes) slots nodes
tree_of before leaves slots nodes tree = let same : leaves ≡ leaves_of nodes = omega (arith, tree.board.len)
    in subst (λ l. IsTree before l slots nodes) same tree

-- the same once the write is done
pub set_done : {K : Type 0} (before : K → K → Bool) (slots slot : ℕ)
    (nodes put new : List (Option (Entrant K))) (key : Option K)
    → IsTree before (leaves_of nodes) slots nodes
    → slot < slots → put ≡ set nodes slot (entered slot key) →
    length new ≡ length put → take (leaves_of put) new ≡ take (leaves_of put) put
    → ArePlayed before (leaves_of put) new → IsTree before (leaves_of new) slots new
    × (keys_of slots new ≡ set (keys_of slots nodes) slot key)
set_done {K} before slots slot nodes put new key tree within written len same played = (
  tree_of before (leaves_of nodes) slots new
      (set_tree before (leaves_of nodes) slots slot nodes new key tree within leaves_same len_same
      (subst (λ l. ArePlayed before l new) leaves played)),
  set_keys before (leaves_of nodes) slots slot nodes new key tree within leaves_same len_same,
)
  where
    leaves : leaves_of put ≡ leaves_of nodes
    leaves = ap (λ n. (n + 1) / 2) (ap (λ l. length l) written ∙ length-set nodes slot (entered slot key))

    leaves_same : take (leaves_of nodes) new ≡ take (leaves_of nodes) (set nodes slot (entered slot key))
    leaves_same = subst (λ l. take l new ≡ take l put) leaves same
        ∙ ap (λ l. take (leaves_of nodes) l) written

    len_same : length new ≡ length (set nodes slot (entered slot key))
    len_same = len ∙ ap (λ l. length l) written

-- an empty slot, and one past the end
pub none_in : {A : Type 0} (n at : ℕ) → get_or {A = Option A} (replicate n None) at None ≡ None
none_in zero at = refl
none_in (suc n) zero = refl
none_in (suc n) (suc at) = none_in n at

-- a tree with more slots: the leaves stay, and the new ones are empty
pub grown_keys : {K : Type 0} (before : K → K → Bool) (leaves slots more : ℕ)
    (nodes new : List (Option (Entrant K))) → IsTree before leaves slots nodes → slots ≤ more
    → more ≤ length new →
    ((at : ℕ) → at < more → at < leaves → node new at ≡ node nodes at)
    → ((at : ℕ) → at < more → leaves ≤ at → node new at ≡ None)
    → keys_of more new ≡ keys_of slots nodes ++ replicate (more - slots) None
grown_keys {K} before leaves slots more nodes new tree up enough same none =
    keys_are more new (keys_of slots nodes ++ replicate (more - slots) None) enough
    (length-append (keys_of slots nodes) (replicate (more - slots) None) ∙ sum) each
  where
    short : slots ≤ length nodes
    short = tree_short before leaves slots nodes tree

    own : length (keys_of slots nodes) ≡ slots
    own = keys_len slots nodes short

    sum : length (keys_of slots nodes) + length (replicate {A = Option K} (more - slots) None) ≡ more
    sum = omega (arith, own, length-replicate {A = Option K} (more - slots) None)

    empty : (at : ℕ) → slots ≤ at → at < more → node new at ≡ None
    empty at past lt = elim (cases_lt at leaves) [
      | inl low ↦ same at lt low
          ∙ tree.free at past low
      | inr high ↦ none at lt high
    ]

    each : (at : ℕ) → at < more → key_of (node new at) ≡ get_or
        (keys_of slots nodes ++ replicate (more - slots) None) at None
    each at lt =
        elim (cases_lt at slots) [
          | inl low ↦ ap key_of (same at lt (omega (arith, tree.fits)))
              ∙ sym (get_or_append_left (keys_of slots nodes) (replicate (more - slots) None) None at
              (omega (arith, own)) ∙ key_here slots nodes at short low)
          | inr high ↦ ap key_of (empty at high lt)
              ∙ sym (get_or-append_right (keys_of slots nodes) (replicate (more - slots) None) slots at None
              own
              high ∙ none_in (more - slots) (at - slots))
        ]

pub more_keys : {K : Type 0} (before : K → K → Bool) (leaves slots more : ℕ)
    (nodes : List (Option (Entrant K))) → IsTree before leaves slots nodes → slots ≤ more → more ≤ leaves
    → keys_of more nodes ≡ keys_of slots nodes ++ replicate (more - slots) None
more_keys before leaves slots more nodes tree up fits =
    grown_keys before leaves slots more nodes nodes tree up (omega (arith, tree.board.len))
    (λ at lt low. refl) (λ at lt high. absurd (omega arith))

-- the leaves that stay, and empty nodes behind them
pub kept_leaf : {K : Type 0} (leaves n : ℕ) (nodes : List (Option (Entrant K))) → leaves ≤ length nodes
    → (at : ℕ) → at < leaves → node (take leaves nodes ++ replicate n None) at ≡ node nodes at
kept_leaf leaves n nodes short at lt =
    get_or_append_left (take leaves nodes) (replicate n None) None at
    (omega (arith, length-take-le leaves nodes short)) ∙ get_or-take leaves nodes at None lt

pub new_leaf : {K : Type 0} (leaves n : ℕ) (nodes : List (Option (Entrant K))) → leaves ≤ length nodes
    → (at : ℕ) → leaves ≤ at → node (take leaves nodes ++ replicate n None) at ≡ None
new_leaf leaves n nodes short at past = get_or-append_right (take leaves nodes)
    (replicate n None) leaves at None (length-take-le leaves nodes short) past ∙ none_in n (at - leaves)

-- more leaves than before, the matches between which were played
pub record IsWider {K : Type 0} (before : K → K → Bool) (leaves wider n : ℕ)
    (nodes new : List (Option (Entrant K))) : Type 0 where
  pub same : take wider new ≡ take wider (take leaves nodes ++ replicate n None)
  pub len : length new ≡ 2 * wider - 1
  pub up : leaves ≤ wider
  pub played : ArePlayed before wider new

pub wider_leaf : {K : Type 0} (before : K → K → Bool) (leaves slots wider n : ℕ)
    (nodes new : List (Option (Entrant K))) → IsTree before leaves slots nodes
    → IsWider before leaves wider n nodes new →
    (at : ℕ) → at < wider → at < leaves → node new at ≡ node nodes at
wider_leaf before leaves slots wider n nodes new tree w at lt low =
    leaf_same wider (take leaves nodes ++ replicate n None) new w.same at lt ∙ kept_leaf leaves n nodes
    (omega (arith, tree.board.len)) at low

pub wider_none : {K : Type 0} (before : K → K → Bool) (leaves slots wider n : ℕ)
    (nodes new : List (Option (Entrant K))) → IsTree before leaves slots nodes
    → IsWider before leaves wider n nodes new →
    (at : ℕ) → at < wider → leaves ≤ at → node new at ≡ None
wider_none before leaves slots wider n nodes new tree w at lt high =
    leaf_same wider (take leaves nodes ++ replicate n None) new w.same at lt ∙ new_leaf leaves n nodes
    (omega (arith, tree.board.len)) at high

pub wider_tree : {K : Type 0} (before : K → K → Bool) (leaves slots more wider n : ℕ)
    (nodes new : List (Option (Entrant K))) → IsTree before leaves slots nodes
    → IsWider before leaves wider n nodes new →
    slots ≤ more → more ≤ wider → wider ≤ 2 ^ 62 → IsPowerOfTwo wider → IsNoMore more wider
    → IsTree before wider more new
wider_tree {K} before leaves slots more wider n nodes new tree w up fits bound power least =
    record {
      board = record { len = w.len; own = own; played = w.played; bound = bound };
      fits = fits;
      free = free;
      power = λ some. power;
      least = least;
    }
  where
    own : (at : ℕ) (e : Entrant K) → at < wider → node new at ≡ Some e → e.slot ≡ at
    own at e lt is =
        elim (cases_lt at leaves) [
          | inl low ↦ tree.board.own at e low
              (sym (wider_leaf before leaves slots wider n nodes new tree w at lt low) ∙ is)
          | inr high ↦ let none : node new at ≡ None =
              wider_none before leaves slots wider n nodes new tree w at lt high in absurd cc
        ]

    free : (at : ℕ) → more ≤ at → at < wider → node new at ≡ None
    free at past lt =
        elim (cases_lt at leaves) [
          | inl low ↦ wider_leaf before leaves slots wider n nodes new tree w at lt low
              ∙ tree.free at (omega arith) low
          | inr high ↦ wider_none before leaves slots wider n nodes new tree w at lt high
        ]

pub wider_keys : {K : Type 0} (before : K → K → Bool) (leaves slots more wider n : ℕ)
    (nodes new : List (Option (Entrant K))) → IsTree before leaves slots nodes
    → IsWider before leaves wider n nodes new →
    slots ≤ more → more ≤ wider → keys_of more new ≡ keys_of slots nodes ++ replicate (more - slots) None
wider_keys before leaves slots more wider n nodes new tree w up fits =
    grown_keys before leaves slots more nodes new tree up (omega (arith, w.len))
    (λ at lt low. wider_leaf before leaves slots wider n nodes new tree w at (omega arith) low)
    (λ at lt high. wider_none before leaves slots wider n nodes new tree w at (omega arith) high)

-- the least power of two
pub no_more : (slots leaves : ℕ) → IsPowerOfTwo leaves → leaves / 2 < max 1 slots → IsNoMore slots leaves
no_more slots leaves power half h enough = by power.0 power.1
  where
    by : (k : ℕ) → leaves ≡ 2 ^ k → leaves ≤ 2 ^ h
    by zero is = let one : 2 ^ zero ≤ 2 ^ h = pow_mono {i = zero} {j = h} (omega arith)
        in subst (λ n. n ≤ 2 ^ h) (sym is) one
    by (suc k) is =
        let double : 2 ^ suc k ≡ 2 ^ k * 2 = pow-suc 2 k in
        let some : 0 < 2 ^ h = pow_pos h in
        let below : 2 ^ k < 2 ^ h = omega arith in
        elim (cases_lt k h) [
          | inl lt ↦ let most : 2 ^ suc k ≤ 2 ^ h = pow_mono {i = suc k} {j = h} (omega arith)
              in subst (λ n. n ≤ 2 ^ h) (sym is) most
          | inr ge ↦ let most : 2 ^ h ≤ 2 ^ k = pow_mono {i = h} {j = k} ge in absurd (omega arith)
        ]

-- a slot's key is that at its leaf
pub key_at_leaf : {K : Type 0} (before : K → K → Bool) (leaves slots : ℕ) (nodes : List (Option (Entrant K)))
    → IsTree before leaves slots nodes → (slot : ℕ) (key : K)
    → get_or (keys_of slots nodes) slot None ≡ Some key →
    (slot < slots) × ((e : Entrant K) × (node nodes slot ≡ Some e) × (e.key ≡ key))
key_at_leaf {K} before leaves slots nodes tree slot key is =
    elim (cases_lt slot slots) [
      | inl lt ↦ (
        lt,
        at_leaf (node nodes slot) refl
            (sym (key_here slots nodes slot (tree_short before leaves slots nodes tree) lt) ∙ is),
      )
      | inr past ↦ let none : get_or (keys_of slots nodes) slot None ≡ None = key_past slots nodes slot past
          in absurd cc
    ]
  where
    at_leaf : (v : Option (Entrant K)) → node nodes slot ≡ v → key_of v ≡ Some key → (e : Entrant K)
        × (node nodes slot ≡ Some e) × (e.key ≡ key)
    at_leaf None there k = absurd cc
    at_leaf (Some e) there k = let same : e.key ≡ key = cc in (e, there, same)

-- who wins at the root has the least key
pub root_least : {K : Type 0} (before : K → K → Bool) → Order before
    → (leaves slots : ℕ) (nodes : List (Option (Entrant K))) → IsTree before leaves slots nodes
    → (e : Entrant K) → node nodes (2 * leaves - 2) ≡ Some e → IsLeast before (keys_of slots nodes) e.slot
root_least {K} before order leaves slots nodes tree e is =
    record { key = e.key; is = here; none_before = none_before }
  where
    at_leaf : IsHeld leaves nodes e
    at_leaf = held before leaves nodes tree.board (2 * leaves - 2 + 1) (2 * leaves - 2) (omega arith) e is

    within : e.slot < slots
    within = elim (cases_lt e.slot slots) [
      | inl lt ↦ lt
      | inr past ↦ let none : node nodes e.slot
          ≡ None = tree.free e.slot past at_leaf.0 in let there : node nodes e.slot ≡ Some e = at_leaf.1
          in absurd cc
    ]

    here : get_or (keys_of slots nodes) e.slot None ≡ Some e.key
    here = key_here slots nodes e.slot (tree_short before leaves slots nodes tree) within
        ∙ ap key_of at_leaf.1

    none_before : (other : ℕ) (key : K) → get_or (keys_of slots nodes) other None ≡ Some key
        → before key e.key ≡ false
    none_before other key there =
        let leaf = key_at_leaf before leaves slots nodes tree other key there in
        let behind : IsBehind before (node nodes other) (node nodes (2 * leaves - 2)) =
        root_behind before order leaves nodes tree.board.played (2 * leaves) other
        (omega (arith, leaf.0, tree.fits)) (omega arith) in
        let seen : IsBehind before (Some leaf.1.0) (Some e) =
        subst (λ v. IsBehind before v (Some e)) leaf.1.1
        (subst (λ v. IsBehind before (node nodes other) v) is behind) in
        subst (λ k. before k e.key ≡ false) leaf.1.2 seen

-- and where nobody wins no slot has a key
pub root_none : {K : Type 0} (before : K → K → Bool) → Order before
    → (leaves slots : ℕ) (nodes : List (Option (Entrant K))) → IsTree before leaves slots nodes
    → node nodes (2 * leaves - 2) ≡ None → HasNone (keys_of slots nodes)
root_none {K} before order leaves slots nodes tree is slot =
    split (get_or (keys_of slots nodes) slot None) refl
  where
    split : (k : Option K) → get_or (keys_of slots nodes) slot None ≡ k
        → get_or (keys_of slots nodes) slot None ≡ None
    split None there = there
    split (Some key) there =
        let leaf = key_at_leaf before leaves slots nodes tree slot key there in
        let behind : IsBehind before (node nodes slot) (node nodes (2 * leaves - 2)) =
        root_behind before order leaves nodes tree.board.played (2 * leaves) slot
        (omega (arith, leaf.0, tree.fits)) (omega arith) in
        absurd (subst (λ v. IsBehind before v None) leaf.1.1
        (subst (λ v. IsBehind before (node nodes slot) v) is behind))

-- two slots with the least key are one
pub least_same : {K : Type 0} (before : K → K → Bool)
    → ((a b : K) → before a b ≡ false → before b a ≡ false → a ≡ b) → (keys : List (Option K)) (a b : ℕ)
    → Differ keys → IsLeast before keys a → IsLeast before keys b → a ≡ b
least_same before apart keys a b differ one other =
    let same : one.key ≡ other.key = apart one.key other.key (other.none_before a one.key one.is)
    (one.none_before b other.key other.is) in
    differ a b one.key one.is (other.is ∙ ap (λ k. Some k) (sym same))

-- more leaves, once the matches are played
pub wider_done : {K : Type 0} (before : K → K → Bool) (slots more wider n : ℕ)
    (nodes extended new : List (Option (Entrant K))) → IsTree before (leaves_of nodes) slots nodes
    → slots ≤ more → leaves_of nodes < more → more ≤ wider → wider ≤ 2 ^ 62 → IsPowerOfTwo wider
    → IsNoMore more wider →
    extended ≡ take (leaves_of nodes) nodes ++ replicate n None → length extended ≡ 2 * wider - 1
    → length new ≡ length extended → take wider new ≡ take wider extended → ArePlayed before wider new →
    IsTree before (leaves_of new) more new
    × (keys_of more new ≡ keys_of slots nodes ++ replicate (more - slots) None)
wider_done {K} before slots more wider n nodes extended new tree up high fits bound power least kept whole
    len
    same played = (
      tree_of before wider more new
          (wider_tree before (leaves_of nodes) slots more wider n nodes new tree is up fits bound power
          least),
      wider_keys before (leaves_of nodes) slots more wider n nodes new tree is up fits,
    )
  where
    is : IsWider before (leaves_of nodes) wider n nodes new
    is = record {
      same = same ∙ ap (λ l. take wider l) kept;
      len = len ∙ whole;
      up = omega arith;
      played = played;
    }

-- the nodes that are kept, and empty ones up to a length
pub extended_len : {K : Type 0} (leaves m : ℕ) (nodes extended : List (Option (Entrant K)))
    → leaves ≤ length nodes → leaves ≤ m → extended ≡ take leaves nodes ++ replicate (m - leaves) None
    → length extended ≡ m
extended_len {K} leaves m nodes extended short up kept =
    let first : length (take leaves nodes) ≡ leaves = length-take-le leaves nodes short in
    let rest : length (replicate {A = Option (Entrant K)} (m - leaves) None) ≡ m - leaves =
    length-replicate (m - leaves) None in
    let sum : length (take leaves nodes) + length (replicate {A = Option (Entrant K)} (m - leaves) None)
    ≡ m =
    omega arith in
    ap (λ l. length l) kept ∙ length-append (take leaves nodes) (replicate (m - leaves) None) ∙ sum

-- the keys of more slots, by the list that was seen before
pub grown : {K : Type 0} (slots more : ℕ) (nodes new : List (Option (Entrant K))) (old : List (Option K))
    → slots ≤ length nodes → keys_of slots nodes ≡ old → keys_of more new ≡ keys_of slots nodes ++ replicate
    (more - slots) None → keys_of more new ≡ old ++ replicate (more - length old) None
grown {K} slots more nodes new old short seen is =
    let own : length old ≡ slots = ap (λ l. length l) (sym seen) ∙ keys_len slots nodes short in
    is ∙ ap (λ l. l ++ replicate {A = Option K} (more - slots) None) seen
    ∙ ap (λ n. old ++ replicate {A = Option K} (more - n) None) (sym own)
