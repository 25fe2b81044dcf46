-- Who goes first of two, by the laws of an order.
use Rattle.std.proofs.Common.{◌≡◌, ◌≢◌, ℕ, Bool, true, false, cond, not, ◌⊎◌, List, Option, Some, None}
use Rattle.std.proofs.Common.{refl, sym, ap, ◌∙◌, inl, inr}
use Rattle.std.specs.Prelude.{◌==◌}
use Rattle.std.proofs.lemmas.Bool.{false≢true, and_parts, not-true, eqb-true, eqb-false}
use Rattle.row_index.specs.declared.entrant.Entrant.{Entrant}
use Rattle.row_index.specs.Matches.{node, entered, key_of, keeps, first_of}

-- the laws of an order that the proofs of a tree need
pub record Order {K : Type 0} (before : K → K → Bool) : Type 0 where
  pub one_way : (a b : K) → before a b ≡ true → before b a ≡ false
  pub through : (a b c : K) → before b a ≡ false → before c b ≡ false → before c a ≡ false

-- no key goes before itself
pub not_itself : {K : Type 0} (before : K → K → Bool) → Order before → (key : K) → before key key ≡ false
not_itself before order key = split (before key key) refl
  where
    split : (b : Bool) → before key key ≡ b → before key key ≡ false
    split true is = order.one_way key key is
    split false is = is

-- where the first is anybody, the second is too, and the first does not go before it
abbrev pub IsBehind : {K : Type 0} → (K → K → Bool) → Option (Entrant K) → Option (Entrant K) → Type 0
IsBehind before None v = Unit {0}
IsBehind before (Some u) None = ⊥
IsBehind before (Some u) (Some v) = before u.key v.key ≡ false

pub behind_same : {K : Type 0} (before : K → K → Bool) → Order before → (v : Option (Entrant K))
    → IsBehind before v v
behind_same before order None = tt
behind_same before order (Some v) = not_itself before order v.key

pub behind_through : {K : Type 0} (before : K → K → Bool) → Order before → (u v w : Option (Entrant K))
    → IsBehind before u v → IsBehind before v w → IsBehind before u w
behind_through before order None v w p q = tt
behind_through before order (Some u) None w p q = absurd p
behind_through before order (Some u) (Some v) None p q = absurd q
behind_through before order (Some u) (Some v) (Some w) p q = order.through w.key v.key u.key q p

-- neither of two goes before the winner
pub behind_left : {K : Type 0} (before : K → K → Bool) → Order before → (left right : Option (Entrant K))
    → IsBehind before left (first_of before left right)
behind_left before order None right = tt
behind_left before order (Some one) None = not_itself before order one.key
behind_left before order (Some one) (Some other) = split (before other.key one.key) refl
  where
    split : (b : Bool) → before other.key one.key ≡ b
        → IsBehind before (Some one) (cond b (Some other) (Some one))
    split true is = order.one_way other.key one.key is
    split false is = not_itself before order one.key

pub behind_right : {K : Type 0} (before : K → K → Bool) → Order before → (left right : Option (Entrant K))
    → IsBehind before right (first_of before left right)
behind_right before order None right = behind_same before order right
behind_right before order (Some one) None = tt
behind_right before order (Some one) (Some other) = split (before other.key one.key) refl
  where
    split : (b : Bool) → before other.key one.key ≡ b
        → IsBehind before (Some other) (cond b (Some other) (Some one))
    split true is = not_itself before order other.key
    split false is = is

-- the winner is one of the two
pub one_of : {K : Type 0} (before : K → K → Bool) (left right : Option (Entrant K))
    → (first_of before left right ≡ left) ⊎ (first_of before left right ≡ right)
one_of before None right = inr refl
one_of before (Some one) None = inl refl
one_of {K} before (Some one) (Some other) = split (before other.key one.key)
  where
    split : (b : Bool) → (cond {A = Option (Entrant K)} b (Some other) (Some one) ≡ Some one)
        ⊎ (cond {A = Option (Entrant K)} b (Some other) (Some one) ≡ Some other)
    split true = inr refl
    split false = inl refl

-- what enters has the slot, and the key
pub entered_slot : {K : Type 0} (slot : ℕ) (key : Option K) (e : Entrant K) → entered slot key ≡ Some e
    → e.slot ≡ slot
entered_slot slot None e is = absurd cc
entered_slot {K} slot (Some key) e is =
    let it : Entrant K = record { key = key; slot = slot } in
    let same : it ≡ e = cc in
    sym (ap (λ (x : Entrant K). x.slot) same)

pub entered_key : {K : Type 0} (slot : ℕ) (key : Option K) → key_of (entered slot key) ≡ key
entered_key slot None = refl
entered_key slot (Some key) = refl

-- a match that ended as before has the same winner, where those of other slots stand at their leaves
pub same_winner : {K : Type 0} (nodes : List (Option (Entrant K))) (slot : ℕ) (old new : Option (Entrant K))
    → keeps slot old new ≡ true →
    ((e : Entrant K) → old ≡ Some e → e.slot ≢ slot → node nodes e.slot ≡ Some e)
    → ((e : Entrant K) → new ≡ Some e → e.slot ≢ slot → node nodes e.slot ≡ Some e) → old ≡ new
same_winner nodes slot None None is old_held new_held = refl
same_winner nodes slot None (Some new) is old_held new_held = absurd (false≢true is)
same_winner nodes slot (Some old) None is old_held new_held = absurd (false≢true is)
same_winner nodes slot (Some old) (Some new) is old_held new_held =
    let parts = and_parts (old.slot == new.slot) (not (new.slot == slot)) is in
    let same : old.slot ≡ new.slot = eqb-true old.slot new.slot parts.0 in
    let other : new.slot ≢ slot = eqb-false new.slot slot (not-true (new.slot == slot) parts.1) in
    sym (old_held old refl (λ e. other (sym same ∙ e))) ∙ ap (λ s. node nodes s) same
    ∙ new_held new refl other
