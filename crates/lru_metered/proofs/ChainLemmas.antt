-- Cuts of a chain: what is left where one node is taken out, and where one is put at the end.
use Rattle.std.proofs.Common.{◌≡◌, ◌≢◌, ℕ, zero, suc, ◌+◌, ◌<◌, ◌≤◌, inl, inr, true, false, cond, List, []}
use Rattle.std.proofs.Common.{◌∷◌, ◌++◌, length, Option, Some, None, is_some, refl, sym, ap, ◌∙◌, subst}
use Rattle.std.proofs.Common.{true≢false, unwrap_or, arith, get_or, set, count_by, Contains, append-nil, map}
use Rattle.std.proofs.Common.{IfSome, slice_get}
use Rattle.std.specs.Option.{option_map, option_map_or}
use Rattle.std.proofs.lemmas.Bool.{cases_eq, eq-eqb, ne_eqb}
use Rattle.std.proofs.lemmas.List.{get_or-set_same, get_or-set_other}
use Rattle.std.proofs.lemmas.List.Sums.{sum_by-set, sum_by-cons, count_by-le-length}
use Rattle.slab.specs.Slab.{Slab, get, with_value, Updates}
use Rattle.std.proofs.Math.Seq.{map-set_same}
use Rattle.slab.proofs.SlabLemmas.{Contains-cons, Contains-cons_cases, ContainsKey-within}
use Rattle.lru_metered.specs.declared.chain.Node.{Node}
use Rattle.lru_metered.specs.Chain.{Ends, walk, first_or, last_or, Linked, Avoids, Apart, IsChain, Changes}
use Rattle.lru_metered.specs.Chain.{with_ends, with_previous, with_next, without, links, items_of, ends_of}
use Rattle.lru_metered.specs.Chain.{item_of}

pub some≢none : {X : Type 0} (x : X) → Some x ≢ None
some≢none x is = true≢false (ap is_some is)

pub some-inj : {X : Type 0} (x y : X) → Some x ≡ Some y → x ≡ y
some-inj x y is = ap (λ o. unwrap_or o x) is

-- the ends of two lists in a row
pub first-append : (xs ys : List ℕ) (after : Option ℕ) → first_or (xs ++ ys) after ≡ first_or xs
    (first_or ys after)
first-append [] ys after = refl
first-append (x ∷ xs) ys after = refl

pub last-append : (xs ys : List ℕ) (before : Option ℕ) → last_or before (xs ++ ys) ≡ last_or
    (last_or before xs) ys
last-append [] ys before = refl
last-append (x ∷ xs) ys before = last-append xs ys (Some x)

-- the last of some keys is a key
pub last-some : (xs : List ℕ) (x : ℕ) → is_some (last_or (Some x) xs) ≡ true
last-some [] x = refl
last-some (y ∷ ys) x = last-some ys y

-- each key of the first list is none of the second
abbrev pub Across : List ℕ → List ℕ → Type 0
Across [] ys = Unit {0}
Across (x ∷ xs) ys = Avoids (Some x) ys × Across xs ys

pub avoids-none : (xs : List ℕ) → Avoids None xs
avoids-none [] = tt
avoids-none (x ∷ xs) = ((λ is. some≢none x (sym is)), avoids-none xs)

pub avoids-left : (key : Option ℕ) (xs ys : List ℕ) → Avoids key (xs ++ ys) → Avoids key xs
avoids-left key [] ys h = tt
avoids-left key (x ∷ xs) ys h = (h.0, avoids-left key xs ys h.1)

pub avoids-right : (key : Option ℕ) (xs ys : List ℕ) → Avoids key (xs ++ ys) → Avoids key ys
avoids-right key [] ys h = h
avoids-right key (x ∷ xs) ys h = avoids-right key xs ys h.1

pub avoids-append : (key : Option ℕ) (xs ys : List ℕ) → Avoids key xs → Avoids key ys → Avoids key (xs ++ ys)
avoids-append key [] ys h k = k
avoids-append key (x ∷ xs) ys h k = (h.0, avoids-append key xs ys h.1 k)

pub apart-left : (xs ys : List ℕ) → Apart (xs ++ ys) → Apart xs
apart-left [] ys h = tt
apart-left (x ∷ xs) ys h = (avoids-left (Some x) xs ys h.0, apart-left xs ys h.1)

pub apart-right : (xs ys : List ℕ) → Apart (xs ++ ys) → Apart ys
apart-right [] ys h = h
apart-right (x ∷ xs) ys h = apart-right xs ys h.1

pub apart-across : (xs ys : List ℕ) → Apart (xs ++ ys) → Across xs ys
apart-across [] ys h = tt
apart-across (x ∷ xs) ys h = (avoids-right (Some x) xs ys h.0, apart-across xs ys h.1)

pub apart-append : (xs ys : List ℕ) → Apart xs → Apart ys → Across xs ys → Apart (xs ++ ys)
apart-append [] ys h k c = k
apart-append (x ∷ xs) ys h k c = (avoids-append (Some x) xs ys h.0 c.0, apart-append xs ys h.1 k c.1)

-- keys that a key was between
pub across-without : (xs : List ℕ) (x : ℕ) (ys : List ℕ) → Across xs (x ∷ ys) → Across xs ys
across-without [] x ys c = tt
across-without (z ∷ zs) x ys c = (c.0.1, across-without zs x ys c.1)

pub avoids-across : (xs : List ℕ) (x : ℕ) (ys : List ℕ) → Across xs (x ∷ ys) → Avoids (Some x) xs
avoids-across [] x ys c = tt
avoids-across (z ∷ zs) x ys c = ((λ is. c.0.0 (sym is)), avoids-across zs x ys c.1)

pub across-one : (xs : List ℕ) (x : ℕ) → Avoids (Some x) xs → Across xs (x ∷ [])
across-one [] x h = tt
across-one (z ∷ zs) x h = (((λ is. h.0 (sym is)), tt), across-one zs x h.1)

-- the last of the first list is none of the second, and the first of the second is none of the first
pub across-last : (before : Option ℕ) (xs ys : List ℕ) → Avoids before ys → Across xs ys
    → Avoids (last_or before xs) ys
across-last before [] ys h c = h
across-last before (x ∷ xs) ys h c = across-last (Some x) xs ys c.0 c.1

pub across-first : (xs ys : List ℕ) → Across xs ys → Avoids (first_or ys None) xs
across-first xs [] c = avoids-none xs
across-first xs (y ∷ ys) c = avoids-across xs y ys c

pub last-avoids : (x y : ℕ) (ys : List ℕ) → Avoids (Some x) (y ∷ ys) → last_or (Some y) ys ≢ Some x
last-avoids x y [] h is = h.0 (sym is)
last-avoids x y (z ∷ zs) h is = last-avoids x z zs h.1 is

module _ (at new : ℕ → Option Ends) (key : Option ℕ) (change : Ends → Ends)
    (changes : Changes at new key change) where
  -- links of other keys stay
  pub linked-kept : (before : Option ℕ) (xs : List ℕ) (after : Option ℕ) → Avoids key xs
      → Linked at before xs after → Linked new before xs after
  linked-kept before [] after h k = tt
  linked-kept before (x ∷ xs) after h k = (changes.others x h.0 ∙ k.0, linked-kept (Some x) xs after h.1 k.1)

-- the last of the keys is given another one behind it
pub linked-next : (at new : ℕ → Option Ends) (before : Option ℕ) (xs : List ℕ) (after next : Option ℕ)
    → Changes at new (last_or None xs) (with_next next) → Apart xs → Linked at before xs after
    → Linked new before xs next
linked-next at new before [] after next changes h k = tt
linked-next at new before (x ∷ []) after next changes h k =
    (changes.there x refl ∙ ap (option_map (with_next next)) k.0, tt)
linked-next at new before (x ∷ y ∷ ys) after next changes h k = (
  changes.others x (last-avoids x y ys h.0) ∙ k.0,
  linked-next at new (Some x)
      (y ∷ ys) after next changes h.1 k.1,
)

-- the first of the keys is given another one before it
pub linked-previous : (at new : ℕ → Option Ends) (before : Option ℕ) (xs : List ℕ) (after previous : Option ℕ)
    → Changes at new (first_or xs None) (with_previous previous) → Apart xs → Linked at before xs after
    → Linked new previous xs after
linked-previous at new before [] after previous changes h k = tt
linked-previous at new before (x ∷ xs) after previous changes h k = (
  changes.there x refl ∙ ap (option_map (with_previous previous)) k.0,
  linked-kept at new (Some x)
      (with_previous previous) changes (Some x) xs after h.0 k.1,
)

-- a list is linked where its two parts are
pub linked-left : (at : ℕ → Option Ends) (before : Option ℕ) (xs ys : List ℕ) (after : Option ℕ)
    → Linked at before (xs ++ ys) after → Linked at before xs (first_or ys after)
linked-left at before [] ys after k = tt
linked-left at before (x ∷ xs) ys after k =
    (k.0 ∙ ap (λ n. Some (before, n)) (first-append xs ys after), linked-left at (Some x) xs ys after k.1)

pub linked-right : (at : ℕ → Option Ends) (before : Option ℕ) (xs ys : List ℕ) (after : Option ℕ)
    → Linked at before (xs ++ ys) after → Linked at (last_or before xs) ys after
linked-right at before [] ys after k = k
linked-right at before (x ∷ xs) ys after k = linked-right at (Some x) xs ys after k.1

pub linked-append : (at : ℕ → Option Ends) (before : Option ℕ) (xs ys : List ℕ) (after : Option ℕ)
    → Linked at before xs (first_or ys after) → Linked at (last_or before xs) ys after
    → Linked at before (xs ++ ys) after
linked-append at before [] ys after h k = k
linked-append at before (x ∷ xs) ys after h k = (
  h.0 ∙ ap (λ n. Some (before, n)) (sym (first-append xs ys after)),
  linked-append at (Some x) xs ys after h.1 k,
)

-- the two parts of a list, once each end names the other
pub linked-joined : (at mid new : ℕ → Option Ends) (front back : List ℕ) (after before : Option ℕ)
    → Changes at mid (last_or None front) (with_next (first_or back None))
    → Changes mid new (first_or back None) (with_previous (last_or None front))
    → Apart front → Apart back → Across front back
    → Linked at None front after → Linked at before back None
    → Linked new None (front ++ back) None
linked-joined at mid new front back after before one two h k c left right =
    let next = first_or back None in let previous = last_or None front in
    let left-mid = linked-next at mid None front after next one h left in
    let right-mid = linked-kept at mid previous (with_next next) one before back None
    (across-last None front back (avoids-none back) c) right in
    linked-append new None front back None
    (linked-kept mid new next (with_previous previous) two None front next
    (across-first front back c) left-mid)
    (linked-previous mid new before back None previous two k right-mid)

-- one more key at the end
pub linked-pushed : (at new : ℕ → Option Ends) (order : List ℕ) (key : ℕ)
    → at key ≡ Some (last_or None order, None)
    → Changes at new (last_or None order) (with_next (Some key))
    → Apart order → Avoids (Some key) order
    → Linked at None order None
    → Linked new None (order ++ key ∷ []) None
linked-pushed at new order key is one h k left =
    linked-append new None order (key ∷ []) None
    (linked-next at new None order None (Some key) one h left) (
      one.others key (across-last None order (key ∷ []) (avoids-none (key ∷ [])) (across-one order key k)).0
          ∙ is,
      tt,
    )

-- a key is where the list is cut
pub record Cut (order : List ℕ) (key : ℕ) : Type 0 where
  pub front : List ℕ
  pub back : List ℕ
  pub whole : order ≡ front ++ key ∷ back

pub cut : (order : List ℕ) (key : ℕ) → Contains order key → Cut order key
cut [] key has = absurd (omega (arith, has.1))
cut (x ∷ xs) key has = elim (Contains-cons_cases x key xs has) [
  | inl is ↦ record { front = []; back = xs; whole = ap (λ k. k ∷ xs) is }
  | inr more ↦ let rest = cut xs key more in record {
    front = x ∷ rest.front;
    back = rest.back;
    whole = ap (λ l. x ∷ l) rest.whole;
  }
]

pub without-cut : (front : List ℕ) (key : ℕ) (back : List ℕ) → Avoids (Some key) front
    → without key (front ++ key ∷ back) ≡ front ++ back
without-cut [] key back h = ap (λ b. cond b back (key ∷ without key back)) (eq-eqb key key refl)
without-cut (x ∷ xs) key back h =
    ap (λ b. cond b (xs ++ key ∷ back) (x ∷ without key (xs ++ key ∷ back)))
    (ne_eqb x key (λ is. h.0 (ap (λ n. Some n) (sym is)))) ∙ ap (λ l. x ∷ l) (without-cut xs key back h.1)

-- each key has a slot with a value
abbrev pub Held : {X : Type 0} → List (Option X) → List ℕ → Type 0
Held slots [] = Unit {0}
Held slots (x ∷ xs) = (is_some (get_or slots x None) ≡ true) × Held slots xs

pub held-kept : {X : Type 0} (slots : List (Option X)) (x : ℕ) (xs : List ℕ) → Avoids (Some x) xs
    → Held slots xs → Held (set slots x None) xs
held-kept slots x [] h k = tt
held-kept slots x (y ∷ ys) h k = (
  ap is_some (get_or-set_other slots x y None None (λ is. h.0 (ap (λ n. Some n) (sym is)))) ∙ k.0,
  held-kept slots x ys h.1 k.1,
)

pub held-linked : {X : Type 0} (slots : List (Option X)) (at : ℕ → Option Ends)
    → ((x : ℕ) → is_some (at x) ≡ true → is_some (get_or slots x None) ≡ true)
    → (before : Option ℕ) (xs : List ℕ) (after : Option ℕ) → Linked at before xs after → Held slots xs
held-linked slots at has before [] after k = tt
held-linked slots at has before (x ∷ xs) after k =
    (has x (ap is_some k.0), held-linked slots at has (Some x) xs after k.1)

-- no more keys than values
pub length-held : {X : Type 0} (slots : List (Option X)) (order : List ℕ) → Apart order → Held slots order
    → length order ≤ count_by is_some slots
length-held slots [] h k = omega arith
length-held {X} slots (x ∷ xs) h k =
    let within : x < length slots =
    ContainsKey-within (record { slots = slots; vacant_key = 0; capacity = 0 }) x k.0 in
    let fewer = sum_by-set (λ (o : Option X). cond (is_some o) 1 0) slots x None None within in
    let one : ◌≡◌ {A = ℕ} (cond (is_some (get_or slots x None)) 1 0) 1 = ap (λ b. cond b 1 0) k.0 in
    let rest = length-held (set slots x None) xs h.1 (held-kept slots x xs h.0 k.1) in
    let more : length (x ∷ xs) ≡ length xs + 1 = omega arith in
    omega (arith, rest, fewer, one, more)

-- the walk from the first key gives the list
pub walk-is : (at : ℕ → Option Ends) (before : Option ℕ) (order : List ℕ) (more : ℕ) → length order ≤ more
    → Linked at before order None → walk at more (first_or order None) ≡ order
walk-is at before [] zero enough k = refl
walk-is at before [] (suc more) enough k = refl
walk-is at before (x ∷ xs) zero enough k = absurd (omega (arith, enough))
walk-is at before (x ∷ xs) (suc more) enough k =
    ap (λ e. x ∷ walk at more (option_map_or (λ (p : Ends). p.1) e None)) k.0
    ∙ ap (λ l. x ∷ l) (walk-is at (Some x) xs more (omega (arith, enough)) k.1)

-- a node's links, and its slot
pub links-some : {T : Type 0} (o : Option (Node T)) → is_some (option_map ends_of o) ≡ is_some o
links-some None = refl
links-some (Some n) = refl

-- the view of a chain is its order
pub order-walked : {T : Type 0} (s : Slab (Node T)) (first last : Option ℕ) (order : List ℕ)
    → IsChain (links s) first last order → walk (links s) (length s.slots) first ≡ order
order-walked s first last order chain =
    let held = held-linked s.slots (links s) (λ x is. sym (links-some (get_or s.slots x None)) ∙ is) None
    order None chain.linked in
    let enough : length order ≤ length s.slots = omega (
      arith,
      length-held s.slots order chain.apart held,
      count_by-le-length is_some s.slots,
    ) in
    ap (walk (links s) (length s.slots)) chain.starts ∙ walk-is (links s) None order
    (length s.slots) enough chain.linked

-- a node that is written anew
module _ {T : Type 0} where
  pub get-items : (slots : List (Option (Node T))) (key : ℕ)
      → get_or (map (option_map item_of) slots) key None ≡ option_map item_of (get_or slots key None)
  get-items [] key = refl
  get-items (x ∷ xs) zero = refl
  get-items (x ∷ xs) (suc key) = get-items xs key

  pub written : (s : Slab (Node T)) (key : ℕ) (n m : Node T) (change : Ends → Ends) → get s key ≡ Some n
      → m.item ≡ n.item → ends_of m ≡ change (ends_of n)
      → Changes (links s) (links (with_value s key m)) (Some key) change
      × (items_of (with_value s key m) ≡ items_of s)
  written s key n m change found item ends =
      let within : key < length s.slots = ContainsKey-within s key (ap is_some found) in
      let now : get (with_value s key m) key ≡ Some m = get_or-set_same s.slots key (Some m) None within in
      let here : links (with_value s key m) key ≡ option_map change (links s key) =
      ap (option_map ends_of) now
      ∙ (ap (λ e. Some e) ends ∙ sym (ap (λ o. option_map change (option_map ends_of o)) found)) in
      let same : option_map item_of (Some m) ≡ option_map item_of (get_or s.slots key None) =
      ap (λ i. Some i) item ∙ sym (ap (option_map item_of) found) in (
        record {
          there = λ x is. subst (λ y. links (with_value s key m) y ≡ option_map change (links s y))
              (some-inj key x is) here;
          others = λ x differs. ap (option_map ends_of)
              (get_or-set_other s.slots key x (Some m) None (λ is. differs (ap (λ k. Some k) (sym is))));
        },
        ap (λ slots. record { slots = slots; vacant_key = s.vacant_key; capacity = s.capacity })
            (map-set_same (option_map item_of) s.slots key (Some m) None same),
      )

-- no key, and nothing changes
pub none-changes : (at : ℕ → Option Ends) (change : Ends → Ends) → Changes at at None change
none-changes at change = record { there = λ x is. absurd (some≢none x (sym is)); others = λ x differs. refl }

some-mapped : (change : Ends → Ends) (o : Option Ends) → is_some (option_map change o) ≡ is_some o
some-mapped change None = refl
some-mapped change (Some e) = refl

-- a node that is there stays there
pub still : (at new : ℕ → Option Ends) (key : Option ℕ) (change : Ends → Ends) → Changes at new key change
    → (x : ℕ) → is_some (at x) ≡ true → is_some (new x) ≡ true
still at new None change changes x is = ap is_some (changes.others x (λ e. some≢none x (sym e))) ∙ is
still at new (Some k) change changes x is = elim (cases_eq k x) [
  | inl same ↦ ap is_some (changes.there x (ap (λ n. Some n) same)) ∙ (some-mapped change (at x) ∙ is)
  | inr differs ↦ ap is_some (changes.others x (λ e. differs (some-inj k x e))) ∙ is
]

pub still-if : (at new : ℕ → Option Ends) (key : Option ℕ) (change : Ends → Ends) → Changes at new key change
    → (o : Option ℕ) → IfSome o (λ x. is_some (at x) ≡ true) → IfSome o (λ x. is_some (new x) ≡ true)
still-if at new key change changes None is = tt
still-if at new key change changes (Some x) is = still at new key change changes x is

-- the ends of linked keys have nodes
pub last-held : (at : ℕ → Option Ends) (before : Option ℕ) (xs : List ℕ) (after : Option ℕ)
    → Linked at before xs after → IfSome (last_or None xs) (λ x. is_some (at x) ≡ true)
last-held at before [] after k = tt
last-held at before (x ∷ []) after k = ap is_some k.0
last-held at before (x ∷ y ∷ ys) after k = last-held at (Some x) (y ∷ ys) after k.1

pub first-held : (at : ℕ → Option Ends) (before : Option ℕ) (xs : List ℕ) (after : Option ℕ)
    → Linked at before xs after → IfSome (first_or xs None) (λ x. is_some (at x) ≡ true)
first-held at before [] after k = tt
first-held at before (x ∷ xs) after k = ap is_some k.0

-- the ends of what is left
abbrev pub outer_end : Option ℕ → Option ℕ → Option ℕ → Option ℕ
outer_end end without within = cond (is_some without) end within

first-left : (front : List ℕ) (key : ℕ) (back : List ℕ) → outer_end (first_or (front ++ key ∷ back) None)
    (last_or None front) (first_or back None) ≡ first_or (front ++ back) None
first-left [] key back = refl
first-left (x ∷ xs) key back = ap (λ b. cond b (Some x) (first_or back None)) (last-some xs x)

last-left : (front : List ℕ) (key : ℕ) (back : List ℕ) → outer_end (last_or None (front ++ key ∷ back))
    (first_or back None) (last_or None front) ≡ last_or None (front ++ back)
last-left front key [] = ap (last_or None) (sym (append-nil front))
last-left front key (y ∷ ys) = last-append front (key ∷ y ∷ ys) None ∙ sym (last-append front (y ∷ ys) None)

first-more : (front : List ℕ) (y : ℕ) (ys : List ℕ) (k : ℕ)
    → first_or ((front ++ y ∷ ys) ++ k ∷ []) None ≡ first_or (front ++ y ∷ ys) None
first-more [] y ys k = refl
first-more (x ∷ xs) y ys k = refl

-- a chain that is cut at a key
pub record CutAt (at : ℕ → Option Ends) (first last : Option ℕ) (order : List ℕ) (key : ℕ) : Type 0 where
  pub front : List ℕ
  pub back : List ℕ
  pub whole : order ≡ front ++ key ∷ back
  pub ends : at key ≡ Some (last_or None front, first_or back None)
  pub left : Linked at None front (Some key)
  pub right : Linked at (Some key) back None
  pub apart-front : Apart front
  pub apart-back : Apart back
  pub across : Across front back
  pub not-front : Avoids (Some key) front
  pub not-back : Avoids (Some key) back
  pub first-is : outer_end first (last_or None front) (first_or back None) ≡ first_or (front ++ back) None
  pub last-is : outer_end last (first_or back None) (last_or None front) ≡ last_or None (front ++ back)
  pub last-was : last ≡ last_or (Some key) back

pub cut-at : (at : ℕ → Option Ends) (first last : Option ℕ) (order : List ℕ) (key : ℕ)
    → IsChain at first last order → Contains order key → CutAt at first last order key
cut-at at first last order key chain has =
    let c = cut order key has in
    let linked : Linked at None (c.front ++ key ∷ c.back) None =
    subst (λ l. Linked at None l None) c.whole chain.linked in
    let apart : Apart (c.front ++ key ∷ c.back) = subst Apart c.whole chain.apart in
    let right = linked-right at None c.front (key ∷ c.back) None linked in
    let apart-right' = apart-right c.front (key ∷ c.back) apart in
    let across = apart-across c.front (key ∷ c.back) apart in
    let was = chain.ends ∙ ap (last_or None) c.whole in
    record {
      front = c.front;
      back = c.back;
      whole = c.whole;
      ends = right.0;
      left = linked-left at None c.front (key ∷ c.back) None linked;
      right = right.1;
      apart-front = apart-left c.front (key ∷ c.back) apart;
      apart-back = apart-right'.1;
      across = across-without c.front key c.back across;
      not-front = avoids-across c.front key c.back across;
      not-back = apart-right'.0;
      first-is = ap (λ f. outer_end f (last_or None c.front) (first_or c.back None))
          (chain.starts ∙ ap (λ l. first_or l None) c.whole) ∙ first-left c.front key c.back;
      last-is = ap (λ f. outer_end f (first_or c.back None) (last_or None c.front)) was
          ∙ last-left c.front key c.back;
      last-was = was ∙ last-append c.front (key ∷ c.back) None;
    }

module _ (at one mid new : ℕ → Option Ends) (first last : Option ℕ) (order : List ℕ) (key : ℕ)
    (ends given : Ends) (c : CutAt at first last order key)
    (was : at key ≡ Some ends)
    (apart : Changes at one (Some key) (with_ends given.0 given.1))
    (nexts : Changes one mid ends.0 (with_next ends.1))
    (previous : Changes mid new ends.1 (with_previous ends.0)) where
  ends-are : ends ≡ (last_or None c.front, first_or c.back None)
  ends-are = ap (λ o. unwrap_or o ends) (sym was ∙ c.ends)

  nexts' : Changes one mid (last_or None c.front) (with_next (first_or c.back None))
  nexts' = subst (λ (e : Ends). Changes one mid e.0 (with_next e.1)) ends-are nexts

  previous' : Changes mid new (first_or c.back None) (with_previous (last_or None c.front))
  previous' = subst (λ (e : Ends). Changes mid new e.1 (with_previous e.0)) ends-are previous

  left-linked : Linked new None (c.front ++ c.back) None
  left-linked = linked-joined one mid new c.front c.back (Some key) (Some key) nexts' previous' c.apart-front
      c.apart-back c.across
      (linked-kept at one (Some key) (with_ends given.0 given.1) apart None c.front
      (Some key) c.not-front c.left)
      (linked-kept at one (Some key) (with_ends given.0 given.1) apart
      (Some key) c.back None c.not-back c.right)

  left-apart : Apart (c.front ++ c.back)
  left-apart = apart-append c.front c.back c.apart-front c.apart-back c.across

  left-avoids : Avoids (Some key) (c.front ++ c.back)
  left-avoids = avoids-append (Some key) c.front c.back c.not-front c.not-back

  -- a chain without the key
  pub unlinked-chain : IsChain new (outer_end first ends.0 ends.1) (outer_end last ends.1 ends.0)
      (c.front ++ c.back)
  unlinked-chain = record {
    linked = left-linked;
    apart = left-apart;
    starts = ap (λ (e : Ends). outer_end first e.0 e.1) ends-are ∙ c.first-is;
    ends = ap (λ (e : Ends). outer_end last e.1 e.0) ends-are ∙ c.last-is;
  }

  -- the key's own links stay as they were given
  own-links : new key ≡ Some given
  own-links =
      let free-last : last_or None c.front ≢ Some key = not-last c.front key c.not-front in
      let free-first : first_or c.back None ≢ Some key = not-first c.back key c.not-back in
      previous'.others key free-first
      ∙ (nexts'.others key free-last
      ∙ (apart.there key refl ∙ ap (option_map (with_ends given.0 given.1)) was))
    where
      not-first : (xs : List ℕ) (k : ℕ) → Avoids (Some k) xs → first_or xs None ≢ Some k
      not-first [] k h is = some≢none k (sym is)
      not-first (x ∷ xs) k h is = h.0 (sym is)

      not-last : (xs : List ℕ) (k : ℕ) → Avoids (Some k) xs → last_or None xs ≢ Some k
      not-last [] k h is = some≢none k (sym is)
      not-last (x ∷ xs) k h is = last-avoids k x xs h is

  -- a chain with the key moved to its end
  pub moved-chain : (later : ℕ → Option Ends) → last ≢ Some key → given ≡ (last, None)
      → Changes new later last (with_next (Some key)) → IsChain later (outer_end first ends.0 ends.1)
      (Some key) ((c.front ++ c.back) ++ key ∷ [])
  moved-chain later differs is changes = by c.back refl
    where
      by : (back : List ℕ) → c.back ≡ back → IsChain later (outer_end first ends.0 ends.1) (Some key)
          ((c.front ++ c.back) ++ key ∷ [])
      by [] none = absurd (differs (c.last-was ∙ ap (last_or (Some key)) none))
      by (y ∷ ys) some =
          let last-now : last ≡ last_or None (c.front ++ c.back) =
          c.last-was ∙ (ap (last_or (Some key)) some
          ∙ (sym (last-append c.front (y ∷ ys) None) ∙ ap (λ b. last_or None (c.front ++ b)) (sym some)))
          in
          let first-kept : first_or ((c.front ++ c.back) ++ key ∷ []) None ≡ first_or
          (c.front ++ c.back) None =
          ap (λ b. first_or ((c.front ++ b) ++ key ∷ []) None) some
          ∙ (first-more c.front y ys key ∙ ap (λ b. first_or (c.front ++ b) None) (sym some)) in
          record {
            linked = linked-pushed new later (c.front ++ c.back) key
                (own-links ∙ ap (λ e. Some e) (is ∙ ap (λ l. (l, None)) last-now))
                (subst (λ l. Changes new later l (with_next (Some key))) last-now changes) left-apart
                left-avoids left-linked;
            apart = apart-append (c.front ++ c.back) (key ∷ []) left-apart (tt, tt)
                (across-one (c.front ++ c.back) key left-avoids);
            starts = ap (λ (e : Ends). outer_end first e.0 e.1) ends-are ∙ (c.first-is ∙ sym first-kept);
            ends = sym (last-append (c.front ++ c.back) (key ∷ []) None);
          }

-- a key that is the last
pub last-moved : (at : ℕ → Option Ends) (first last : Option ℕ) (order : List ℕ) (key : ℕ)
    (c : CutAt at first last order key) → last ≡ Some key → order ≡ (c.front ++ c.back) ++ key ∷ []
last-moved at first last order key c is = by c.back refl c.not-back
  where
    by : (back : List ℕ) → c.back ≡ back → Avoids (Some key) back → order ≡ (c.front ++ c.back) ++ key ∷ []
    by [] none h = c.whole ∙ (ap (λ b. c.front ++ key ∷ b) none ∙ ap (λ f. f ++ key ∷ [])
        (sym (append-nil c.front) ∙ ap (λ b. c.front ++ b) (sym none)))
    by (y ∷ ys) some h = absurd
        (last-avoids key y ys h (ap (last_or (Some key)) (sym some) ∙ (sym c.last-was ∙ is)))

-- what is left is the order without the key
pub without-at : (at : ℕ → Option Ends) (first last : Option ℕ) (order : List ℕ) (key : ℕ)
    (c : CutAt at first last order key) → without key order ≡ c.front ++ c.back
without-at at first last order key c = ap (without key) c.whole ∙ without-cut c.front key c.back c.not-front

-- a key that is in no list
pub avoids-absent : (order : List ℕ) (key : ℕ) → ¬ (Contains order key) → Avoids (Some key) order
avoids-absent [] key absent = tt
avoids-absent (x ∷ xs) key absent = (
  (λ is. absent (0, omega arith, sym (some-inj key x is))),
  avoids-absent xs key
      (λ has. absent (Contains-cons x key xs has)),
)

-- a chain with one more key at its end
pub pushed-chain : (at one new : ℕ → Option Ends) (first last : Option ℕ) (order : List ℕ) (key : ℕ)
    (ends : Ends) → IsChain at first last order → ¬ (Contains order key)
    → at key ≡ Some ends → Changes at one (Some key) (with_ends last None)
    → Changes one new last (with_next (Some key))
    → IsChain new (outer_end first first (Some key)) (Some key) (order ++ key ∷ [])
pushed-chain at one new first last order key ends chain absent was apart nexts =
    let free = avoids-absent order key absent in
    let kept = linked-kept at one (Some key) (with_ends last None) apart None order None free chain.linked in
    record {
      linked = linked-pushed one new order key
          (apart.there key refl ∙ (ap (option_map (with_ends last None)) was
          ∙ ap (λ l. Some (l, None)) chain.ends))
          (subst (λ l. Changes one new l (with_next (Some key))) chain.ends nexts) chain.apart free kept;
      apart = apart-append order (key ∷ []) chain.apart (tt, tt) (across-one order key free);
      starts = ap (λ f. outer_end f f (Some key)) chain.starts ∙ by order;
      ends = sym (last-append order (key ∷ []) None);
    }
  where
    by : (xs : List ℕ) → outer_end (first_or xs None) (first_or xs None) (Some key) ≡ first_or
        (xs ++ key ∷ []) None
    by [] = refl
    by (x ∷ xs) = refl

-- the chain is seen as this order
pub settled : {T : Type 0} (s : Slab (Node T)) (first last : Option ℕ) (order : List ℕ)
    → IsChain (links s) first last order
    → IsChain (links s) first last (walk (links s) (length s.slots) first)
settled s first last order chain = subst (IsChain (links s) first last)
    (sym (order-walked s first last order chain)) chain

-- the neighbours of a key have nodes, also once the key has other neighbours
pub ends-held : (at one : ℕ → Option Ends) (first last : Option ℕ) (order : List ℕ) (key : ℕ) (ends : Ends)
    (change : Ends → Ends) (c : CutAt at first last order key)
    → at key ≡ Some ends → Changes at one (Some key) change
    → IfSome ends.0 (λ x. is_some (one x) ≡ true) × IfSome ends.1 (λ x. is_some (one x) ≡ true)
ends-held at one first last order key ends change c was changes =
    let are : ends ≡ (last_or None c.front, first_or c.back None) = ap (λ o. unwrap_or o ends)
    (sym was ∙ c.ends) in
    subst (λ (e : Ends). IfSome e.0 (λ x. is_some (one x) ≡ true) × IfSome e.1 (λ x. is_some (one x) ≡ true))
    (sym are) (
      still-if at one (Some key) change changes (last_or None c.front)
          (last-held at None c.front (Some key) c.left),
      still-if at one (Some key) change changes (first_or c.back None)
          (first-held at (Some key) c.back None c.right),
    )

-- the first key is in the list
pub first-contained : (xs : List ℕ) (x : ℕ) → first_or xs None ≡ Some x → Contains xs x
first-contained [] x is = absurd (some≢none x (sym is))
first-contained (y ∷ ys) x is = (0, omega arith, some-inj y x is)

-- links of other keys than one stay
pub linked-others : (at new : ℕ → Option Ends) (key : ℕ) → ((x : ℕ) → x ≢ key → new x ≡ at x)
    → (before : Option ℕ) (xs : List ℕ) (after : Option ℕ) → Avoids (Some key) xs → Linked at before xs after
    → Linked new before xs after
linked-others at new key others before [] after h k = tt
linked-others at new key others before (x ∷ xs) after h k = (
  others x (λ is. h.0 (ap (λ n. Some n) (sym is))) ∙ k.0,
  linked-others at new key others
      (Some x) xs after h.1 k.1,
)

-- a key with no node is not linked
pub avoids-vacant : (at : ℕ → Option Ends) (key : ℕ) (before : Option ℕ) (xs : List ℕ) (after : Option ℕ)
    → is_some (at key) ≡ false → Linked at before xs after → Avoids (Some key) xs
avoids-vacant at key before [] after none k = tt
avoids-vacant at key before (x ∷ xs) after none k = (
  (λ is. true≢false (sym (ap is_some (ap at (some-inj key x is) ∙ k.0)) ∙ none)),
  avoids-vacant at key (Some x) xs after none k.1,
)

-- a chain stays where another key's slot changes
pub chain-kept : {T : Type 0} (old new : Slab (Node T)) (first last : Option ℕ) (order : List ℕ) (key : ℕ)
    (slot : Option (Node T)) → Updates old new key slot → Avoids (Some key) order
    → IsChain (links old) first last order → IsChain (links new) first last order
chain-kept old new first last order key slot updates free chain =
    record {
      linked = linked-others (links old) (links new) key
          (λ x differs. ap (option_map ends_of) (updates.others x differs)) None order None free chain.linked;
      apart = chain.apart;
      starts = chain.starts;
      ends = chain.ends;
    }

-- an update of a node is one of its item
pub updates-items : {T : Type 0} (old new : Slab (Node T)) (key : ℕ) (slot : Option (Node T))
    → Updates old new key slot → Updates (items_of old) (items_of new) key (option_map item_of slot)
updates-items old new key slot updates =
    record {
      changed = get-items new.slots key ∙ ap (option_map item_of) updates.changed;
      others = λ x differs. get-items new.slots x
          ∙ (ap (option_map item_of) (updates.others x differs) ∙ sym (get-items old.slots x));
    }

pub some-ends : {T : Type 0} (o : Option (Node T)) → is_some (option_map ends_of o) ≡ is_some
    (option_map item_of o)
some-ends None = refl
some-ends (Some n) = refl

-- a key has a node where it has an item
pub links-item : {T : Type 0} (s : Slab (Node T)) (key : ℕ) → is_some (links s key) ≡ is_some
    (get (items_of s) key)
links-item s key = some-ends (get s key) ∙ ap is_some (sym (get-items s.slots key))

-- links that are the same at each key
pub linked-same : (at new : ℕ → Option Ends) → ((x : ℕ) → new x ≡ at x) → (before : Option ℕ) (xs : List ℕ)
    (after : Option ℕ) → Linked at before xs after → Linked new before xs after
linked-same at new same before [] after k = tt
linked-same at new same before (x ∷ xs) after k =
    (same x ∙ k.0, linked-same at new same (Some x) xs after k.1)

mapped-same : (o : Option Ends) → option_map (λ e. e) o ≡ o
mapped-same None = refl
mapped-same (Some e) = refl

-- a chain stays where an item changes
pub chain-item : {T : Type 0} (s : Slab (Node T)) (key : ℕ) (n m : Node T) (first last : Option ℕ)
    (order : List ℕ) → get s key ≡ Some n → ends_of m ≡ ends_of n → IsChain (links s) first last order
    → IsChain (links (with_value s key m)) first last order
chain-item s key n m first last order found ends chain =
    let within = ContainsKey-within s key (ap is_some found) in
    record {
      linked = linked-same (links s) (links (with_value s key m)) (λ x. elim (cases_eq x key) [
        | inl same ↦ subst (λ y. links (with_value s key m) y ≡ links s y) (sym same)
            (ap (option_map ends_of) (get_or-set_same s.slots key (Some m) None within)
            ∙ (ap (λ e. Some e) ends ∙ sym (ap (option_map ends_of) found)))
        | inr differs ↦ ap (option_map ends_of) (get_or-set_other s.slots key x (Some m) None differs)
      ]) None order None chain.linked;
      apart = chain.apart;
      starts = chain.starts;
      ends = chain.ends;
    }

-- the first key of a list
pub first-got : (xs : List ℕ) → first_or xs None ≡ slice_get xs 0
first-got [] = refl
first-got (x ∷ xs) = refl

-- as many items as nodes
pub count-items : {T : Type 0} (slots : List (Option (Node T)))
    → count_by is_some (map (option_map item_of) slots) ≡ count_by is_some slots
count-items [] = refl
count-items (None ∷ rest) =
    omega (
      arith,
      count-items rest,
      sum_by-cons (λ o. cond (is_some o) 1 0) None
          (map (option_map item_of) rest),
      sum_by-cons (λ o. cond (is_some o) 1 0) None rest,
    )
count-items (Some n ∷ rest) =
    omega (
      arith,
      count-items rest,
      sum_by-cons (λ o. cond (is_some o) 1 0) (Some n.item)
          (map (option_map item_of) rest),
      sum_by-cons (λ o. cond (is_some o) 1 0) (Some n) rest,
    )

-- the links of a key where the list is cut
pub links-cut : (at : ℕ → Option Ends) (first last : Option ℕ) (order : List ℕ) (key : ℕ)
    (front back : List ℕ) → IsChain at first last order → order ≡ front ++ key ∷ back
    → at key ≡ Some (last_or None front, first_or back None)
links-cut at first last order key front back chain is =
    (linked-right at None front (key ∷ back) None (subst (λ l. Linked at None l None) is chain.linked)).0
