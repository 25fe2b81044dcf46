-- What a list's number finds, and what another list under a number changes.
use Rattle.std.proofs.Common.{◌≡◌, ℕ, List, [], ◌∷◌, Bool, true, false, cond, map, Option, Some, None}
use Rattle.std.proofs.Common.{refl, ap}
use Rattle.std.proofs.Common.{◌∙◌, sym, eqb-true}
use Rattle.std.specs.Prelude.{◌==◌}
use Rattle.std.specs.Map.{lookup}
use Rattle.row_index.specs.Lists.{list_at, items_in, Puts, AreAlike}

-- the lists as contracts see them
abbrev pub seen : {V : Type 0} → (V → List ℕ) → List (ℕ × V) → List (ℕ × List ℕ)
seen items es = map (λ e. (e.0, items e.1)) es

-- the list of a number is that of the entry that is found
pub list_seen : {V : Type 0} (items : V → List ℕ) (es : List (ℕ × V)) (n : ℕ)
    → list_at (seen items es) n ≡ items_in items (lookup (λ k. n == k) es)
list_seen items [] n = refl
list_seen items (e ∷ es) n = split (n == e.0) (list_seen items es n)
  where
    split : (b : Bool) → list_at (seen items es) n ≡ items_in items (lookup (λ k. n == k) es)
        → cond b (items e.1) (list_at (seen items es) n)
        ≡ items_in items (cond b (Some e.1) (lookup (λ k. n == k) es))
    split true rest = refl
    split false rest = rest

-- another list under a number
pub put_seen : {V : Type 0} (items : V → List ℕ) (old new : List (ℕ × V)) (number : ℕ) (v : Option V)
    → ((q : ℕ) → lookup (λ k. q == k) new ≡ cond (number == q) v (lookup (λ k. q == k) old))
    → Puts (seen items old) (seen items new) number (items_in items v)
put_seen items old new number v does n = list_seen items new n ∙ ap (items_in items) (does n)
    ∙ split (number == n)
  where
    split : (b : Bool) → items_in items (cond b v (lookup (λ k. n == k) old))
        ≡ cond b (items_in items v) (list_at (seen items old) n)
    split true = refl
    split false = sym (list_seen items old n)

-- one list under a number, and then another
pub put_twice : (old mid new : List (ℕ × List ℕ)) (number : ℕ) (first second : List ℕ)
    → Puts old mid number first → Puts mid new number second → Puts old new number second
put_twice old mid new number first second one two n = two n
    ∙ ap (λ l. cond (number == n) second l) (one n) ∙ split (number == n)
  where
    split : (b : Bool) → cond b second (cond b first (list_at old n)) ≡ cond b second (list_at old n)
    split true = refl
    split false = refl

-- the same list under a number
pub put_same : (old new : List (ℕ × List ℕ)) (number : ℕ) (list : List ℕ) → list ≡ list_at old number
    → Puts old new number list → AreAlike old new
put_same old new number list is puts n = puts n ∙ split (number == n) refl
  where
    split : (b : Bool) → (number == n) ≡ b → cond b list (list_at old n) ≡ list_at old n
    split true e = is ∙ ap (list_at old) (eqb-true number n e)
    split false e = refl

-- the same entries, in whatever order
pub same_seen : {V : Type 0} (items : V → List ℕ) (old new : List (ℕ × V))
    → ((q : ℕ) → lookup (λ k. q == k) new ≡ lookup (λ k. q == k) old)
    → AreAlike (seen items old) (seen items new)
same_seen items old new does n =
    list_seen items new n ∙ ap (items_in items) (does n) ∙ sym (list_seen items old n)

-- a list that was taken out and put in again is the same
pub room_made : {V : Type 0} (items : V → List ℕ) (old first mid new : List (ℕ × V)) (number : ℕ)
    (found : Option V) (list : V) → ((q : ℕ) → lookup (λ k. q == k) first ≡ lookup (λ k. q == k) old)
    → ((q : ℕ) → lookup (λ k. q == k) mid ≡ cond (number == q) None (lookup (λ k. q == k) first))
    → found ≡ lookup (λ k. number == k) first → items list ≡ items_in items found
    → ((q : ℕ) → lookup (λ k. q == k) new ≡ cond (number == q) (Some list) (lookup (λ k. q == k) mid))
    → AreAlike (seen items old) (seen items new)
room_made items old first mid new number found list alike out had is put n =
    put_same (seen items first) (seen items new) number (items list)
    (is ∙ ap (items_in items) had ∙ sym (list_seen items first number))
    (put_twice (seen items first) (seen items mid) (seen items new) number [] (items list)
    (put_seen items first mid number None out) (put_seen items mid new number (Some list) put)) n
    ∙ same_seen items old first alike n
