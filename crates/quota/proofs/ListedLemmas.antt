-- Clients that are listed one after another: none has the name of an earlier one, until one does.
use Rattle.std.proofs.Common.{◌≡◌, ◌≢◌, ℕ, ◌+◌, ◌<◌, List, [], ◌∷◌, ◌++◌, Bool, true, false, cond, map}
use Rattle.std.proofs.Common.{length, take, drop}
use Rattle.std.proofs.Common.{get_or, Option, Some, None, refl, ap, ◌∙◌, sym, subst}
use Rattle.std.specs.Prelude.{is_some}
use Rattle.std.specs.List.{AllByRecursion}
use Rattle.std.specs.Map.{lookup}
use Rattle.std.specs.Str.{bytes_eq}
use Rattle.std.specs.Cmp.Lexicographic.{bytes_decides}
use Rattle.std.proofs.lemmas.List.{take-append-drop, drop_more, take_more, map-append, length-map}
use Rattle.core_rules.specs.Laws.{AreDifferent}
use Rattle.core_rules.proofs.AllLemmas.{true_false}
use Rattle.core_rules.proofs.RisingLemmas.{different-push}
use Rattle.quota.specs.Clients.{Client, client_of, names_of, place_of, AreNamedOnce, IsFirstRepeat}

-- the clients of some pairs
abbrev pub clients_in : {K : Type 0} → (K → List ℕ) → List (K × ℕ) → List Client
clients_in text es = map (λ e. client_of (text e.0) e.1) es

-- a name that is not found is none of theirs
none_named : {K : Type 0} (text : K → List ℕ) (name : List ℕ) (es : List (K × ℕ))
    → is_some (lookup (λ k. bytes_eq name (text k)) es) ≡ false
    → AllByRecursion (λ z. name ≢ z) (names_of (clients_in text es))
none_named text name [] none = tt
none_named text name (e ∷ es) none = by (bytes_eq name (text e.0)) refl none (none_named text name es)
  where
    by : (b : Bool) → bytes_eq name (text e.0) ≡ b
        → is_some (cond b (Some e.1) (lookup (λ k. bytes_eq name (text k)) es)) ≡ false
        → (is_some (lookup (λ k. bytes_eq name (text k)) es) ≡ false
        → AllByRecursion (λ z. name ≢ z) (names_of (clients_in text es)))
        → AllByRecursion (λ z. name ≢ z) (names_of (clients_in text (e ∷ es)))
    by true is found rest = absurd cc
    by false is found rest = (
      (λ same. true_false (bytes_eq name (text e.0)) ((bytes_decides name (text e.0)).1 same) is),
      rest
          found,
    )

-- so with it they are named once
pub once_more : {K : Type 0} (text : K → List ℕ) (es : List (K × ℕ)) (x : K × ℕ)
    → AreNamedOnce (clients_in text es)
    → is_some (lookup (λ k. bytes_eq (text x.0) (text k)) es) ≡ false
    → AreNamedOnce (clients_in text (es ++ x ∷ []))
once_more text es x once none =
    subst AreDifferent (sym (ap names_of (map-append (λ e. client_of (text e.0) e.1) es (x ∷ []))
    ∙ map-append (λ c. c.name) (clients_in text es) (client_of (text x.0) x.1 ∷ [])))
    (different-push (names_of (clients_in text es)) (text x.0) once (none_named text (text x.0) es none))

-- the pairs that came so far, with one more
pub taken_more : {X : Type 0} (items es more : List X) (n m : ℕ) (x : X) → es ≡ take n items → n < length
    items
    → x ≡ get_or items n x → more ≡ es ++ x ∷ [] → m ≡ n + 1 → more ≡ take m items
taken_more items es more n m x are lt is does next =
    does ∙ ap (λ l. l ++ x ∷ []) are ∙ ap (λ y. take n items ++ y ∷ []) is
    ∙ sym (take_more items n x lt) ∙ ap (λ k. take k items) (sym next)

-- the first that has the name of an earlier one
pub first_repeat : {K : Type 0} (text : K → List ℕ) (items es : List (K × ℕ)) (n len : ℕ) (x : K × ℕ)
    → es ≡ take n items → n < length items → x ≡ get_or items n x → AreNamedOnce (clients_in text es)
    → is_some (place_of (clients_in text es) (text x.0)) ≡ true → len ≡ length es
    → IsFirstRepeat (clients_in text items) len
first_repeat text items es n len x are lt is once found counts = record {
  before = clients_in text es;
  at = client_of (text x.0) x.1;
  behind = clients_in text (drop (n + 1) items);
  are = ap (clients_in text) whole
      ∙ map-append (λ e. client_of (text e.0) e.1) es (x ∷ drop (n + 1) items);
  in_place = length-map es (λ e. client_of (text e.0) e.1) ∙ sym counts;
  differ = once;
  repeats = found;
}
  where
    whole : items ≡ es ++ x ∷ drop (n + 1) items
    whole = sym (take-append-drop n items) ∙ ap (λ l. l ++ drop n items) (sym are)
        ∙ ap (λ l. es ++ l) (drop_more items n x lt ∙ ap (λ y. y ∷ drop (n + 1) items) (sym is))

-- what is not there is None
pub is_none : {X : Type 0} (o : Option X) → is_some o ≡ false → o ≡ None
is_none None none = refl
is_none (Some x) none = absurd cc
