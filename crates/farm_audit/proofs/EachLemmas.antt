-- What each element of a list has.
use Rattle.std.proofs.Common.{◌≡◌, ℕ, ◌+◌, ◌<◌, ◌≤◌, Bool, true, false, cond, List, [], ◌∷◌, ◌++◌}
use Rattle.std.proofs.Common.{length, map, Option, Some, None, refl, subst, arith, nat_lt}
use Rattle.std.specs.List.{filter_map, cons_option}
use Rattle.std.specs.Prelude.{filter}
use Rattle.std.specs.Map.{lookup, lookup_entry, remove_entry}
use Rattle.std.proofs.lemmas.List.{length-append}
use Rattle.core_rules.specs.Cuts.{Cut, cuts_behind}
use Rattle.core_rules.specs.Log.{latest, newest}
use Rattle.core_rules.specs.Rows.{placed, sorted_into}
use Rattle.lru_metered.specs.Metered.{promoted}
use Rattle.run_lines.specs.Grammar.{Fits, Each, SomeFits}

-- it is had, if there is one
abbrev pub Whether : {A : Type 0} → (A → Type 0) → Option A → Type 0
Whether P None = Unit {0}
Whether P (Some x) = P x

pub each_map : {A B : Type 0} (f : A → B) (P : A → Type 0) (Q : B → Type 0) (xs : List A)
    → ((x : A) → P x → Q (f x)) → Each P xs → Each Q (map f xs)
each_map f P Q [] h all = tt
each_map f P Q (x ∷ xs) h all = (h x all.0, each_map f P Q xs h all.1)

pub each_both : {A : Type 0} (P : A → Type 0) (xs ys : List A) → Each P xs → Each P ys → Each P (xs ++ ys)
each_both P [] ys a b = b
each_both P (x ∷ xs) ys a b = (a.0, each_both P xs ys a.1 b)

pub each_filter : {A : Type 0} (P : A → Type 0) (p : A → Bool) (xs : List A) → Each P xs → Each P (filter p xs)
each_filter P p [] all = tt
each_filter P p (x ∷ xs) all = keep (p x) (each_filter P p xs all.1)
  where
    keep : (b : Bool) → Each P (filter p xs) → Each P (cond b (x ∷ filter p xs) (filter p xs))
    keep true rest = (all.0, rest)
    keep false rest = rest

pub each_cons : {A : Type 0} (P : A → Type 0) (o : Option A) (xs : List A) → Whether P o → Each P xs
    → Each P (cons_option o xs)
each_cons P None xs h all = all
each_cons P (Some x) xs h all = (h, all)

-- what elements make, each seen with those before and after it
pub each_made : {A X : Type 0} (n : ℕ) (Fine : A → Type 0) (Q : X → Type 0) (make : Cut A → Option X)
    (front xs : List A) → length front + length xs ≤ n → Each Fine xs
    → ((before : List A) (x : A) (after : List A) → length before < n → Fine x → Each Fine after
    → Whether Q (make (record { before = before; at = x; after = after })))
    → Each Q (filter_map make (cuts_behind front xs))
each_made n Fine Q make front [] le all h = tt
each_made n Fine Q make front (x ∷ xs) le all h =
    each_cons Q (make (record { before = front; at = x; after = xs }))
    (filter_map make (cuts_behind (front ++ x ∷ []) xs)) (h front x xs (omega (arith, le)) all.0 all.1)
    (each_made n Fine Q make (front ++ x ∷ []) xs (omega (arith, le, length-append front (x ∷ []))) all.1 h)

-- an element of each cut
pub each_cut : {A : Type 0} (Fine : A → Type 0) (front xs : List A) → Each Fine xs
    → Each (λ (c : Cut A). Fine c.at) (cuts_behind front xs)
each_cut Fine front [] all = tt
each_cut Fine front (x ∷ xs) all = (all.0, each_cut Fine (front ++ x ∷ []) xs all.1)

pub latest_fits : (first : ℕ) (xs : List ℕ) → Fits first → Each Fits xs → Fits (latest first xs)
latest_fits first [] h all = h
latest_fits first (x ∷ xs) h all = latest_fits x xs all.0 all.1

pub newest_fits : (before : Option ℕ) (xs : List ℕ) → SomeFits before → Each Fits xs → SomeFits (newest before xs)
newest_fits before [] h all = h
newest_fits before (x ∷ xs) h all = newest_fits (Some x) xs all.0 all.1

-- put in order
each_placed : {X : Type 0} (P : X → Type 0) (number : X → ℕ) (x : X) (ys : List X) → P x → Each P ys
    → Each P (placed number x ys)
each_placed P number x [] h all = (h, tt)
each_placed P number x (y ∷ ys) h all = by_order (nat_lt (number x) (number y)) (each_placed P number x ys h all.1)
  where
    by_order : (b : Bool) → Each P (placed number x ys) → Each P (cond b (x ∷ y ∷ ys) (y ∷ placed number x ys))
    by_order true rest = (h, all)
    by_order false rest = (all.0, rest)

pub each_sorted : {X : Type 0} (P : X → Type 0) (number : X → ℕ) (done xs : List X) → Each P done → Each P xs
    → Each P (sorted_into number done xs)
each_sorted P number done [] a b = a
each_sorted P number done (x ∷ xs) a b =
    each_sorted P number (placed number x done) xs (each_placed P number x done b.0 a) b.1

-- ---- pairs

pub each_looked : {K V : Type 0} (P : K × V → Type 0) (Q : V → Type 0) (test : K → Bool) (es : List (K × V))
    → ((e : K × V) → P e → Q e.1) → Each P es → Whether Q (lookup test es)
each_looked P Q test [] h all = tt
each_looked P Q test (e ∷ es) h all = by_test (test e.0) (each_looked P Q test es h all.1)
  where
    by_test : (b : Bool) → Whether Q (lookup test es) → Whether Q (cond b (Some e.1) (lookup test es))
    by_test true rest = h e all.0
    by_test false rest = rest

each_entry : {K V : Type 0} (P : K × V → Type 0) (test : K → Bool) (es : List (K × V)) → Each P es
    → Whether P (lookup_entry test es)
each_entry P test [] all = tt
each_entry P test (e ∷ es) all = by_test (test e.0) (each_entry P test es all.1)
  where
    by_test : (b : Bool) → Whether P (lookup_entry test es) → Whether P (cond b (Some e) (lookup_entry test es))
    by_test true rest = all.0
    by_test false rest = rest

each_removed : {K V : Type 0} (P : K × V → Type 0) (test : K → Bool) (es : List (K × V)) → Each P es
    → Each P (remove_entry test es)
each_removed P test [] all = tt
each_removed P test (e ∷ es) all = by_test (test e.0) (each_removed P test es all.1)
  where
    by_test : (b : Bool) → Each P (remove_entry test es) → Each P (cond b es (e ∷ remove_entry test es))
    by_test true rest = all.1
    by_test false rest = (all.0, rest)

pub each_promoted : {K V : Type 0} (P : K × V → Type 0) (test : K → Bool) (es : List (K × V)) → Each P es
    → Each P (promoted test es)
each_promoted P test es all = by_entry (lookup_entry test es) refl
  where
    by_entry : (o : Option _) → lookup_entry test es ≡ o → Each P (promoted test es)
    by_entry None is = rw is all
    by_entry (Some e) is = rw is (each_both P (remove_entry test es) (e ∷ []) (each_removed P test es all)
        (subst (Whether P) is (each_entry P test es all), tt))
