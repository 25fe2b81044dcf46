-- Clients found by their names.
use Rattle.std.proofs.Common.{◌≡◌, ◌≢◌, ℕ, List, [], ◌∷◌, ◌++◌, Bool, true, false, cond, ◌||◌, map, Option}
use Rattle.std.proofs.Common.{Some, refl, ap, ◌∙◌, sym, subst}
use Rattle.std.specs.Prelude.{IfOk, Result, Ok, Err}
use Rattle.std.specs.Option.{is_some}
use Rattle.std.specs.List.{AllByRecursion}
use Rattle.std.specs.Str.{bytes_eq}
use Rattle.std.specs.Cmp.Lexicographic.{bytes_decides}
use Rattle.std.proofs.lemmas.Bool.{or_parts}
use Rattle.std.specs.Map.{lookup}
use Rattle.indexmap.specs.IndexMap.{insert_entry}
use Rattle.farm_script.proofs.FieldLemmas.{cond_off}
use Rattle.quota_script.specs.Place.{Client, is_listed, names_of, AreNamedOnce}

-- the clients of a table
abbrev pub clients_in : {K : Type 0} → (K → List ℕ) → List (K × ℕ) → List Client
clients_in text es = map (λ e. (text e.0, e.1)) es

one_more : (b : Bool) (limit : ℕ) (o : Option ℕ) (r : Bool) → is_some o ≡ r
    → is_some (cond b (Some limit) o) ≡ (b || r)
one_more true limit o r e = refl
one_more false limit o r e = e

pub listed_is : {K : Type 0} (text : K → List ℕ) (name : List ℕ) (es : List (K × ℕ))
    → is_some (lookup (λ k. bytes_eq name (text k)) es) ≡ is_listed name (names_of (clients_in text es))
listed_is text name [] = refl
listed_is text name (e ∷ es) =
    one_more (bytes_eq name (text e.0)) e.1 (lookup (λ k. bytes_eq name (text k)) es)
    (is_listed name (names_of (clients_in text es))) (listed_is text name es)

-- a name that is not listed goes last
goes_last : {K : Type 0} (eq : K → K → Bool) (text : K → List ℕ)
    → ((j k : K) → eq j k ≡ bytes_eq (text j) (text k)) → (k : K) (limit : ℕ) (es : List (K × ℕ))
    → is_listed (text k) (names_of (clients_in text es)) ≡ false
    → clients_in text (insert_entry eq es k limit) ≡ clients_in text es ++ (text k, limit) ∷ []
goes_last eq text same k limit [] new = refl
goes_last eq text same k limit (e ∷ es) new =
    let p = or_parts (bytes_eq (text k) (text e.0)) (is_listed (text k) (names_of (clients_in text es))) new in
    ap (λ xs. clients_in text xs)
    (cond_off (eq k e.0) ((e.0, limit) ∷ es) (e ∷ insert_entry eq es k limit) (same k e.0 ∙ p.0))
    ∙ ap (λ (xs : List Client). (text e.0, e.1) ∷ xs) (goes_last eq text same k limit es p.1)

pub listed_last : {K : Type 0} (eq : K → K → Bool) (text : K → List ℕ)
    → ((j k : K) → eq j k ≡ bytes_eq (text j) (text k)) → (k : K) (name : List ℕ) (limit : ℕ)
    → (es more : List (K × ℕ)) → text k ≡ name → is_listed name (names_of (clients_in text es)) ≡ false
    → more ≡ insert_entry eq es k limit → clients_in text more ≡ clients_in text es ++ (name, limit) ∷ []
listed_last eq text same k name limit es more is new e =
    ap (λ xs. clients_in text xs) e
    ∙ subst (λ (n : List ℕ). is_listed n (names_of (clients_in text es)) ≡ false
    → clients_in text (insert_entry eq es k limit) ≡ clients_in text es ++ (n, limit) ∷ []) is
    (goes_last eq text same k limit es) new

-- what follows of a value, where there is one
pub where_ok : {A E : Type 0} (P Q : A → Type 0) (r : Result A E) → ((x : A) → P x → Q x) → IfOk r P → IfOk r Q
where_ok P Q (Ok x) more is = more x is
where_ok P Q (Err e) more is = tt

-- ---- no name stands twice

differ_more : (other name : List ℕ) (limit : ℕ) (cs : List Client)
    → AllByRecursion (λ c. c.0 ≢ other) cs → name ≢ other → AllByRecursion (λ c. c.0 ≢ other) (cs ++ (name, limit) ∷ [])
differ_more other name limit [] all new = (new, tt)
differ_more other name limit (c ∷ cs) all new = (all.0, differ_more other name limit cs all.1 new)

-- one more whose name is not listed
pub once_more : (name : List ℕ) (limit : ℕ) (cs : List Client) → is_listed name (names_of cs) ≡ false
    → AreNamedOnce cs → AreNamedOnce (cs ++ (name, limit) ∷ [])
once_more name limit [] new once = (tt, tt)
once_more name limit (c ∷ cs) new once =
    let p = or_parts (bytes_eq name c.0) (is_listed name (names_of cs)) new in
    let other : name ≢ c.0 = λ same. let clash : true ≡ false = sym ((bytes_decides name c.0).1 same) ∙ p.0
    in absurd cc in
    (differ_more c.0 name limit cs once.0 other, once_more name limit cs p.1 once.1)
