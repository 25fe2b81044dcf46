-- What was put in is taken out again.
use Rattle.std.proofs.Common.{◌≡◌, ℕ, List, [], ◌∷◌, Bool, true, false, cond, map, Some, None, Result, Ok}
use Rattle.std.proofs.Common.{Err, OnOk, OnErr, String, string_bytes, refl, sym, ap, ◌∙◌}
use Rattle.std.specs.Map.{lookup, remove_entry}
use Rattle.std.specs.Cmp.Lexicographic.{slice_cmp}
use Rattle.std.specs.Ordering.{is_eq, nat_cmp}
use Rattle.std.specs.Str.{bytes_eq}
use Rattle.std.specs.declared.cmp.Ordering.{Ordering}
use Rattle.std.specs.declared.cmp.Ordering.TheVariants.{Less, Equal, Greater}
use Rattle.std.proofs.lemmas.Slice.Eq.{bytes_eq-Decides}
use Rattle.std.proofs.lemmas.Map.Text.{is_eq-slice_cmp}
use Rattle.std.specs.List.{AllByRecursion}
use Rattle.std.specs.List.Sorted.{IsStrictlySortedBy}
use Rattle.std.specs.Option.{option_map}
use Rattle.std.specs.String.{string_cmp}
use Rattle.std.proofs.lemmas.Cmp.{nat_list_cmp_total}
use Rattle.path_pkg.proofs.LastLemmas.{put_found}
use Rattle.path_pkg.proofs.NodeLemmas.{texts_in_order}
use Rattle.path_pkg.specs.Written.{Entry, put}
use Rattle.path_pkg.specs.Windows.{local_of, pairs_of}

eq_bytes : (a : List ℕ) → bytes_eq a a ≡ true
eq_bytes a = (bytes_eq-Decides a a).1 refl

no_some : {X : Type 0} (x : X) → Some x ≡ None → ⊥
no_some x e = cc

-- what is found, as a text
pub found_pairs : {A B : Type 0} (es : List (String A × String B)) (k : List ℕ)
    → option_map string_bytes (lookup (λ x. is_eq (slice_cmp nat_cmp k (string_bytes x))) es) ≡ local_of
    (pairs_of es) k
found_pairs [] k = refl
found_pairs (e ∷ es) k = by_test (bytes_eq k (string_bytes e.0)) refl (found_pairs es k)
  where
    by_test : (b : Bool) → bytes_eq k (string_bytes e.0) ≡ b
        → option_map string_bytes (lookup (λ x. is_eq (slice_cmp nat_cmp k (string_bytes x))) es) ≡ local_of
        (pairs_of es) k
        → option_map string_bytes (lookup (λ x. is_eq (slice_cmp nat_cmp k (string_bytes x))) (e ∷ es))
        ≡ local_of (pairs_of (e ∷ es)) k
    by_test true h later = rw (is_eq-slice_cmp k (string_bytes e.0), h) refl
    by_test false h later = rw (is_eq-slice_cmp k (string_bytes e.0), h) later

-- an entry that was not there
pub undo_new : (es : List Entry) (k v : List ℕ) → local_of es k ≡ None → remove_entry (λ x. bytes_eq k x)
    (put es (k, v)) ≡ es
undo_new [] k v h = ap (λ b. cond b [] ((k, v) ∷ [])) (eq_bytes k)
undo_new (e ∷ es) k v h = by_order (slice_cmp nat_cmp k e.0) refl (bytes_eq k e.0) refl (undo_new es k v)
  where
    by_order : (o : Ordering) → slice_cmp nat_cmp k e.0 ≡ o → (b : Bool) → bytes_eq k e.0 ≡ b
        → (local_of es k ≡ None → remove_entry (λ x. bytes_eq k x) (put es (k, v)) ≡ es)
        → remove_entry (λ x. bytes_eq k x) (put (e ∷ es) (k, v)) ≡ e ∷ es
    by_order o ho true hb later =
        absurd (no_some e.1 (sym (ap (λ b. cond b (Some e.1) (lookup (λ x. bytes_eq k x) es)) hb) ∙ h))
    by_order Less ho false hb later =
        rw ho (ap (λ b. cond b (e ∷ es) ((k, v) ∷ remove_entry (λ x. bytes_eq k x) (e ∷ es))) (eq_bytes k))
    by_order Equal ho false hb later = let both : bytes_eq k e.0 ≡ true = sym (is_eq-slice_cmp k e.0)
        ∙ ap is_eq ho in absurd (cc)
    by_order Greater ho false hb later =
        let none : local_of es k ≡ None = sym (ap (λ b. cond b (Some e.1) (lookup (λ x. bytes_eq k x) es)) hb)
        ∙ h in
        rw (ho, hb) (ap (λ l. e ∷ l) (later none))

abbrev pub InOrder : List Entry → Type 0
InOrder es = IsStrictlySortedBy (slice_cmp nat_cmp) (map (λ e. e.0) es)

pub below_all : (k x : List ℕ) (ys : List (List ℕ)) → slice_cmp nat_cmp k x ≡ Less
    → AllByRecursion (λ y. slice_cmp nat_cmp x y ≡ Less) ys
    → AllByRecursion (λ y. slice_cmp nat_cmp k y ≡ Less) ys
below_all k x [] h all = tt
below_all k x (y ∷ ys) h all = (nat_list_cmp_total.trans k x y h all.0, below_all k x ys h all.1)

not_below : (k : List ℕ) (es : List Entry) → AllByRecursion (λ y. slice_cmp nat_cmp k y ≡ Less)
    (map (λ e. e.0) es) → local_of es k ≡ None
not_below k [] all = refl
not_below k (e ∷ es) all =
    let differ : bytes_eq k e.0 ≡ false = sym (is_eq-slice_cmp k e.0) ∙ ap is_eq all.0 in
    ap (λ b. cond b (Some e.1) (lookup (λ x. bytes_eq k x) es)) differ ∙ not_below k es all.1

-- an entry that was there
pub undo_old : (es : List Entry) (k v w : List ℕ) → InOrder es → local_of es k ≡ Some w
    → put (put es (k, v)) (k, w) ≡ es
unfolding IsStrictlySortedBy
undo_old [] k v w sorted h = absurd (no_some w (sym h))
undo_old (e ∷ es) k v w sorted h = by_order (slice_cmp nat_cmp k e.0) refl (λ g. undo_old es k v w sorted.1 g)
  where
    by_order : (o : Ordering) → slice_cmp nat_cmp k e.0 ≡ o
        → (local_of es k ≡ Some w → put (put es (k, v)) (k, w) ≡ es)
        → put (put (e ∷ es) (k, v)) (k, w) ≡ e ∷ es
    by_order Less ho later =
        let differ : bytes_eq k e.0 ≡ false = sym (is_eq-slice_cmp k e.0) ∙ ap is_eq ho in
        let none : local_of (e ∷ es) k ≡ None =
        ap (λ b. cond b (Some e.1) (lookup (λ x. bytes_eq k x) es)) differ
        ∙ not_below k es (below_all k e.0 (map (λ f. f.0) es) ho sorted.0) in
        absurd (no_some w (sym h ∙ none))
    by_order Equal ho later =
        let same : bytes_eq k e.0 ≡ true = sym (is_eq-slice_cmp k e.0) ∙ ap is_eq ho in
        let found : Some e.1 ≡ Some w = sym (ap (λ b. cond b (Some e.1) (lookup (λ x. bytes_eq k x) es)) same)
        ∙ h in
        let value : e.1 ≡ w = cc in
        rw ho (rw ho (ap (λ (x : List ℕ). (e.0, x) ∷ es) (sym value)))
    by_order Greater ho later =
        let differ : bytes_eq k e.0 ≡ false = sym (is_eq-slice_cmp k e.0) ∙ ap is_eq ho in
        let found : local_of es k ≡ Some w =
        sym (ap (λ b. cond b (Some e.1) (lookup (λ x. bytes_eq k x) es)) differ) ∙ h in
        rw ho (rw ho (ap (λ l. e ∷ l) (later found)))

pub keys_in_order : {A B : Type 0} (es : List (String A × String B)) → IsStrictlySortedBy string_cmp
    (map (λ e. e.0) es) → InOrder (pairs_of es)
keys_in_order es sorted = texts_in_order string_bytes es sorted

pub removed_pairs : {A B : Type 0} (es : List (String A × String B)) (k : List ℕ)
    → pairs_of (remove_entry (λ x. is_eq (slice_cmp nat_cmp k (string_bytes x))) es) ≡ remove_entry
    (λ x. bytes_eq k x) (pairs_of es)
removed_pairs [] k = refl
removed_pairs (e ∷ es) k = by_test (bytes_eq k (string_bytes e.0)) refl (removed_pairs es k)
  where
    by_test : (b : Bool) → bytes_eq k (string_bytes e.0) ≡ b
        → pairs_of (remove_entry (λ x. is_eq (slice_cmp nat_cmp k (string_bytes x))) es) ≡ remove_entry
        (λ x. bytes_eq k x) (pairs_of es)
        → pairs_of (remove_entry (λ x. is_eq (slice_cmp nat_cmp k (string_bytes x))) (e ∷ es)) ≡ remove_entry
        (λ x. bytes_eq k x) (pairs_of (e ∷ es))
    by_test true h later = rw (is_eq-slice_cmp k (string_bytes e.0), h) refl
    by_test false h later = rw (is_eq-slice_cmp k (string_bytes e.0), h)
        (ap (λ l. (string_bytes e.0, string_bytes e.1) ∷ l) later)

pub must_be_ok : {T E : Type 0} (r : Result T E) (P Q : Type 0) → OnOk r P → OnErr r Q → (Q → ⊥) → P
must_be_ok (Ok x) P Q p q never = p
must_be_ok (Err e) P Q p q never = absurd (never q)

-- a path that was put in is there
pub put_there : {A B : Type 0} (es : List (String A × String B)) (before : List Entry) (k v : List ℕ)
    → pairs_of es ≡ put before (k, v) → lookup (λ x. is_eq (slice_cmp nat_cmp k (string_bytes x))) es ≡ None
    → ⊥
put_there es before k v is none =
    no_some v (sym (found_pairs es k ∙ ap (λ l. local_of l k) is ∙ put_found before k k v
    ∙ ap (λ b. cond b (Some v) (lookup (λ x. bytes_eq k x) before)) (eq_bytes k))
    ∙ ap (option_map string_bytes) none)
