-- Entries that go, and what stays behind them.
use Rattle.std.proofs.Common.{◌≡◌, ℕ, Bool, true, false, cond, not, nat_le, List, [], ◌∷◌, ◌++◌}
use Rattle.std.proofs.Common.{is_some, Some, refl, sym, ap, subst, ◌∙◌, true≢false}
use Rattle.std.specs.List.{AllByRecursion, IsDistinct}
use Rattle.std.specs.Map.{keys_of, lookup, lookup_entry, remove_entry}
use Rattle.std.specs.Str.{bytes_eq}
use Rattle.std.proofs.lemmas.Slice.Eq.{bytes_eq-Decides}
use Rattle.folders.specs.Files.{Files, file_at, without}
use Rattle.listed_files.specs.Entries.{Entries, total, trim}
use Rattle.listed_files.specs.Disk.{Avoids, dropped, without_each, without_key}
use Rattle.listed_files.proofs.Listings.{but_key, out_kept, out_gone, none_out}
use Rattle.folders.proofs.Lookups.{itself, without_other}

abbrev pub but_each : Entries → Entries → Entries
but_each [] es = es
but_each (g ∷ gone) es = but_each gone (but_key g.0 es)

pub but_commute : (a b : List ℕ) (es : Entries) → but_key a (but_key b es) ≡ but_key b (but_key a es)
but_commute a b [] = refl
but_commute a b (e ∷ es) = by (bytes_eq a e.0) (bytes_eq b e.0) refl refl (but_commute a b es)
  where
    by : (x y : Bool) → bytes_eq a e.0 ≡ x → bytes_eq b e.0 ≡ y → but_key a (but_key b es) ≡ but_key b
        (but_key a es)
        → but_key a (cond (not y) (e ∷ but_key b es) (but_key b es)) ≡ but_key b
        (cond (not x) (e ∷ but_key a es) (but_key a es))
    by true true p q rest = rest
    by true false p q rest = out_gone a e (but_key b es) p ∙ rest
    by false true p q rest = rest ∙ sym (out_gone b e (but_key a es) q)
    by false false p q rest =
        out_kept a e (but_key b es) p ∙ (ap (λ l. e ∷ l) rest ∙ sym (out_kept b e (but_key a es) q))

pub but_each_later : (a : List ℕ) (gone es : Entries) → but_key a (but_each gone es) ≡ but_each gone
    (but_key a es)
but_each_later a [] es = refl
but_each_later a (g ∷ gone) es = but_each_later a gone (but_key g.0 es)
    ∙ ap (but_each gone) (but_commute a g.0 es)

-- of archives whose ids differ taking out one by its id is taking out all of that id
pub out_once : (id : List ℕ) (es : Entries) → IsDistinct bytes_eq (keys_of es)
    → remove_entry (bytes_eq id) es ≡ but_key id es
unfolding IsDistinct
out_once id [] h = refl
out_once id (e ∷ es) h = by (bytes_eq id e.0) refl (out_once id es h.1)
  where
    by : (b : Bool) → bytes_eq id e.0 ≡ b → remove_entry (bytes_eq id) es ≡ but_key id es
        → cond b es (e ∷ remove_entry (bytes_eq id) es) ≡ cond (not b) (e ∷ but_key id es) (but_key id es)
    by true same rest =
        let P : List ℕ → Type 0 = λ k. AllByRecursion (λ q. bytes_eq k q ≡ false) (keys_of es) in
        sym (none_out id es (subst P (sym ((bytes_eq-Decides id e.0).0 same)) h.0))
    by false other rest = ap (λ l. e ∷ l) rest

-- those of a front that go leave the rest
pub front_out : (gone rest : Entries) → IsDistinct bytes_eq (keys_of (gone ++ rest))
    → but_each gone (gone ++ rest) ≡ rest
unfolding IsDistinct
front_out [] rest h = refl
front_out (g ∷ gone) rest h =
    ap (but_each gone) (out_gone g.0 g (gone ++ rest) (itself g.0) ∙ none_out g.0 (gone ++ rest) h.0)
    ∙ front_out gone rest h.1

pub dropped_and_rest : (limit : ℕ) (es : Entries) → es ≡ dropped limit es ++ trim limit es
dropped_and_rest limit [] = refl
dropped_and_rest limit (e ∷ es) = by (nat_le (total (e ∷ es)) limit) (dropped_and_rest limit es)
  where
    by : (b : Bool) → es ≡ dropped limit es ++ trim limit es
        → e ∷ es ≡ cond b [] (e ∷ dropped limit es) ++ cond b (e ∷ es) (trim limit es)
    by true rest = refl
    by false rest = ap (λ l. e ∷ l) rest

pub distinct_out : (test : List ℕ → Bool) (es : Entries) → IsDistinct bytes_eq (keys_of es)
    → IsDistinct bytes_eq (keys_of (remove_entry test es))
unfolding IsDistinct
distinct_out test [] h = tt
distinct_out test (e ∷ es) h =
    elim (test e.0) as (λ b. IsDistinct bytes_eq (keys_of (cond b es (e ∷ remove_entry test es)))) [
      | true ↦ h.1
      | false ↦ (
        others_out (λ q. bytes_eq e.0 q ≡ false) test es h.0,
        distinct_out test es h.1,
      )
    ]
  where
    others_out : (P : List ℕ → Type 0) (test : List ℕ → Bool) (es : Entries) → AllByRecursion P (keys_of es)
        → AllByRecursion P (keys_of (remove_entry test es))
    others_out P test [] h = tt
    others_out P test (e ∷ es) h =
        elim (test e.0) as (λ b. AllByRecursion P (keys_of (cond b es (e ∷ remove_entry test es))))
        [ true ↦ h.1 | false ↦ (h.0, others_out P test es h.1) ]

-- of what stays where a key is stored nothing goes
pub rest_out : (id : List ℕ) (limit : ℕ) (es : Entries) → IsDistinct bytes_eq (keys_of es)
    → but_each (dropped limit (without_key id es)) (but_key id es) ≡ trim limit (without_key id es)
rest_out id limit es distinct =
    ap (but_each (dropped limit (without_key id es)))
    (sym (out_once id es distinct) ∙ dropped_and_rest limit (without_key id es))
    ∙ front_out (dropped limit (without_key id es)) (trim limit (without_key id es))
    (subst (λ l. IsDistinct bytes_eq (keys_of l)) (dropped_and_rest limit (without_key id es))
    (distinct_out (bytes_eq id) es distinct))

pub there_still : (root temp bytes : List ℕ) (gone : Entries) (fs : Files) → Avoids root temp gone
    → file_at fs temp ≡ Some bytes → file_at (without_each root gone fs) temp ≡ Some bytes
there_still root temp bytes [] fs avoids is = is
there_still root temp bytes (g ∷ gone) fs avoids is =
    there_still root temp bytes gone (without (root ++ g.0) fs) avoids.1
    (without_other (root ++ g.0) temp fs avoids.0 ∙ is)

-- once one is looked up
pub found_entry : (id : List ℕ) (n : ℕ) (es : Entries) → lookup (bytes_eq id) es ≡ Some n
    → lookup_entry (bytes_eq id) es ≡ Some (id, n)
found_entry id n [] found = absurd (true≢false (sym (ap is_some found)))
found_entry id n (e ∷ es) found = by (bytes_eq id e.0) refl found (found_entry id n es)
  where
    by : (b : Bool) → bytes_eq id e.0 ≡ b → cond b (Some e.1) (lookup (bytes_eq id) es) ≡ Some n
        → (lookup (bytes_eq id) es ≡ Some n → lookup_entry (bytes_eq id) es ≡ Some (id, n))
        → cond b (Some e) (lookup_entry (bytes_eq id) es) ≡ Some (id, n)
    by true same found rest =
        let size : e.1 ≡ n = cc in
        λ i. Some (sym ((bytes_eq-Decides id e.0).0 same) i, size i)
    by false other found rest = rest found
