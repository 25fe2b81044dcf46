-- The path that was mapped last to a text is the one that is given for it.
use Rattle.std.proofs.Common.{◌≡◌, ℕ, List, [], ◌∷◌, Bool, true, false, cond, Option, Some, None, refl, sym}
use Rattle.std.proofs.Common.{ap, ◌∙◌, if◌then◌else◌}
use Rattle.std.specs.Map.{lookup}
use Rattle.std.specs.BTreeMap.{insert_entry}
use Rattle.std.specs.Cmp.Lexicographic.{slice_cmp}
use Rattle.std.specs.Ordering.{is_eq, nat_cmp}
use Rattle.std.specs.Str.{bytes_eq}
use Rattle.std.specs.declared.cmp.Ordering.{Ordering}
use Rattle.std.specs.declared.cmp.Ordering.TheVariants.{Less, Equal, Greater}
use Rattle.std.proofs.lemmas.Slice.Eq.{bytes_eq-Decides}
use Rattle.std.proofs.lemmas.Map.Text.{is_eq-slice_cmp}
use Rattle.path_pkg.specs.Written.{Entry}
use Rattle.path_pkg.specs.Windows.{mapped_with, mapped_all, local_of, is_sent_as, last_sent_as}

same_bytes : (a b : List ℕ) → bytes_eq a b ≡ true → a ≡ b
same_bytes a b h = (bytes_eq-Decides a b).0 h

eq_bytes : (a : List ℕ) → bytes_eq a a ≡ true
eq_bytes a = (bytes_eq-Decides a a).1 refl

-- where two keys differ, no text is both
apart : {X : Type 0} (d t k : List ℕ) (p v : X) (rest : Option X) → bytes_eq t k ≡ false
    → cond (bytes_eq d k) (Some v) (cond (bytes_eq d t) (Some p) rest) ≡ cond (bytes_eq d t) (Some p)
    (cond (bytes_eq d k) (Some v) rest)
apart d t k p v rest differ = by_tests (bytes_eq d k) (bytes_eq d t) refl refl
  where
    by_tests : (a b : Bool) → bytes_eq d k ≡ a → bytes_eq d t ≡ b
        → cond (bytes_eq d k) (Some v) (cond (bytes_eq d t) (Some p) rest) ≡ cond (bytes_eq d t) (Some p)
        (cond (bytes_eq d k) (Some v) rest)
    by_tests true true ek et =
        let e : t ≡ k = sym (same_bytes d t et) ∙ same_bytes d k ek in
        let yes : bytes_eq t k ≡ true = ap (bytes_eq t) (sym e) ∙ eq_bytes t in
        absurd (cc)
    by_tests true false ek et = rw (ek, et) refl
    by_tests false true ek et = rw (ek, et) refl
    by_tests false false ek et = rw (ek, et) refl

pub put_found : (es : List Entry) (d t p : List ℕ)
    → lookup (λ k. bytes_eq d k) (insert_entry (slice_cmp nat_cmp) es t p) ≡ cond (bytes_eq d t) (Some p)
    (lookup (λ k. bytes_eq d k) es)
put_found [] d t p = refl
put_found (e ∷ es) d t p = by_order (slice_cmp nat_cmp t e.0) refl (put_found es d t p)
  where
    by_order : (o : Ordering) → slice_cmp nat_cmp t e.0 ≡ o
        → lookup (λ k. bytes_eq d k) (insert_entry (slice_cmp nat_cmp) es t p) ≡ cond (bytes_eq d t) (Some p)
        (lookup (λ k. bytes_eq d k) es)
        → lookup (λ k. bytes_eq d k) (insert_entry (slice_cmp nat_cmp) (e ∷ es) t p) ≡ cond (bytes_eq d t)
        (Some p) (lookup (λ k. bytes_eq d k) (e ∷ es))
    by_order Less h later = rw h refl
    by_order Equal h later =
        let same : t ≡ e.0 = same_bytes t e.0 (sym (is_eq-slice_cmp t e.0) ∙ ap is_eq h) in
        rw h (replaced (bytes_eq d t) (bytes_eq d e.0) (ap (bytes_eq d) same) p e.1
        (lookup (λ k. bytes_eq d k) es))
      where
        replaced : (a b : Bool) → a ≡ b → (x y : List ℕ) (rest : Option (List ℕ))
            → cond b (Some x) rest ≡ cond a (Some x) (cond b (Some y) rest)
        replaced true true h x y rest = refl
        replaced false false h x y rest = refl
        replaced true false h x y rest = absurd (cc)
        replaced false true h x y rest = absurd (cc)
    by_order Greater h later =
        let differ : bytes_eq t e.0 ≡ false = sym (is_eq-slice_cmp t e.0) ∙ ap is_eq h in
        rw h (ap (λ r. cond (bytes_eq d e.0) (Some e.1) r) later
        ∙ apart d t e.0 p e.1 (lookup (λ k. bytes_eq d k) es) differ)

one_more : (mapped : List Entry) (text path : List ℕ) (sent : Option (List ℕ))
    → local_of (mapped_with mapped path sent) text ≡ (if is_sent_as text sent then Some path
    else local_of mapped text)
one_more mapped text path None = refl
one_more mapped text path (Some t) = put_found mapped text t path

all_from : (mapped : List Entry) (text : List ℕ) (ms : List (List ℕ × Option (List ℕ)))
    → local_of (mapped_all mapped ms) text ≡ last_sent_as text (local_of mapped text) ms
all_from mapped text [] = refl
all_from mapped text (m ∷ ms) =
    all_from (mapped_with mapped m.0 m.1) text ms ∙ ap (λ b. last_sent_as text b ms)
    (one_more mapped text m.0 m.1)

pub last_given : (ms : List (List ℕ × Option (List ℕ))) (text : List ℕ)
    → local_of (mapped_all [] ms) text ≡ last_sent_as text None ms
last_given ms text = all_from [] text ms
