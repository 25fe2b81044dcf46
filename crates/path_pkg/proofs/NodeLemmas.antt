-- Looking up in a map of nodes.
use Rattle.std.proofs.Common.{◌≡◌, ℕ, List, [], ◌∷◌, map, Bool, cond, Some, String}
use Rattle.std.proofs.Common.{string_bytes, refl, sym, ap, subst, ◌∙◌}
use Rattle.std.specs.Map.{lookup}
use Rattle.std.specs.Cmp.Lexicographic.{slice_cmp}
use Rattle.std.specs.Ordering.{is_eq, nat_cmp}
use Rattle.std.specs.declared.cmp.Ordering.TheVariants.{Less}
use Rattle.std.specs.List.{AllByRecursion}
use Rattle.std.specs.List.Sorted.{IsStrictlySortedBy}
use Rattle.std.specs.String.{string_cmp}
use Rattle.std.specs.Str.{bytes_eq}
use Rattle.std.proofs.lemmas.Map.Text.{is_eq-slice_cmp}
use Rattle.path_pkg.specs.Told.{IsInByteOrder}
use Rattle.path_pkg.specs.Tree.{node_at}
use Rattle.path_pkg.specs.MapNodes.{nodes_of}
use Rattle.path_pkg.specs.declared.node.Node.{Node}

pub text_found : {A X : Type 0} (path : List ℕ) (es : List (String A × X))
    → lookup (λ k. is_eq (slice_cmp nat_cmp path (string_bytes k))) es ≡ lookup (λ p. bytes_eq path p)
    (map (λ e. (string_bytes e.0, e.1)) es)
text_found path [] = refl
text_found path (e ∷ es) =
    ap (λ b. cond b (Some e.1) (lookup (λ k. is_eq (slice_cmp nat_cmp path (string_bytes k))) es))
    (is_eq-slice_cmp path (string_bytes e.0))
    ∙ ap (λ r. cond (bytes_eq path (string_bytes e.0)) (Some e.1) r) (text_found path es)

pub node_found : {A : Type 0} (path : List ℕ) (es : List (String A × Node))
    → lookup (λ k. is_eq (slice_cmp nat_cmp path (string_bytes k))) es ≡ node_at (nodes_of es) path
node_found path es = text_found path es

heads : {A X Y : Type 0} (f : X → Y) (k : String A) (es : List (String A × X))
    → AllByRecursion (λ y. string_cmp k y ≡ Less) (map (λ (e : String A × X). e.0) es)
    → AllByRecursion (λ y. slice_cmp nat_cmp (string_bytes k) y ≡ Less)
    (map (λ (e : List ℕ × Y). e.0) (map (λ (e : String A × X). (string_bytes e.0, f e.1)) es))
heads f k [] all = tt
heads f k (e ∷ es) all = (all.0, heads f k es all.1)

-- keys in order are texts in order
pub texts_in_order : {A X Y : Type 0} (f : X → Y) (es : List (String A × X)) → IsStrictlySortedBy string_cmp
    (map (λ (e : String A × X). e.0) es)
    → IsStrictlySortedBy (slice_cmp nat_cmp)
    (map (λ (e : List ℕ × Y). e.0) (map (λ (e : String A × X). (string_bytes e.0, f e.1)) es))
unfolding IsStrictlySortedBy
texts_in_order f [] sorted = tt
texts_in_order f (e ∷ es) sorted = (heads f e.0 es sorted.0, texts_in_order f es sorted.1)
