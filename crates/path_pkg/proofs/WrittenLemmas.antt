-- Writing one piece after another, and putting one entry after another.
use Rattle.std.proofs.Common.{◌≡◌, ℕ, ◌+◌, ◌≤◌, List, [], ◌∷◌, ◌++◌, length, take, min, String, string_bytes}
use Rattle.std.proofs.Common.{Option, Result, Ok, Err, refl, ap, arith}
use Rattle.std.specs.BTreeMap.{insert_entry}
use Rattle.std.specs.Cmp.Lexicographic.{slice_cmp}
use Rattle.std.specs.Ordering.{nat_cmp}
use Rattle.std.specs.String.{string_cmp}
use Rattle.std.specs.declared.cmp.Ordering.{Ordering}
use Rattle.std.specs.declared.cmp.Ordering.TheVariants.{Less, Equal, Greater}
use Rattle.std.proofs.Math.Seq.{take-append-add}
use Rattle.std.proofs.lemmas.List.{take-append-le, take_min}
use Rattle.dist_types.specs.Content.{Added, Began}
use Rattle.dist_types.proofs.Contents.{added_then, added_none}
use Rattle.path_pkg.specs.Windows.{pairs_of}
use Rattle.path_pkg.specs.Told.{Told, Refused, TreeCause}
use Rattle.path_pkg.specs.Fault.{pack_error}
use Rattle.path_pkg.specs.declared.fault.TreeFault.{TreeFault}
use Rattle.path_pkg.specs.declared.fault.TreeFault.TheVariants.{Failed, NotUtf8, Memory}
use Rattle.path_pkg.specs.Written.{texts_of, put, Puts, WriteCause}
use Rattle.path_pkg.specs.declared.fault.PackError.{PackError}

-- a front of the first piece is a front of both
pub began_front : (a b : List ℕ) (o p : Option (List ℕ)) → Began a o p → Began (a ++ b) o p
began_front a b o p h =
    let n : ℕ = min h.0 (length a) in
    let short : take n (a ++ b) ≡ take n a = take-append-le n a b (omega arith) in
    (n, rw (short, take_min h.0 a) h.1)

-- all of the first piece and a front of the second
pub began_after : (a b : List ℕ) (o p q : Option (List ℕ)) → Added a o p → Began b p q → Began (a ++ b) o q
began_after a b o p q h k =
    (length a + k.0, rw (take-append-add a b k.0) (added_then a (take k.0 b) o p q h k.1))

-- nothing of it
pub began_none : (a : List ℕ) (o : Option (List ℕ)) → Began a o o
began_none a o = (0, added_none o)

-- one piece after another
pub puts_then : {T : Type 0} (r : Result T PackError) (a b : List ℕ) (o p q : Option (List ℕ)) → Added a o p
    → Puts r b p q → Puts r (a ++ b) o q
puts_then (Ok x) a b o p q h k = added_then a b o p q h k
puts_then (Err e) a b o p q h k = began_after a b o p q h k

pub put_view : {A : Type 0} (es : List (String A × List ℕ)) (k : String A) (v : List ℕ)
    → texts_of (insert_entry string_cmp es k v) ≡ put (texts_of es) (string_bytes k, v)
put_view [] k v = refl
put_view (e ∷ es) k v = by_order (slice_cmp nat_cmp (string_bytes k) (string_bytes e.0)) refl
    (put_view es k v)
  where
    by_order : (o : Ordering) → slice_cmp nat_cmp (string_bytes k) (string_bytes e.0) ≡ o
        → texts_of (insert_entry string_cmp es k v) ≡ put (texts_of es) (string_bytes k, v)
        → texts_of (insert_entry string_cmp (e ∷ es) k v) ≡ put (texts_of (e ∷ es)) (string_bytes k, v)
    by_order Less h later = rw h refl
    by_order Equal h later = rw h refl
    by_order Greater h later = rw h (ap (λ l. (string_bytes e.0, e.1) ∷ l) later)

-- what neither asks the tree nor writes leaves both as they were
pub unwritten : (e : PackError) (told : Told) (f f2 : ℕ) → f ≤ f2 → WriteCause e f f2 told told
    → Refused (WriteCause e f f2) told told × (f ≤ f2)
unwritten e told f f2 le h =
    (record { nodes = refl; faults = omega arith; misnamed = omega arith; caused = h }, le)

-- a refusal of the tree, before anything was written
pub unread : (f : TreeFault) (old new : Told) (n : ℕ) → Refused (TreeCause f) old new
    → Refused (WriteCause (pack_error f) n n) old new × (n ≤ n)
unread Failed old new n h = (
  record {
    nodes = h.nodes;
    faults = h.faults;
    misnamed = h.misnamed;
    caused = (h.caused.0, h.caused.1, refl);
  },
  omega arith,
)
unread NotUtf8 old new n h = (
  record {
    nodes = h.nodes;
    faults = h.faults;
    misnamed = h.misnamed;
    caused = (h.caused.0, h.caused.1, refl);
  },
  omega arith,
)
unread Memory old new n h = (
  record { nodes = h.nodes; faults = h.faults; misnamed = h.misnamed; caused = (h.caused, refl) },
  omega arith,
)

-- the same for a map from texts to texts
pub put_pairs : {A B : Type 0} (es : List (String A × String B)) (k : String A) (v : String B)
    → pairs_of (insert_entry string_cmp es k v) ≡ put (pairs_of es) (string_bytes k, string_bytes v)
put_pairs [] k v = refl
put_pairs (e ∷ es) k v = by_order (slice_cmp nat_cmp (string_bytes k) (string_bytes e.0)) refl
    (put_pairs es k v)
  where
    by_order : (o : Ordering) → slice_cmp nat_cmp (string_bytes k) (string_bytes e.0) ≡ o
        → pairs_of (insert_entry string_cmp es k v) ≡ put (pairs_of es) (string_bytes k, string_bytes v)
        → pairs_of (insert_entry string_cmp (e ∷ es) k v) ≡ put (pairs_of (e ∷ es))
        (string_bytes k, string_bytes v)
    by_order Less h later = rw h refl
    by_order Equal h later = rw h refl
    by_order Greater h later = rw h (ap (λ l. (string_bytes e.0, string_bytes e.1) ∷ l) later)
