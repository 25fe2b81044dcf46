-- A package is written in order.
use Rattle.std.proofs.Common.{◌≡◌, ℕ, ◌<◌, ◌≤◌, ◌^◌, List, [], ◌∷◌, ◌++◌, length, map, Bool, true, ◌||◌, ◌&&◌}
use Rattle.std.proofs.Common.{◌==◌, nat_lt, refl, ap, ◌∙◌, arith}
use Rattle.std.specs.List.{AllByRecursion}
use Rattle.std.specs.List.Sorted.{IsStrictlySortedBy}
use Rattle.std.specs.BTreeMap.{insert_entry}
use Rattle.std.specs.Cmp.Lexicographic.{slice_cmp}
use Rattle.std.specs.Ordering.{nat_cmp, is_lt, ordering_reverse}
use Rattle.std.specs.declared.cmp.Ordering.{Ordering}
use Rattle.std.specs.declared.cmp.Ordering.TheVariants.{Less, Equal, Greater}
use Rattle.std.proofs.lemmas.Bool.Decides.{nat_tests}
use Rattle.std.proofs.lemmas.Cmp.{nat_list_cmp_total}
use Rattle.std.specs.List.{filter_map}
use Rattle.path_pkg.specs.Told.{Nodes}
use Rattle.path_pkg.specs.Framed.{Frame, FrameFits, FramesFit, frame_rank, frame_path, stands_before}
use Rattle.path_pkg.specs.Framed.{IsInOrder, IsFramedList}
use Rattle.path_pkg.specs.Records.{RecordsFit}
use Rattle.path_pkg.specs.Written.{Entry, put, put_all, in_rank, sorted, frame_at, content_in, frames}
use Rattle.path_pkg.specs.Written.{pieces, up_to_gone, AreThere}
use Rattle.path_pkg.proofs.GroupLemmas.{all_pieces}
use Rattle.path_pkg.specs.Written.{EntriesFit}
use Rattle.path_pkg.specs.declared.record.Record.{Record}
use Rattle.path_pkg.proofs.RestoreLemmas.{InOrder, below_all}
use Rattle.path_pkg.proofs.FitLemmas.{sorted_fits}

-- putting an entry in keeps the order
all_put : (P : List ℕ → Type 0) (es : List Entry) (k v : List ℕ) → AllByRecursion P (map (λ e. e.0) es) → P k
    → AllByRecursion P (map (λ e. e.0) (insert_entry (slice_cmp nat_cmp) es k v))
all_put P [] k v all here = (here, tt)
all_put P (e ∷ es) k v all here = by_order (slice_cmp nat_cmp k e.0) refl (all_put P es k v all.1 here)
  where
    by_order : (o : Ordering) → slice_cmp nat_cmp k e.0 ≡ o
        → AllByRecursion P (map (λ e. e.0) (insert_entry (slice_cmp nat_cmp) es k v))
        → AllByRecursion P (map (λ e. e.0) (insert_entry (slice_cmp nat_cmp) (e ∷ es) k v))
    by_order Less h later = rw h (here, all)
    by_order Equal h later = rw h all
    by_order Greater h later = rw h (all.0, later)

put_sorted : (es : List Entry) (k v : List ℕ) → InOrder es → InOrder (insert_entry (slice_cmp nat_cmp) es k v)
unfolding IsStrictlySortedBy
put_sorted [] k v order = (tt, tt)
put_sorted (e ∷ es) k v order = by_order (slice_cmp nat_cmp k e.0) refl (put_sorted es k v order.1)
  where
    by_order : (o : Ordering) → slice_cmp nat_cmp k e.0 ≡ o
        → InOrder (insert_entry (slice_cmp nat_cmp) es k v)
        → InOrder (insert_entry (slice_cmp nat_cmp) (e ∷ es) k v)
    by_order Less h later = rw h ((h, below_all k e.0 (map (λ f. f.0) es) h order.0), order)
    by_order Equal h later = rw h order
    by_order Greater h later =
        let above : slice_cmp nat_cmp e.0 k ≡ Less = nat_list_cmp_total.antisymm e.0 k ∙ ap ordering_reverse h
        in
        rw h (all_put (λ y. slice_cmp nat_cmp e.0 y ≡ Less) es k v order.0 above, later)

put_all_sorted : (es fs : List Entry) → InOrder es → InOrder (put_all es fs)
put_all_sorted es [] order = order
put_all_sorted es (f ∷ fs) order = put_all_sorted (put es f) fs (put_sorted es f.0 f.1 order)

pub sorted_in_order : (rank : ℕ) (records : List Record) → InOrder (sorted rank records)
unfolding IsStrictlySortedBy sorted
sorted_in_order rank records = put_all_sorted [] (filter_map (in_rank rank) records) tt

same_rank : (r : ℕ) (b : Bool) → b ≡ true → (nat_lt r r || (r == r && b)) ≡ true
same_rank r b h = grind (arith, nat_tests)

before_same : (f g : Frame) (r : ℕ) → frame_rank f ≡ r → frame_rank g ≡ r → slice_cmp nat_cmp (frame_path f)
    (frame_path g) ≡ Less → stands_before f g ≡ true
before_same f g r ef eg less =
    rw (ef, eg) (same_rank r (is_lt (slice_cmp nat_cmp (frame_path f) (frame_path g))) (ap is_lt less))

lower_rank : (r s : ℕ) (b : Bool) → r < s → (nat_lt r s || (r == s && b)) ≡ true
lower_rank r s b h = grind (arith, nat_tests)

abbrev HeadAbove : ℕ → List Frame → Type 0
HeadAbove r [] = Unit {0}
HeadAbove r (g ∷ gs) = r < frame_rank g

-- the records of one kind, and records of later kinds behind them
in_order_with : (make : Entry → Frame) (r : ℕ) → ((e : Entry) → frame_rank (make e) ≡ r)
    → ((e : Entry) → frame_path (make e) ≡ e.0)
    → (es : List Entry) (rest : List Frame) → InOrder es → IsInOrder rest → HeadAbove r rest
    → IsInOrder (map make es ++ rest)
unfolding IsStrictlySortedBy
in_order_with make r ranks paths [] rest order later above = later
in_order_with make r ranks paths (e ∷ []) [] order later above = tt
in_order_with make r ranks paths (e ∷ []) (g ∷ gs) order later above = (
  lower_rank (frame_rank (make e)) (frame_rank g)
      (is_lt (slice_cmp nat_cmp (frame_path (make e)) (frame_path g))) (rw (ranks e) above),
  later,
)
in_order_with make r ranks paths (e ∷ f ∷ fs) rest order later above = (
  before_same (make e) (make f) r (ranks e) (ranks f) (rw (paths e, paths f) order.0.0),
  in_order_with make r ranks paths (f ∷ fs) rest order.1 later above,
)

in_order_last : (make : Entry → Frame) (r : ℕ) → ((e : Entry) → frame_rank (make e) ≡ r)
    → ((e : Entry) → frame_path (make e) ≡ e.0)
    → (es : List Entry) → InOrder es → IsInOrder (map make es)
unfolding IsStrictlySortedBy
in_order_last make r ranks paths [] order = tt
in_order_last make r ranks paths (e ∷ []) order = tt
in_order_last make r ranks paths (e ∷ f ∷ fs) order = (
  before_same (make e) (make f) r (ranks e) (ranks f) (rw (paths e, paths f) order.0.0),
  in_order_last make r ranks paths (f ∷ fs) order.1,
)

links_above : (t : Nodes) (r : ℕ) (links : List Entry) → r < 2 → HeadAbove r (map (frame_at t 2) links)
links_above t r [] h = tt
links_above t r (e ∷ es) h = h

files_above : (t : Nodes) (files links : List Entry)
    → HeadAbove 0 (map (frame_at t 1) files ++ map (frame_at t 2) links)
files_above t [] links = links_above t 0 links (omega arith)
files_above t (e ∷ es) links = omega arith

pub frames_in_order : (t : Nodes) (records : List Record) → IsInOrder (frames t records)
frames_in_order t records =
    let links : IsInOrder (map (frame_at t 2) (sorted 2 records)) = in_order_last (frame_at t 2) 2 (λ e. refl)
    (λ e. refl) (sorted 2 records) (sorted_in_order 2 records) in
    let files : IsInOrder (map (frame_at t 1) (sorted 1 records) ++ map (frame_at t 2) (sorted 2 records)) =
    in_order_with (frame_at t 1) 1 (λ e. refl) (λ e. refl) (sorted 1 records)
    (map (frame_at t 2) (sorted 2 records)) (sorted_in_order 1 records) links
    (links_above t 1 (sorted 2 records) (omega arith)) in
    in_order_with (frame_at t 0) 0 (λ e. refl) (λ e. refl) (sorted 0 records) _
    (sorted_in_order 0 records) files (files_above t (sorted 1 records) (sorted 2 records))

fits_with : (make : Entry → Frame)
    → ((e : Entry) → length e.0 ≤ 65535 → length e.1 ≤ 65535 → FrameFits (make e))
    → (es : List Entry) (rest : List Frame) → EntriesFit es → FramesFit rest → FramesFit (map make es ++ rest)
fits_with make each [] rest fit later = later
fits_with make each (e ∷ es) rest fit later = (each e fit.0 fit.1, fits_with make each es rest fit.2 later)

fits_last : (make : Entry → Frame)
    → ((e : Entry) → length e.0 ≤ 65535 → length e.1 ≤ 65535 → FrameFits (make e)) → (es : List Entry)
    → EntriesFit es → FramesFit (map make es)
fits_last make each [] fit = tt
fits_last make each (e ∷ es) fit = (each e fit.0 fit.1, fits_last make each es fit.2)

pub frames_fit : (t : Nodes) (records : List Record) → RecordsFit records
    → ((path : List ℕ) → length (content_in t path) < 2 ^ 64) → FramesFit (frames t records)
frames_fit t records fit contents =
    fits_with (frame_at t 0) (λ e hp ht. omega arith) (sorted 0 records) _ (sorted_fits 0 records fit)
    (fits_with (frame_at t 1) (λ e hp ht. (omega arith, contents e.0)) (sorted 1 records) _
    (sorted_fits 1 records fit)
    (fits_last (frame_at t 2) (λ e hp ht. (omega arith, omega arith)) (sorted 2 records)
    (sorted_fits 2 records fit)))

pub package_is_framed : (t : Nodes) (records : List Record) → RecordsFit records
    → ((path : List ℕ) → length (content_in t path) < 2 ^ 64) → AreThere (pieces t records)
    → IsFramedList (up_to_gone (pieces t records)) (frames t records)
package_is_framed t records fit contents there = record {
  in_order = frames_in_order t records;
  fit = frames_fit t records fit contents;
  written = all_pieces t records there;
}
