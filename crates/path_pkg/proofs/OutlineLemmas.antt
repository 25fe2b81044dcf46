-- Writing a package over any tree.
use Rattle.std.proofs.Common.{◌≡◌, ℕ, List, [], ◌∷◌, ◌++◌, map, ◌==◌, Bool, true, false, Option, Result, Ok}
use Rattle.std.proofs.Common.{Err, refl, sym, ap, ◌∙◌, append_assoc, subst, arith}
use Rattle.std.proofs.lemmas.Bool.Decides.{nat_tests}
use Rattle.std.specs.List.{flat_map}
use Rattle.std.proofs.lemmas.Grind.{flat_map-append}
use Rattle.std.proofs.lemmas.List.{append-nil, map-append}
use Rattle.dist_types.specs.Content.{Added, Began}
use Rattle.dist_types.proofs.Contents.{added_then}
use Rattle.path_pkg.specs.Framed.{Frame, frame_bytes, spelled}
use Rattle.path_pkg.specs.Framed.Frame.{DirFrame, FileFrame, LinkFrame}
use Rattle.path_pkg.specs.Written.{Entry, sorted, Puts}
use Rattle.path_pkg.specs.Outline.{outline, record_at, written_order, PutsFrames, PutsPackage}
use Rattle.path_pkg.specs.declared.record.Record.{Record}
use Rattle.path_pkg.specs.declared.record.Record.TheVariants.{Dir, File, Link}
use Rattle.path_pkg.specs.declared.fault.PackError.{PackError}
use Rattle.path_pkg.proofs.WrittenLemmas.{began_front, began_after, began_none, puts_then}
use Rattle.path_pkg.proofs.GroupLemmas.{puts_same}

-- the frame of a record, with no content
abbrev bare : Record → Frame
bare (Dir path) = DirFrame path
bare (File path) = FileFrame path []
bare (Link path target) = LinkFrame path target

bare_outlines : (rs : List Record) → map outline (map bare rs) ≡ rs
bare_outlines [] = refl
bare_outlines (Dir path ∷ rs) = ap (λ l. Dir path ∷ l) (bare_outlines rs)
bare_outlines (File path ∷ rs) = ap (λ l. File path ∷ l) (bare_outlines rs)
bare_outlines (Link path target ∷ rs) = ap (λ l. Link path target ∷ l) (bare_outlines rs)

-- nothing was written yet
pub no_frames : {T : Type 0} (e : PackError) (rs : List Record) (o : Option (List ℕ))
    → PutsFrames {T = T} (Err e) rs o o
no_frames e rs o = record {
  frames = map bare rs;
  outlines = bare_outlines rs;
  puts = began_none (flat_map frame_bytes (map bare rs)) o;
}

pub no_package : {T : Type 0} (e : PackError) (rs : List Record) (o : Option (List ℕ))
    → PutsPackage {T = T} (Err e) rs o o
no_package e rs o = record {
  frames = map bare rs;
  outlines = bare_outlines rs;
  puts = began_none (spelled (map bare rs)) o;
}

-- one frame
pub one_frame : {T : Type 0} (r : Result T PackError) (f : Frame) (record_there : Record) (bytes : List ℕ)
    (o p : Option (List ℕ))
    → outline f ≡ record_there → bytes ≡ frame_bytes f → Puts r bytes o p
    → PutsFrames r (record_there ∷ []) o p
one_frame r f there bytes o p is written h =
    record {
      frames = f ∷ [];
      outlines = ap (λ x. x ∷ []) is;
      puts = puts_same r bytes _ o p
          (written ∙ sym (append-nil (frame_bytes f))) h;
    }

pub file_frame_put : {T : Type 0} (r : Result T PackError) (path content : List ℕ) (o p : Option (List ℕ))
    → Puts r (frame_bytes (FileFrame path content)) o p → PutsFrames r (File path ∷ []) o p
file_frame_put r path content o p h = one_frame r (FileFrame path content) (File path) _ o p refl refl h

rank_dir : (rank : ℕ) (path target : List ℕ) → (rank == 0) ≡ true → Dir path ≡ record_at rank (path, target)
rank_dir rank path target h = rw h refl

rank_link : (rank : ℕ) (path target : List ℕ) → (rank == 0) ≡ false → (rank == 1) ≡ false
    → Link path target ≡ record_at rank (path, target)
rank_link rank path target h k = rw (h, k) refl

-- a directory's record, and a link's
pub dir_put : {T : Type 0} (r : Result T PackError) (rank : ℕ) (path target : List ℕ) (o p : Option (List ℕ))
    → rank ≡ 0 → Puts r (frame_bytes (DirFrame path)) o p
    → PutsFrames r (record_at rank (path, target) ∷ []) o p
dir_put r rank path target o p is h =
    let zero : (rank == 0) ≡ true = ap (λ n. n == 0) is in
    one_frame r (DirFrame path) (record_at rank (path, target)) _ o p (rank_dir rank path target zero) refl h

pub link_put : {T : Type 0} (r : Result T PackError) (rank : ℕ) (path target : List ℕ) (o p : Option (List ℕ))
    → ¬ (rank ≡ 0) → ¬ (rank ≡ 1) → Puts r (frame_bytes (LinkFrame path target)) o p
    → PutsFrames r (record_at rank (path, target) ∷ []) o p
link_put r rank path target o p none one h =
    let first : (rank == 0) ≡ false = grind (arith, nat_tests) in
    let second : (rank == 1) ≡ false = grind (arith, nat_tests) in
    one_frame r (LinkFrame path target) (record_at rank (path, target)) _ o p
    (rank_link rank path target first second) refl h

pub same_package : {T : Type 0} (r : Result T PackError) (rs qs : List Record) (o p : Option (List ℕ))
    → rs ≡ qs → PutsPackage r rs o p → PutsPackage r qs o p
same_package r rs qs o p e h = record { frames = h.frames; outlines = h.outlines ∙ e; puts = h.puts }

joined_outlines : (fs gs : List Frame) (rs qs : List Record) → map outline fs ≡ rs → map outline gs ≡ qs
    → map outline (fs ++ gs) ≡ rs ++ qs
joined_outlines fs gs rs qs h k = map-append outline fs gs ∙ ap (λ l. l ++ map outline gs) h
    ∙ ap (λ l. rs ++ l) k

spelled_onto : (fs gs : List Frame) → spelled (fs ++ gs) ≡ flat_map frame_bytes fs ++ spelled gs
spelled_onto [] gs = refl
spelled_onto (f ∷ fs) gs = ap (λ l. frame_bytes f ++ l) (spelled_onto fs gs)
    ∙ sym (append_assoc (frame_bytes f) (flat_map frame_bytes fs) (spelled gs))

-- frames, and then the others with the byte at the end
pub then_package : {T U : Type 0} (x : U) (r : Result T PackError) (rs qs : List Record)
    (o p q : Option (List ℕ))
    → PutsFrames (Ok x) rs o p → PutsPackage r qs p q → PutsPackage r (rs ++ qs) o q
then_package x r rs qs o p q h k = record {
  frames = h.frames ++ k.frames;
  outlines = joined_outlines h.frames k.frames rs qs h.outlines k.outlines;
  puts = puts_same r _ _ o q (sym (spelled_onto h.frames k.frames)) (puts_then r _ _ o p q h.puts k.puts);
}

-- frames that were not all written, and the others
pub stopped_package : {T : Type 0} (e : PackError) (rs qs : List Record) (o p : Option (List ℕ))
    → PutsFrames {T = T} (Err e) rs o p → PutsPackage {T = T} (Err e) (rs ++ qs) o p
stopped_package {T} e rs qs o p h =
    let r : Result T PackError = Err e in
    record {
      frames = h.frames ++ map bare qs;
      outlines = joined_outlines h.frames (map bare qs) rs qs h.outlines (bare_outlines qs);
      puts = puts_same r _ _ o p (sym (spelled_onto h.frames (map bare qs)))
          (began_front _ (spelled (map bare qs)) o p h.puts);
    }

-- the last frames, and the byte at the end
pub end_package : {T U : Type 0} (x : U) (r : Result T PackError) (rs : List Record) (o p q : Option (List ℕ))
    → PutsFrames (Ok x) rs o p → Puts r (69 ∷ []) p q → PutsPackage r rs o q
end_package x r rs o p q h k =
    same_package r (rs ++ []) rs o q (append-nil rs)
    (then_package x r rs [] o p q h (record { frames = []; outlines = refl; puts = k }))

pub stopped_end : {T : Type 0} (e : PackError) (rs : List Record) (o p : Option (List ℕ))
    → PutsFrames {T = T} (Err e) rs o p → PutsPackage {T = T} (Err e) rs o p
stopped_end {T} e rs o p h = let r : Result T PackError = Err e in same_package r (rs ++ []) rs o p
    (append-nil rs) (stopped_package e rs [] o p h)

-- the frames of the entries before these were written
pub record FramesSoFar (rank : ℕ) (rest all : List Entry) (old new : Option (List ℕ)) : Type 0 where
  pub frames : List Frame
  pub outlines : map outline frames ++ map (record_at rank) rest ≡ map (record_at rank) all
  pub added : Added (flat_map frame_bytes frames) old new

pub none_so_far : (rank : ℕ) (all : List Entry) (o : Option (List ℕ)) → Added [] o o
    → FramesSoFar rank all all o o
none_so_far rank all o h = record { frames = []; outlines = refl; added = h }

first_is : (rank : ℕ) (rest rest2 : List Entry) (path target path2 target2 : List ℕ)
    → rest ≡ (path, target) ∷ rest2 → path2 ≡ path → target2 ≡ target
    → map (record_at rank) rest ≡ record_at rank (path2, target2) ∷ map (record_at rank) rest2
first_is rank rest rest2 path target path2 target2 er ep et =
    let same : (path, target) ≡ (path2, target2) = cc in
    ap (map (record_at rank)) er ∙ ap (λ e. record_at rank e ∷ map (record_at rank) rest2) same

with_one : (fs gs : List Frame) (one : Record) (rs all : List Record) → map outline gs ≡ one ∷ []
    → map outline fs ++ one ∷ rs ≡ all → map outline (fs ++ gs) ++ rs ≡ all
with_one fs gs one rs all is so_far =
    ap (λ l. l ++ rs) (map-append outline fs gs ∙ ap (λ l. map outline fs ++ l) is)
    ∙ append_assoc (map outline fs) (one ∷ []) rs ∙ so_far

-- one record more
pub one_so_far : {U : Type 0} (x : U) (rank : ℕ) (rest rest2 all : List Entry)
    (path target path2 target2 : List ℕ) (o p q : Option (List ℕ))
    → rest ≡ (path, target) ∷ rest2 → path2 ≡ path → target2 ≡ target
    → FramesSoFar rank rest all o p → PutsFrames (Ok x) (record_at rank (path2, target2) ∷ []) p q
    → FramesSoFar rank rest2 all o q
one_so_far x rank rest rest2 all path target path2 target2 o p q er ep et h k =
    let first = first_is rank rest rest2 path target path2 target2 er ep et in
    let P : List ℕ → Type 0 = λ l. Added l o q in
    record {
      frames = h.frames ++ k.frames;
      outlines = with_one h.frames k.frames _ _ _ k.outlines (ap (λ l. map outline h.frames ++ l) (sym first)
          ∙ h.outlines);
      added = subst P (sym (flat_map-append frame_bytes h.frames k.frames))
          (added_then (flat_map frame_bytes h.frames) (flat_map frame_bytes k.frames) o p q h.added k.puts);
    }

-- a record that was not written
pub stopped_so_far : {T U : Type 0} (e : PackError) (rank : ℕ) (rest rest2 all : List Entry)
    (path target path2 target2 : List ℕ) (o p q : Option (List ℕ))
    → rest ≡ (path, target) ∷ rest2 → path2 ≡ path → target2 ≡ target
    → FramesSoFar rank rest all o p → PutsFrames {T = U} (Err e) (record_at rank (path2, target2) ∷ []) p q
    → PutsFrames {T = T} (Err e) (map (record_at rank) all) o q
stopped_so_far {T} e rank rest rest2 all path target path2 target2 o p q er ep et h k =
    let first = first_is rank rest rest2 path target path2 target2 er ep et in
    let left = map bare (map (record_at rank) rest2) in
    let fs = h.frames ++ k.frames in
    let those : map outline fs ++ map (record_at rank) rest2 ≡ map (record_at rank) all =
    with_one h.frames k.frames _ _ _ k.outlines (ap (λ l. map outline h.frames ++ l) (sym first) ∙ h.outlines)
    in
    let r : Result T PackError = Err e in
    let begun : Began (flat_map frame_bytes h.frames ++ flat_map frame_bytes k.frames) o q =
    began_after (flat_map frame_bytes h.frames) (flat_map frame_bytes k.frames) o p q h.added k.puts in
    record {
      frames = fs ++ left;
      outlines = joined_outlines fs left (map outline fs) (map (record_at rank) rest2) refl
          (bare_outlines (map (record_at rank) rest2)) ∙ those;
      puts = puts_same r _ _ o q
          (sym (flat_map-append frame_bytes fs left ∙ ap (λ l. l ++ flat_map frame_bytes left)
          (flat_map-append frame_bytes h.frames k.frames)))
          (began_front (flat_map frame_bytes h.frames ++ flat_map frame_bytes k.frames)
          (flat_map frame_bytes left) o q begun);
    }

-- the records of a package, kind by kind
pub package_is : (records : List Record) (dirs files links : List Entry) → dirs ≡ sorted 0 records
    → files ≡ sorted 1 records → links ≡ sorted 2 records
    → map (record_at 0) dirs ++ (map (record_at 1) files ++ map (record_at 2) links) ≡ written_order records
unfolding written_order
package_is records dirs files links ed ef el = rw (ed, ef, el) refl
