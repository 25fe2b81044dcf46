-- Where a file is to be put never stands a part of it.
use Rattle.std.proofs.Common.{◌≡◌, ℕ, false, List, ◌++◌, Option, Some, None, Result, inl, inr, refl, sym, ap}
use Rattle.std.proofs.Common.{subst, ◌∙◌}
use Rattle.std.specs.Map.{lookup}
use Rattle.std.specs.Str.{bytes_eq}
use Rattle.std.proofs.lemmas.Map.{none_passes_from_lookup}
use Rattle.folders.specs.Files.{Files, file_at, put_found, without, moved, DoneOrNot}
use Rattle.folders.specs.Held.{Held, Holds, Lacks, Became, Changes}
use Rattle.dist_types.specs.declared.folder_fault.FolderFault.{FolderFault}
use Rattle.listed_files.specs.Entries.{Entries}
use Rattle.listed_files.specs.Disk.{Avoids, ButListed}
use Rattle.folders.specs.Changed.{ButAt}
use Rattle.folders.specs.Whole.{OldOr, OldOrMoved, OldOrWritten}
use Rattle.folders.proofs.Became.{became_of, became_map, became_then}
use Rattle.folders.proofs.Distinct.{apart}
use Rattle.folders.proofs.Lookups.{moved_there, put_other, without_same}
use Rattle.listed_files.proofs.Paths.{same_front}
use Rattle.listed_files.proofs.Standing.{all_both}

-- ---- a file is renamed

done_moved : (o : Option (List ℕ)) (from to : List ℕ) (f : Files) → bytes_eq to from ≡ false
    → file_at f from ≡ o → OldOrMoved from to f (moved from to f)
done_moved None from to f differ is =
    let same : moved from to f ≡ f = ap (λ (x : Option (List ℕ)). put_found x to f (without from f)) is in
    inl (ap (λ g. file_at g to) same, ap (λ g. file_at g from) same)
done_moved (Some b) from to f differ is =
    let gone : file_at (moved from to f) from ≡ None =
    ap (λ (x : Option (List ℕ)). file_at (put_found x to f (without from f)) from) is
    ∙ (put_other to from b (without from f) differ ∙ without_same from f) in
    inr (b, is, moved_there from to b f is, gone)

pub renamed_whole : (from at to path : List ℕ) (result : Result (Unit {0}) FolderFault) (old new : Held)
    → from ≡ at → to ≡ path → bytes_eq path at ≡ false
    → Changes (Lacks from) (moved from to) (DoneOrNot (moved from to)) result old new
    → Became (OldOrMoved at path) old.files new.files
renamed_whole from at to path result old new from_is to_is apart_is h =
    let differ : bytes_eq to from ≡ false =
    ap (λ p. bytes_eq p from) to_is ∙ (ap (λ q. bytes_eq path q) from_is ∙ apart_is) in
    let P : List ℕ → List ℕ → Type 0 = λ p q. Became (OldOrMoved p q) old.files new.files in
    subst (λ q. P at q) to_is
    (subst (λ p. P p to) from_is
    (became_of (Lacks from) (moved from to) (DoneOrNot (moved from to)) (OldOrMoved from to) result old new
    (λ f. inl (refl, refl)) (λ f. done_moved (file_at f from) from to f differ refl)
    (λ f g part. elim part [
      | inl same ↦ inl (ap (λ l. file_at l to) same, ap (λ l. file_at l from) same)
      | inr done ↦ subst (OldOrMoved from to f) (sym done) (done_moved (file_at f from) from to f differ refl)
    ]) h))

-- ---- behind steps that leave both files

behind : (from path : List ℕ) (f g h : Files) → file_at g path ≡ file_at f path
    → file_at g from ≡ file_at f from → OldOrMoved from path g h → OldOrMoved from path f h
behind from path f g h at_path at_from whole =
    elim whole [
      | inl same ↦ inl (same.0 ∙ at_path, same.1 ∙ at_from)
      | inr w ↦ inr (w.0, sym at_from ∙ w.1, w.2, w.3)
    ]

absent_avoids : (root key : List ℕ) (es : Entries) → lookup (bytes_eq key) es ≡ None
    → Avoids root (root ++ key) es
absent_avoids root key es absent =
    let none = none_passes_from_lookup (bytes_eq key) es absent in
    all_both es none none (λ e other again. apart (root ++ key) (root ++ e.0)
    (same_front root key e.0 ∙ other))

-- listed files are removed, and the key is not listed
module _ (root key from path : List ℕ) (es : Entries) where
  pub listed_moved : (one two : Option Files) → path ≡ root ++ key → lookup (bytes_eq key) es ≡ None
      → Avoids root from es → Became (ButListed root es) one two → Became (OldOrMoved from path) one two
  listed_moved one two is absent away others =
      let avoids = subst (λ p. Avoids root p es) (sym is) (absent_avoids root key es absent) in
      became_map (ButListed root es) (OldOrMoved from path) one two
      (λ f g but. inl (but path avoids, but from away)) others

  pub listed_then_moved : (one two three : Option Files) → path ≡ root ++ key
      → lookup (bytes_eq key) es ≡ None → Avoids root from es → Became (ButListed root es) one two
      → Became (OldOrMoved from path) two three → Became (OldOrMoved from path) one three
  listed_then_moved one two three is absent away others whole =
      let avoids = subst (λ p. Avoids root p es) (sym is) (absent_avoids root key es absent) in
      became_then (ButListed root es) (OldOrMoved from path) (OldOrMoved from path) one two three
      (λ f g h but w. behind from path f g h (but path avoids) (but from away) w) others whole

-- ---- bytes are written elsewhere first

pub temp_new : (from path bytes : List ℕ) (one two : Option Files) → bytes_eq path from ≡ false
    → Became (ButAt from) one two → Became (OldOr path bytes) one two
temp_new from path bytes one two differ others =
    became_map (ButAt from) (OldOr path bytes) one two (λ f g but. inl (but path (apart path from differ)))
    others

pub known : (A : Files → Files → Type 0) (P : Files → Type 0) (one two : Option Files) → Became A one two
    → ((g : Files) → two ≡ Some g → P g) → Became (λ f g. A f g × P g) one two
known A P None two a holds = a
known A P (Some f) two a holds = (a.0, a.1, (a.2, holds a.0 a.1))

pub written_whole : (from path bytes : List ℕ) (one two three : Held) → bytes_eq path from ≡ false
    → Became (ButAt from) one.files two.files → Holds two (λ f. file_at f from ≡ Some bytes)
    → Became (OldOrMoved from path) two.files three.files
    → Became (OldOr path bytes) one.files three.files
written_whole from path bytes one two three differ others written whole =
    let Has : Files → Type 0 = λ f. file_at f from ≡ Some bytes in
    became_then (λ f g. ButAt from f g × Has g) (OldOrMoved from path) (OldOr path bytes) one.files two.files
    three.files (λ f g h a w. by f g h a.0 a.1 w)
    (known (ButAt from) Has one.files two.files others written) whole
  where
    by : (f g h : Files) → ButAt from f g → file_at g from ≡ Some bytes → OldOrMoved from path g h
        → OldOr path bytes f h
    by f g h but has w =
        elim w [
          | inl same ↦ inl (same.0 ∙ but path (apart path from differ))
          | inr m ↦ inr (m.2 ∙ (sym m.1 ∙ has))
        ]

-- what a closure wrote
pub closure_whole : (wrote : List ℕ → Type 0) (path bytes : List ℕ) (old new : Option Files) → wrote bytes
    → Became (OldOr path bytes) old new → Became (OldOrWritten wrote path) old new
closure_whole wrote path bytes old new is h =
    became_map (OldOr path bytes) (OldOrWritten wrote path) old new
    (λ f g w. elim w [ inl same ↦ inl same | inr has ↦ inr (bytes, is, has) ]) h
