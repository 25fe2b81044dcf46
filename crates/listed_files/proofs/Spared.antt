-- Files that a step removes or leaves as they were.
use Rattle.std.proofs.Common.{◌≡◌, ℕ, Bool, true, false, List, Option, Result, refl, sym, subst, ◌∙◌}
use Rattle.std.specs.Str.{bytes_eq}
use Rattle.std.proofs.lemmas.Slice.Eq.{bytes_eq-Decides}
use Rattle.folders.specs.Files.{Files, moved, DoneOrNot}
use Rattle.folders.specs.Held.{Held, Lacks, Became, Changes}
use Rattle.dist_types.specs.declared.folder_fault.FolderFault.{FolderFault}
use Rattle.folders.specs.Changed.{OnlyRemoved, RemovedAt, ButAt, SameAt}
use Rattle.listed_files.specs.Disk.{IsTemp, IsInsertTemp}
use Rattle.folders.specs.Changed.{RemovedOrSame, IsNeither}
use Rattle.listed_files.specs.Disk.{IsNoTemp, IsBeside}
use Rattle.folders.proofs.Became.{became_of, became_map, became_same, became_then}
use Rattle.folders.proofs.Lookups.{moved_other, done_or_not}

pub only_removed : (path : List ℕ) (old new : Option Files) → Became (RemovedAt path) old new
    → Became OnlyRemoved old new
only_removed path old new h = became_map (RemovedAt path) OnlyRemoved old new (λ f g part. part.0) h

-- of any paths
module _ (P : List ℕ → Type 0) where
  pub all_same : (o : Option Files) → Became (RemovedOrSame P) o o
  all_same o = became_same (RemovedOrSame P) o (λ f q b spared found. found)

  pub all_kept : (old new : Option Files) → Became SameAt old new → Became (RemovedOrSame P) old new
  all_kept old new h =
      became_map SameAt (RemovedOrSame P) old new (λ f g same q b spared found. sym (same q) ∙ found) h

  pub all_removed : (old new : Option Files) → Became OnlyRemoved old new → Became (RemovedOrSame P) old new
  all_removed old new h =
      became_map OnlyRemoved (RemovedOrSame P) old new (λ f g only q b spared found. only q b found) h

  pub one_then : (one two three : Option Files) → Became (RemovedOrSame P) one two
      → Became (RemovedOrSame P) two three → Became (RemovedOrSame P) one three
  one_then one two three a b =
      became_then (RemovedOrSame P) (RemovedOrSame P) (RemovedOrSame P) one two three
      (λ f g h x y q c spared found. x q c spared (y q c spared found)) a b

-- one file is written
pub beside_one : (from path : List ℕ) (old new : Option Files) → Became (ButAt from) old new
    → Became (RemovedOrSame (IsNeither from path)) old new
beside_one from path old new h =
    became_map (ButAt from) (RemovedOrSame (IsNeither from path)) old new
    (λ f g but q b neither found. sym (but q neither.0) ∙ found) h

-- one file is renamed
pub renamed_removed : (from at to path : List ℕ) (result : Result (Unit {0}) FolderFault) (old new : Held)
    → from ≡ at → to ≡ path
    → Changes (Lacks from) (moved from to) (DoneOrNot (moved from to)) result old new
    → Became (RemovedOrSame (IsNeither at path)) old.files new.files
renamed_removed from at to path result old new from_is to_is h =
    let P : List ℕ → List ℕ → Type 0 = λ p q. Became (RemovedOrSame (IsNeither p q)) old.files new.files in
    subst (λ q. P at q) to_is
    (subst (λ p. P p to) from_is
    (became_of (Lacks from) (moved from to) (DoneOrNot (moved from to)) (RemovedOrSame (IsNeither from to))
    result old new (λ f q b neither found. found)
    (λ f q b neither found. sym (moved_other from to q f neither.0 neither.1) ∙ found)
    (λ f g part q b neither found. sym (done_or_not (moved from to) q f g part
    (moved_other from to q f neither.0 neither.1)) ∙ found) h))

-- one of the two paths is a temporary file's
no_temp : (root from q : List ℕ) → IsTemp root from → IsNoTemp root q → bytes_eq from q ≡ false
no_temp root from q temp none = by (bytes_eq from q) refl
  where
    by : (b : Bool) → bytes_eq from q ≡ b → b ≡ false
    by false other = refl
    by true same = absurd (none (subst (IsTemp root) ((bytes_eq-Decides from q).0 same) temp))

no_insert : (root from q : List ℕ) → IsInsertTemp root from → ¬ (IsInsertTemp root q) → bytes_eq from q ≡ false
no_insert root from q temp none = by (bytes_eq from q) refl
  where
    by : (b : Bool) → bytes_eq from q ≡ b → b ≡ false
    by false other = refl
    by true same = absurd (none (subst (IsInsertTemp root) ((bytes_eq-Decides from q).0 same) temp))

pub beside_temp : (root from path at : List ℕ) (old new : Option Files) → IsInsertTemp root from → path ≡ at
    → Became (RemovedOrSame (IsNeither from path)) old new → Became (RemovedOrSame (IsBeside root at)) old new
beside_temp root from path at old new temp is h =
    subst (λ p. Became (RemovedOrSame (IsBeside root p)) old new) is
    (became_map (RemovedOrSame (IsNeither from path)) (RemovedOrSame (IsBeside root path)) old new
    (λ f g some q b beside found. some q b (no_insert root from q temp beside.0, beside.1) found) h)

pub but_temps : (root from : List ℕ) (old new : Option Files) → IsTemp root from
    → Became (RemovedOrSame (IsNeither from from)) old new → Became (RemovedOrSame (IsNoTemp root)) old new
but_temps root from old new temp h =
    became_map (RemovedOrSame (IsNeither from from)) (RemovedOrSame (IsNoTemp root)) old new
    (λ f g some q b none found. some q b
    (no_temp root from q temp none, no_temp root from q temp none) found) h
