-- What an opening leaves, whether it succeeds or not: files below its root are only removed.
use Rattle.std.proofs.Common.{◌≡◌, ◌++◌, List, ℕ, Option, Some, None, Result, Ok, Err, refl, sym, subst, ◌∙◌}
use Rattle.std.proofs.Common.{IfErr, inl, inr}
use Rattle.folders.specs.Files.{Files, without, DoneOrNot}
use Rattle.folders.specs.Held.{Held, Lacks, Became, Changes}
use Rattle.dist_types.specs.declared.folder_fault.FolderFault.{FolderFault}
use Rattle.folders.specs.Changed.{OnlyRemoved, ButUnder, RemovedAt, RemovedUnder, SameAt}
use Rattle.folders.proofs.Became.{became_map, became_same, became_then, became_of}
use Rattle.folders.proofs.Exactly.{without_was}
use Rattle.folders.proofs.Lookups.{without_other}

same_part : (path : List ℕ) (f : Files) → RemovedAt path f f
same_part path f = (λ q b found. found, λ q other. refl)

out_part : (path : List ℕ) (f : Files) → RemovedAt path f (without path f)
out_part path f = (λ q b found. without_was path q b f found, λ q other. without_other path q f other)

-- what every outcome of a removal leaves
pub removed_part : (path at : List ℕ) (result : Result (Unit {0}) FolderFault) (old new : Held) → path ≡ at
    → Changes (Lacks path) (without path) (DoneOrNot (without path)) result old new
    → Became (RemovedAt at) old.files new.files
removed_part path at result old new is h =
    subst (λ p. Became (RemovedAt p) old.files new.files) is
    (became_of (Lacks path) (without path) (DoneOrNot (without path)) (RemovedAt path) result old new
    (same_part path) (out_part path)
    (λ f g part. elim part [
      | inl same ↦ subst (RemovedAt path f) (sym same) (same_part path f)
      | inr done ↦ subst (RemovedAt path f) (sym done) (out_part path f)
    ]) h)

pub same_part_at : (path : List ℕ) (old new : Option Files) → Became SameAt old new
    → Became (RemovedAt path) old new
same_part_at path old new h =
    became_map SameAt (RemovedAt path) old new (λ f g same. (
      λ q b found. sym (same q) ∙ found,
      λ q other. same q,
    )) h

-- nothing changed, and then a part of a removal was done
pub same_then_part : (path : List ℕ) (one two three : Option Files) → Became SameAt one two
    → Became (RemovedAt path) two three → Became (RemovedAt path) one three
same_then_part path one two three a b =
    became_then SameAt (RemovedAt path) (RemovedAt path) one two three
    (λ f g h x y. (λ q c found. sym (x q) ∙ y.0 q c found, λ q other. y.1 q other ∙ x q)) a b

pub none_spared : (root : List ℕ) (o : Option Files) → Became (RemovedUnder root) o o
none_spared root o = became_same (RemovedUnder root) o (λ f. (λ q b found. found, λ q away. refl))

pub same_spared : (root : List ℕ) (old new : Option Files) → Became SameAt old new
    → Became (RemovedUnder root) old new
same_spared root old new h =
    became_map SameAt (RemovedUnder root) old new (λ f g same. (
      λ q b found. sym (same q) ∙ found,
      λ q away. same q,
    )) h

pub spared_both : (root : List ℕ) (one two three : Option Files) → Became (RemovedUnder root) one two
    → Became (RemovedUnder root) two three → Became (RemovedUnder root) one three
spared_both root one two three a b =
    became_then (RemovedUnder root) (RemovedUnder root) (RemovedUnder root) one two three
    (λ f g h x y. (λ q c found. x.0 q c (y.0 q c found), λ q away. y.1 q away ∙ x.1 q away)) a b

pub spared_at : (root key : List ℕ) (old new : Option Files) → Became (RemovedAt (root ++ key)) old new
    → Became (RemovedUnder root) old new
spared_at root key old new h =
    became_map (RemovedAt (root ++ key)) (RemovedUnder root) old new
    (λ f g part. (part.0, λ q away. part.1 q (away key))) h

-- two things that became so
pub spared_of : (root at : List ℕ) (old new : Option Files) → root ≡ at → Became OnlyRemoved old new
    → Became (ButUnder root) old new → Became (RemovedUnder at) old new
spared_of root at old new is removed others =
    subst (λ r. Became (RemovedUnder r) old new) is (by old new removed others)
  where
    by : (old new : Option Files) → Became OnlyRemoved old new → Became (ButUnder root) old new
        → Became (RemovedUnder root) old new
    by None new removed others = removed
    by (Some f) new removed others =
        let same : removed.0 ≡ others.0 = let both : Some removed.0 ≡ Some others.0 = sym removed.1 ∙ others.1 in cc
        in
        (others.0, others.1, (subst (λ g. OnlyRemoved f g) same removed.2, others.2))

pub none_same : (o : Option Files) → Became SameAt o o
none_same o = became_same SameAt o (λ f q. refl)

-- what holds of a folder's files holds of those of the folder that is handed back
pub handed_back : {T E F : Type 0} (held : F → Held) (P : Option Files → Type 0) (folder : F)
    (result : Result T (E × F)) → IfErr result (λ e. e.1 ≡ folder) → P (held folder).files
    → IfErr result (λ e. P (held e.1).files)
handed_back held P folder (Ok t) is h = tt
handed_back held P folder (Err e) is h = subst (λ f. P (held f).files) (sym is) h
