-- The archives among the files stay where a call changes files that lie elsewhere.
use Rattle.std.proofs.Common.{◌≡◌, ℕ, false, List, take, Option, Some, None, Result}
use Rattle.std.proofs.Common.{inl, inr, refl, ap, ◌∙◌}
use Rattle.std.specs.Str.{bytes_eq}
use Rattle.folders.specs.Files.{Files, file_at, put, put_found, without, moved, PartWritten}
use Rattle.folders.specs.Files.{DoneOrNot, Same}
use Rattle.folders.specs.Held.{Held, Lacks, Never, Became, Changes}
use Rattle.dist_types.specs.declared.folder_fault.FolderFault.{FolderFault}
use Rattle.folders.specs.Changed.{IsOutside}
use Rattle.toolchain_cache.specs.Archives.{Archives, archive_key, archive_path, archives_in, IsInStep}
use Rattle.folders.proofs.Became.{became_of, became_from}
use Rattle.folders.proofs.Distinct.{apart}
use Rattle.toolchain_cache.proofs.InStep.{in_put_other, in_without_other}

-- they are as they were
abbrev pub SameArchives : List ℕ → Files → Files → Type 0
SameArchives path old new = archives_in path new ≡ archives_in path old

pub step_kept : (path : List ℕ) (es : Archives) (old new : Held)
    → Became (SameArchives path) old.files new.files → IsInStep path old es → IsInStep path new es
step_kept path es old new same h files told =
    let w = became_from (SameArchives path) old.files new.files files same told in
    w.2 ∙ h w.0 w.1

pub archives_same : {T : Type 0} (path : List ℕ) (lacking : Files → Type 0) (result : Result T FolderFault)
    (old new : Held) → Changes lacking (λ files. files) Same result old new
    → Became (SameArchives path) old.files new.files
archives_same path lacking result old new h =
    became_of lacking (λ files. files) Same (SameArchives path) result old new (λ f. refl) (λ f. refl)
    (λ f g same. ap (archives_in path) same) h

away_of : (path q : List ℕ) → IsOutside path q → (id : List ℕ) → bytes_eq q (archive_path path id) ≡ false
away_of path q away id = apart (archive_path path id) q (away (archive_key id))

pub archives_wrote : (path q bytes : List ℕ) (result : Result (Unit {0}) FolderFault) (old new : Held)
    → IsOutside path q → Changes Never (put q bytes) (PartWritten q bytes) result old new
    → Became (SameArchives path) old.files new.files
archives_wrote path q bytes result old new away h =
    became_of Never (put q bytes) (PartWritten q bytes) (SameArchives path) result old new (λ f. refl)
    (λ f. in_put_other path q bytes f (away_of path q away)) (λ f g part. elim part [
      | inl same ↦ ap (archives_in path) same
      | inr some ↦ ap (archives_in path) some.1 ∙ in_put_other path q (take some.0 bytes) f
          (away_of path q away)
    ]) h

in_moved_by : (o : Option (List ℕ)) (path from to : List ℕ) (f : Files) → IsOutside path from
    → IsOutside path to → archives_in path (put_found o to f (without from f)) ≡ archives_in path f
in_moved_by None path from to f one two = refl
in_moved_by (Some b) path from to f one two =
    in_put_other path to b (without from f) (away_of path to two) ∙ in_without_other path from f
    (away_of path from one)

pub archives_renamed : (path from to : List ℕ) (result : Result (Unit {0}) FolderFault) (old new : Held)
    → IsOutside path from → IsOutside path to → Changes (Lacks from) (moved from to)
    (DoneOrNot (moved from to)) result old new → Became (SameArchives path) old.files new.files
archives_renamed path from to result old new one two h =
    let moves : (f : Files) → archives_in path (moved from to f) ≡ archives_in path f = λ f.
    in_moved_by (file_at f from) path from to f one two in
    became_of (Lacks from) (moved from to) (DoneOrNot (moved from to)) (SameArchives path) result old new
    (λ f. refl) moves (λ f g part. elim part [
      | inl same ↦ ap (archives_in path) same
      | inr done ↦ ap (archives_in path) done ∙ moves f
    ]) h
