-- What calls of a folder leave.
use Rattle.std.proofs.Common.{◌≡◌, false, true≢false, is_some, List, ℕ, ◌++◌, take, Option, Some, None, Result}
use Rattle.std.proofs.Common.{Ok, Err, inl, inr, refl, sym, ap, subst, ◌∙◌}
use Rattle.std.specs.Option.{option_map}
use Rattle.std.specs.Str.{bytes_eq}
use Rattle.folders.specs.Changed.{ButAt}
use Rattle.folders.specs.Files.{Files, file_at, put_found, appended, PartAppended, Same}
use Rattle.folders.specs.Held.{Held, Lacks, Became, Changes}
use Rattle.dist_types.specs.declared.folder_fault.FolderFault.{FolderFault}
use Rattle.dist_types.specs.declared.folder_fault.FolderFault.TheVariants.{Missing, Failed, Memory}
use Rattle.folders.proofs.Became.{became_of, became_same}
use Rattle.folders.proofs.Lookups.{put_same, put_other}
use Rattle.listed_files.specs.Entries.{Entries}
use Rattle.listed_files.specs.Disk.{Keeps}
use Rattle.listed_files.proofs.Standing.{kept_none}

same_files : (o n : Option Files) → Became Same o n → n ≡ o
same_files None n h = h
same_files (Some f) n h = h.1 ∙ ap Some h.2

-- a call that changes nothing leaves the files
pub files_left : {T : Type 0} (lacking : Files → Type 0) (result : Result T FolderFault) (old new : Held)
    → Changes lacking (λ files. files) Same result old new → new.files ≡ old.files
files_left lacking (Ok x) old new h = ap (λ k. k.files) h.0 ∙ by old.files
  where
    by : (o : Option Files) → option_map (λ files. files) o ≡ o
    by None = refl
    by (Some f) = refl
files_left lacking (Err Missing) old new h = ap (λ k. k.files) h.0
files_left lacking (Err Failed) old new h = same_files old.files new.files h.0
files_left lacking (Err Memory) old new h = same_files old.files new.files h.0

-- and where it succeeds the count
pub held_left : {T : Type 0} (lacking : Files → Type 0) (x : T) (old new : Held)
    → (let ok : Result T FolderFault = Ok x in Changes lacking (λ files. files) Same ok old new) → new ≡ old
held_left lacking x old new h = h.0 ∙ by old
  where
    by : (k : Held) → record { files = option_map (λ (files : Files). files) k.files; faults = k.faults } ≡ k
    by k = ap (λ o. record { files = o; faults = k.faults }) (each k.files)
      where
        each : (o : Option Files) → option_map (λ (files : Files). files) o ≡ o
        each None = refl
        each (Some f) = refl

-- what an addition leaves
added_by : (o : Option (List ℕ)) (p q bytes : List ℕ) (files : Files) → bytes_eq p q ≡ false
    → file_at (put_found (option_map (λ old. old ++ bytes) o) p files files) q ≡ file_at files q
added_by None p q bytes files other = refl
added_by (Some b) p q bytes files other = put_other p q (b ++ bytes) files other

pub added_others : {T : Type 0} (path bytes : List ℕ) (result : Result T FolderFault) (old new : Held)
    → Changes (Lacks path) (appended path bytes) (PartAppended path bytes) result old new
    → Became (ButAt path) old.files new.files
added_others path bytes result old new h =
    became_of (Lacks path) (appended path bytes) (PartAppended path bytes) (ButAt path) result old new
    (λ f q other. refl) (λ f q other. added_by (file_at f path) path q bytes f other)
    (λ f g part q other. elim part [
      | inl same ↦ ap (λ l. file_at l q) same
      | inr some ↦ ap (λ l. file_at l q) some.1 ∙ added_by (file_at f path) path q (take some.0 bytes) f other
    ]) h

there_by : (o : Option (List ℕ)) (p bytes : List ℕ) (files : Files) → file_at files p ≡ o → ¬ (Lacks p files)
    → ¬ (Lacks p (put_found (option_map (λ old. old ++ bytes) o) p files files))
there_by None p bytes files is there = there
there_by (Some b) p bytes files is there = λ lacks. let both : Some (b ++ bytes) ≡ None =
    sym (put_same p (b ++ bytes) files) ∙ lacks in absurd (true≢false (ap is_some both))

-- a file that was there is there still
abbrev pub StaysThere : List ℕ → Files → Files → Type 0
StaysThere path old new = ¬ (Lacks path old) → ¬ (Lacks path new)

pub added_there : {T : Type 0} (path bytes : List ℕ) (result : Result T FolderFault) (old new : Held)
    → Changes (Lacks path) (appended path bytes) (PartAppended path bytes) result old new
    → Became (StaysThere path) old.files new.files
added_there path bytes result old new h =
    became_of (Lacks path) (appended path bytes) (PartAppended path bytes) (StaysThere path) result old new
    (λ f there. there) (λ f there. there_by (file_at f path) path bytes f refl there)
    (λ f g part there lacks. elim part [
      | inl same ↦ there (ap (λ l. file_at l path) (sym same) ∙ lacks)
      | inr some ↦ there_by (file_at f path) path (take some.0 bytes) f refl there
          (ap (λ l. file_at l path) (sym some.1) ∙ lacks)
    ]) h

-- what is equal became so
pub equal_became : (E : Files → Files → Type 0) (old new : Option Files) → new ≡ old
    → ((f : Files) → E f f) → Became E old new
equal_became E old new is same = subst (Became E old) (sym is) (became_same E old same)

pub keeps_equal : (root : List ℕ) (es : Entries) (old new : Option Files) → new ≡ old
    → Became (Keeps root es) old new
keeps_equal root es old new is = equal_became (Keeps root es) old new is (λ f. kept_none root es f)
