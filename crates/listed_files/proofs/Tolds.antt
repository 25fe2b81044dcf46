-- What a store answers and leaves behind the entries that went, and what the folder's counts tell of it.
use Rattle.std.proofs.Common.{◌≡◌, ℕ, List, [], ◌∷◌, ◌++◌, Option, Result, Ok, Err, OnOk, OnErr, inl}
use Rattle.std.proofs.Common.{inr, refl, sym, ap, subst, ◌∙◌}
use Rattle.dist_types.specs.Cause.{counted}
use Rattle.dist_types.specs.declared.folder_fault.FolderFault.{FolderFault}
use Rattle.dist_types.specs.declared.folder_fault.FolderFault.TheVariants.{Missing, Failed, Memory}
use Rattle.folders.specs.Failures.{Failures, call_failed, removal_failed}
use Rattle.folders.specs.Files.{Files, moved}
use Rattle.folders.specs.Held.{BecameBy}
use Rattle.folders.proofs.Exactly.{made_then}
use Rattle.listed_files.specs.Disk.{Left, files_placed, staying, stored, without_each, without_key}
use Rattle.listed_files.specs.Entries.{Entries, Listed, trim, IsEnd}
use Rattle.listed_files.specs.Told.{NoneFailed, RemovalFailed, TellsRename, ToldStored}
use Rattle.listed_files.specs.Told.{ToldSized}

module _ (key : List ℕ) (n limit : ℕ) (entries left : Entries) (cut now : Listed) where
  -- the list once the file is in its place
  pub placed_ok : (capacity : ℕ) (result : Result (Unit {0}) FolderFault)
      → OnOk result (now ≡ record cut { entries = left ++ (key, n) ∷ [] }) → cut.capacity ≡ capacity
      → left ≡ staying key limit entries
      → OnOk result (now ≡ record { capacity = capacity; entries = stored key n limit entries })
  placed_ok capacity (Ok x) is room stays =
      is ∙ (λ i. record { capacity = room i; entries = stays i ++ (key, n) ∷ [] })
  placed_ok capacity (Err e) is room stays = tt

  -- or it is not
  pub placed_err : (capacity : ℕ) (result : Result (Unit {0}) FolderFault)
      → OnErr result (now ≡ record cut { entries = left }) → cut.capacity ≡ capacity
      → IsEnd left (without_key key entries) → trim limit left ≡ trim limit (without_key key entries)
      → OnErr result ((now.capacity ≡ capacity) × Left key limit entries now.entries)
  placed_err capacity (Ok x) is room end needed = tt
  placed_err capacity (Err e) is room end needed = (
    ap (λ (t : Listed). t.capacity) is ∙ room,
    subst (Left key limit entries) (sym (ap (λ (t : Listed). t.entries) is)) (inr (end, needed)),
  )

  -- what the counts tell of it
  pub placed_told : (result : Result (Unit {0}) FolderFault) (f g h : Failures)
      → OnErr result (now ≡ record cut { entries = left }) → left ≡ staying key limit entries → g ≡ f
      → TellsRename result g h → ToldStored result key limit entries now.entries f h
  placed_told (Ok x) f g h is stays none same = same ∙ none
  placed_told (Err e) f g h is stays none tells =
      inr (inr (
        ap (λ (t : Listed). t.entries) is ∙ stays,
        (tells.0 ∙ ap (λ (c : Failures). counted c.renames) none, tells.1 ∙ ap (λ (c : Failures). c.removals) none),
      ))

-- the files once the least recent went and the file is in its place
pub placed_exact : (root from path : List ℕ) (gone : Entries) (result : Result (Unit {0}) FolderFault)
    (one two three : Option Files) → BecameBy (without_each root gone) one two
    → OnOk result (BecameBy (moved from path) two three)
    → OnOk result (BecameBy (files_placed root from path gone) one three)
placed_exact root from path gone (Ok x) one two three went put =
    made_then (without_each root gone) (moved from path) one two three went put
placed_exact root from path gone (Err e) one two three went put = tt

-- the answer of a call that failed so
abbrev failing : FolderFault → Result (Unit {0}) FolderFault
failing fault = Err fault

-- a removal failed
pub removal_told : (fault : FolderFault) (f g : Failures) → ¬ (failing fault ≡ Err Missing)
    → g ≡ removal_failed (failing fault) f → RemovalFailed f g
removal_told Missing f g other is = absurd (other refl)
removal_told Failed f g other is = (ap (λ c. c.renames) is, ap (λ c. c.removals) is)
removal_told Memory f g other is = (ap (λ c. c.renames) is, ap (λ c. c.removals) is)

-- neither a removal nor a rename failed in another call
pub call_told : (answer : Result (Unit {0}) FolderFault) (f g : Failures) → g ≡ call_failed answer f
    → NoneFailed f g
call_told (Ok x) f g is = (ap (λ c. c.renames) is, ap (λ c. c.removals) is)
call_told (Err Missing) f g is = (ap (λ c. c.renames) is, ap (λ c. c.removals) is)
call_told (Err Failed) f g is = (ap (λ c. c.renames) is, ap (λ c. c.removals) is)
call_told (Err Memory) f g is = (ap (λ c. c.renames) is, ap (λ c. c.removals) is)

-- where such a call ends a store that failed, the list is as it was
pub early_told : (key : List ℕ) (limit : ℕ) (entries : Entries) (result : Result (Unit {0}) FolderFault)
    (fault : FolderFault) (f g : Failures) → result ≡ Err fault → NoneFailed f g
    → ToldStored result key limit entries entries f g
early_told key limit entries result fault f g is none =
    subst (λ r. ToldStored r key limit entries entries f g) (sym is) (inl (refl, none))

-- what is told of a store of one size is told of it for such sizes
pub told_sized : {E : Type 0} (key : List ℕ) (room : ℕ → ℕ) (IsSize : ℕ → Type 0) (n : ℕ) (old new : Entries)
    (f g : Failures) (result : Result (Unit {0}) E) → IsSize n → ToldStored result key (room n) old new f g
    → ToldSized result key room IsSize old new f g
told_sized key room IsSize n old new f g (Ok x) size told = told
told_sized key room IsSize n old new f g (Err e) size told = inr (n, size, told)

-- where a call before it failed, or a refusal, nothing else did
pub quiet : (f g : Failures) → g ≡ f → NoneFailed f g
quiet f g is = (ap (λ c. c.renames) is, ap (λ c. c.removals) is)
