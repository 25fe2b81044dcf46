-- What a write or an addition leaves of some bytes or a front of them, where it then fails or not.
use Rattle.std.proofs.Common.{◌≡◌, ℕ, ◌≤◌, Bool, true, false, if◌then◌else◌, ◌++◌, List, length, take}
use Rattle.std.proofs.Common.{Option, Some, is_some, true≢false, Result, Ok, Err, inr, refl, sym, ap, subst, ◌∙◌}
use Rattle.std.proofs.Common.{arith}
use Rattle.std.proofs.Math.Seq.{take-length}
use Rattle.std.specs.Option.{option_map}
use Rattle.folders.specs.Files.{Files, file_at, put, put_found, appended, PartWritten, PartAppended}
use Rattle.dist_types.specs.Cause.{counted}
use Rattle.folders.specs.Held.{Lacks, Never, Changes}
use Rattle.dist_types.specs.declared.folder_fault.FolderFault.{FolderFault}
use Rattle.dist_types.specs.declared.folder_fault.FolderFault.TheVariants.{Failed}

pub written : (path bytes : List ℕ) (n : ℕ) (old new : Files) (result : Result (Unit {0}) FolderFault)
    (breaks : Bool) (before now : ℕ)
    → (breaks ≡ false → n ≡ length bytes) → new ≡ put path (take n bytes) old
    → result ≡ (if breaks then Err Failed else Ok (tt {0}))
    → now ≡ (if breaks then counted before else before) → before ≤ now
    → Changes Never (put path bytes) (PartWritten path bytes) result
    (record { files = Some old; faults = before }) (record { files = Some new; faults = now })
written path bytes n old new result true before now all is r count later =
    let P : Result (Unit {0}) FolderFault → Type 0 = λ x. Changes Never (put path bytes)
    (PartWritten path bytes) x (record { files = Some old; faults = before })
    (record { files = Some new; faults = now }) in
    subst P (sym r) (
      (new, refl, inr (n, is)),
      omega (arith, count),
      later,
    )
written path bytes n old new result false before now all is r count later =
    let P : Result (Unit {0}) FolderFault → Type 0 = λ x. Changes Never (put path bytes)
    (PartWritten path bytes) x (record { files = Some old; faults = before })
    (record { files = Some new; faults = now }) in
    let done : new ≡ put path bytes old = is ∙ (ap (λ k. put path (take k bytes) old) (all refl)
    ∙ ap (λ l. put path l old) (take-length bytes)) in
    subst P (sym r) ((λ i. record { files = Some (done i); faults = count i }), λ files e h. h)

-- what is put is what was there with more behind it
abbrev put_behind : List ℕ → List ℕ → Option (List ℕ) → Files → Files
put_behind path bytes there old = put_found (option_map (λ b. b ++ bytes) there) path old old

pub added : (path bytes there : List ℕ) (old new : Files) → file_at old path ≡ Some there
    → new ≡ put path (there ++ bytes) old → new ≡ appended path bytes old
added path bytes there old new is done = done ∙ ap (λ o. put_behind path bytes o old) (sym is)

pub more_written : (path bytes there : List ℕ) (n : ℕ) (old new : Files)
    (result : Result (Unit {0}) FolderFault) (breaks : Bool) (before now : ℕ)
    → (breaks ≡ false → n ≡ length bytes)
    → file_at old path ≡ Some there → new ≡ put path (there ++ take n bytes) old
    → result ≡ (if breaks then Err Failed else Ok (tt {0}))
    → now ≡ (if breaks then counted before else before) → before ≤ now
    → Changes (Lacks path) (appended path bytes) (PartAppended path bytes) result
    (record { files = Some old; faults = before }) (record { files = Some new; faults = now })
more_written path bytes there n old new result true before now all found is r count later =
    let P : Result (Unit {0}) FolderFault → Type 0 = λ x. Changes (Lacks path) (appended path bytes)
    (PartAppended path bytes) x (record { files = Some old; faults = before })
    (record { files = Some new; faults = now }) in
    subst P (sym r) (
      (new, refl, inr (n, added path (take n bytes) there old new found is)),
      omega (arith, count),
      later,
    )
more_written path bytes there n old new result false before now all found is r count later =
    let P : Result (Unit {0}) FolderFault → Type 0 = λ x. Changes (Lacks path) (appended path bytes)
    (PartAppended path bytes) x (record { files = Some old; faults = before })
    (record { files = Some new; faults = now }) in
    let done = added path bytes there old new found (is ∙ (ap (λ k. put path (there ++ take k bytes) old) (all refl)
    ∙ ap (λ l. put path (there ++ l) old) (take-length bytes))) in
    subst P (sym r) (
      (λ i. record { files = Some (done i); faults = count i }),
      λ files e lacks.
          missing files e lacks,
    )
  where
    missing : (files : Files) → Some old ≡ Some files → Lacks path files → ⊥
    missing files e lacks =
        let same : old ≡ files = cc in
        true≢false (ap is_some (sym found ∙ (ap (λ f. file_at f path) same ∙ lacks)))
