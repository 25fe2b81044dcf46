-- What writing a file under another name and renaming it leaves.
use Rattle.std.proofs.Common.{◌≡◌, ◌≤◌, ℕ, false, List, Option, Some, None, Result, Ok, Err, is_some}
use Rattle.std.proofs.Common.{inl, inr, refl, sym, ap, subst, ◌∙◌, true≢false, arith}
use Rattle.std.specs.Option.{option_map}
use Rattle.std.specs.Str.{bytes_eq}
use Rattle.dist_types.specs.Cause.{Rose}
use Rattle.folders.specs.Files.{Files, file_at, put, put_found, without, moved, PartWritten, DoneOrNot}
use Rattle.folders.specs.Held.{Held, Holds, Lacks, Never, Became, Changes}
use Rattle.dist_types.specs.declared.folder_fault.FolderFault.{FolderFault}
use Rattle.dist_types.specs.declared.folder_fault.FolderFault.TheVariants.{Missing, Failed, Memory}
use Rattle.folders.proofs.Became.{became_of, became_then, became_from}
use Rattle.folders.proofs.Distinct.{apart as apart_of}
use Rattle.folders.proofs.Lookups.{without_same, put_same, put_other, part_other, moved_other}
use Rattle.folders.proofs.Lookups.{moved_there}
use Rattle.folders.specs.Whole.{OldOr}
use Rattle.disk_cache.specs.Saving.{ButTwo, SaveFails}

became_done : (E : Files → Files → Type 0) (done : Files → Files) (old : Option Files)
    → ((f : Files) → E f (done f)) → Became E old (option_map done old)
became_done E done None to = refl
became_done E done (Some f) to = (done f, refl, to f)

abbrev Wrote : List ℕ → List ℕ → Result (Unit {0}) FolderFault → Held → Held → Type 0
Wrote at text result old new = Changes Never (put at text) (PartWritten at text) result old new

abbrev Renamed : List ℕ → List ℕ → Result (Unit {0}) FolderFault → Held → Held → Type 0
Renamed from to result old new = Changes (Lacks from) (moved from to) (DoneOrNot (moved from to)) result old
    new

apart_back : (p q : List ℕ) → bytes_eq q p ≡ false → bytes_eq p q ≡ false
apart_back p q h = apart_of q p h

module _ (temp weak text : List ℕ) (apart : bytes_eq temp weak ≡ false) where
  write_left : (result : Result (Unit {0}) FolderFault) (old new : Held) → Wrote temp text result old new
      → Became (OldOr weak text) old.files new.files
  write_left result old new h =
      became_of Never (put temp text) (PartWritten temp text) (OldOr weak text) result old new (λ f. inl refl)
      (λ f. inl (put_other temp weak text f apart))
      (λ f g part. inl (part_other temp weak text f g part apart)) h

  write_others : (result : Result (Unit {0}) FolderFault) (old new : Held) → Wrote temp text result old new
      → Became (ButTwo temp weak) old.files new.files
  write_others result old new h =
      became_of Never (put temp text) (PartWritten temp text) (ButTwo temp weak) result old new
      (λ f q a b. refl) (λ f q a b. put_other temp q text f a)
      (λ f g part q a b. part_other temp q text f g part a) h

  -- the text stands under the other name
  abbrev Stands : Files → Files → Type 0
  Stands f g = (file_at g weak ≡ file_at f weak) × (file_at g temp ≡ Some text)

  wrote_stands : (done : Unit {0}) (old mid : Held) → Wrote temp text (Ok done) old mid
      → Became Stands old.files mid.files
  wrote_stands done old mid h =
      let P : Option Files → Type 0 = λ o. Became Stands old.files o in
      subst P (sym (ap (λ k. k.files) h.0))
      (became_done Stands (put temp text) old.files
      (λ f. (put_other temp weak text f apart, put_same temp text f)))

  saved_left : (done : Unit {0}) (result : Result (Unit {0}) FolderFault) (old mid new : Held)
      → Wrote temp text (Ok done) old mid → Renamed temp weak result mid new
      → Became (OldOr weak text) old.files new.files
  saved_left done result old mid new w r =
      became_then Stands (λ g h. file_at g temp ≡ Some text → OldOr weak text g h)
      (OldOr weak text) old.files mid.files new.files
      (λ f g h a b. elim (b a.1) [ inl same ↦ inl (same ∙ a.0) | inr is ↦ inr is ])
      (wrote_stands done old mid w)
      (became_of (Lacks temp) (moved temp weak) (DoneOrNot (moved temp weak))
      (λ g h. file_at g temp ≡ Some text → OldOr weak text g h) result mid new
      (λ f t. inl refl) (λ f t. inr (moved_there temp weak text f t))
      (λ f g part t. elim part [
        | inl same ↦ inl (ap (λ x. file_at x weak) same)
        | inr moved ↦ inr
            (ap (λ x. file_at x weak) moved ∙ moved_there temp weak text f t)
      ]) r)

  saved_others : (done : Unit {0}) (result : Result (Unit {0}) FolderFault) (old mid new : Held)
      → Wrote temp text (Ok done) old mid → Renamed temp weak result mid new
      → Became (ButTwo temp weak) old.files new.files
  saved_others done result old mid new w r =
      became_then (ButTwo temp weak) (ButTwo temp weak) (ButTwo temp weak) old.files mid.files new.files
      (λ f g h x y q a b. y q a b ∙ x q a b)
      (write_others (Ok done) old mid w)
      (became_of (Lacks temp) (moved temp weak) (DoneOrNot (moved temp weak))
      (ButTwo temp weak) result mid new (λ f q a b. refl) (λ f q a b. moved_other temp weak q f a b)
      (λ f g part q a b. elim part [
        | inl same ↦ ap (λ x. file_at x q) same
        | inr moved ↦ ap
            (λ x. file_at x q) moved ∙ moved_other temp weak q f a b
      ]) r)

  saved_written : (done renamed : Unit {0}) (old mid new : Held) → Wrote temp text (Ok done) old mid
      → Renamed temp weak (Ok renamed) mid new → Holds new (λ files. file_at files weak ≡ Some text)
  saved_written done renamed old mid new w r = λ files told.
      let E : Files → Files → Type 0 = λ g h. file_at g temp ≡ Some text → file_at h weak ≡ Some text in
      let P : Option Files → Type 0 = λ o. Became E mid.files o in
      let second : Became E mid.files new.files = subst P (sym (ap (λ k. k.files) r.0))
      (became_done E (moved temp weak) mid.files (λ f t. moved_there temp weak text f t)) in
      let both = became_then Stands E (λ f h. file_at h weak ≡ Some text) old.files mid.files new.files
      (λ f g h a b. b a.1) (wrote_stands done old mid w) second in
      (became_from (λ f h. file_at h weak ≡ Some text) old.files new.files files both told).2

  saved_gone : (renamed : Unit {0}) (mid new : Held) → Renamed temp weak (Ok renamed) mid new
      → Holds mid (λ f. file_at f temp ≡ Some text) → Holds new (Lacks temp)
  saved_gone renamed mid new r stood = λ files told.
      let E : Files → Files → Type 0 = λ g h. file_at g temp ≡ Some text → Lacks temp h in
      let P : Option Files → Type 0 = λ o. Became E mid.files o in
      let second : Became E mid.files new.files = subst P (sym (ap (λ k. k.files) r.0))
      (became_done E (moved temp weak) mid.files (λ f t.
      ap (λ o. file_at (put_found o weak f (without temp f)) temp) t
      ∙ (put_other weak temp text (without temp f) (apart_back weak temp apart) ∙ without_same temp f)))
      in
      let w = became_from E mid.files new.files files second told in
      w.2 (stood w.0 w.1)

  mid_text : (done : Unit {0}) (old mid : Held) → Wrote temp text (Ok done) old mid
      → Holds mid (λ f. file_at f temp ≡ Some text)
  mid_text done old mid w = λ files told.
      (became_from Stands old.files mid.files files (wrote_stands done old mid w) told).2.1

  mid_stands : (old mid : Option Files) → mid ≡ option_map (put temp text) old
      → ((f : Files) → mid ≡ Some f → Lacks temp f) → old ≡ None
  mid_stands None mid is lacks = refl
  mid_stands (Some f) mid is lacks =
      absurd (true≢false (sym (ap is_some (sym (lacks (put temp text f) is) ∙ put_same temp text f)) ∙ refl))

  saved_fails : (done : Unit {0}) (fault : FolderFault) (old mid new : Held)
      → Wrote temp text (Ok done) old mid → Renamed temp weak (Err fault) mid new → SaveFails fault old new
  saved_fails done Missing old mid new w r = (
    mid_stands old.files mid.files (ap (λ k. k.files) w.0) r.1,
    omega (arith, ap (λ k. k.faults) w.0, ap (λ k. k.faults) r.0),
  )
  saved_fails done Failed old mid new w r =
      let same : mid.faults ≡ old.faults = ap (λ k. k.faults) w.0 in
      (subst (λ n. Rose n new.faults) same r.1, subst (λ n. n ≤ new.faults) same r.2)
  saved_fails done Memory old mid new w r = r.1 ∙ ap (λ k. k.faults) w.0

-- ---- the same at equal paths

module _ (temp weak at to from text : List ℕ) (apart : bytes_eq temp weak ≡ false) (at_is : at ≡ temp)
    (from_is : from ≡ temp) (to_is : to ≡ weak) where
  wrote_at : (result : Result (Unit {0}) FolderFault) (old new : Held) → Wrote at text result old new
      → Wrote temp text result old new
  wrote_at result old new h = subst (λ p. Wrote p text result old new) at_is h

  renamed_at : (result : Result (Unit {0}) FolderFault) (old new : Held) → Renamed from to result old new
      → Renamed temp weak result old new
  renamed_at result old new h = subst (λ t. Renamed temp t result old new) to_is
      (subst (λ p. Renamed p to result old new) from_is h)

  pub left_at : (done : Unit {0}) (result : Result (Unit {0}) FolderFault) (old mid new : Held)
      → Wrote at text (Ok done) old mid → Renamed from to result mid new
      → Became (OldOr weak text) old.files new.files
  left_at done result old mid new w r = saved_left temp weak text apart done result old mid new
      (wrote_at (Ok done) old mid w) (renamed_at result mid new r)

  pub others_at : (done : Unit {0}) (result : Result (Unit {0}) FolderFault) (old mid new : Held)
      → Wrote at text (Ok done) old mid → Renamed from to result mid new
      → Became (ButTwo temp weak) old.files new.files
  others_at done result old mid new w r = saved_others temp weak text apart done result old mid new
      (wrote_at (Ok done) old mid w) (renamed_at result mid new r)

  pub written_at : (done renamed : Unit {0}) (old mid new : Held) → Wrote at text (Ok done) old mid
      → Renamed from to (Ok renamed) mid new → Holds new (λ files. file_at files weak ≡ Some text)
  written_at done renamed old mid new w r = saved_written temp weak text apart done renamed old mid new
      (wrote_at (Ok done) old mid w) (renamed_at (Ok renamed) mid new r)

  pub gone_at : (done renamed : Unit {0}) (old mid new : Held) → Wrote at text (Ok done) old mid
      → Renamed from to (Ok renamed) mid new → Holds new (Lacks temp)
  gone_at done renamed old mid new w r = saved_gone temp weak text apart renamed mid new
      (renamed_at (Ok renamed) mid new r)
      (mid_text temp weak text apart done old mid (wrote_at (Ok done) old mid w))

  pub fails_at : (done : Unit {0}) (fault : FolderFault) (old mid new : Held)
      → Wrote at text (Ok done) old mid → Renamed from to (Err fault) mid new → SaveFails fault old new
  fails_at done fault old mid new w r = saved_fails temp weak text apart done fault old mid new
      (wrote_at (Ok done) old mid w) (renamed_at (Err fault) mid new r)

module _ (temp weak at text : List ℕ) (apart : bytes_eq temp weak ≡ false) (at_is : at ≡ temp) where
  pub first_left : (result : Result (Unit {0}) FolderFault) (old new : Held) → Wrote at text result old new
      → Became (OldOr weak text) old.files new.files
  first_left result old new h = write_left temp weak text apart result old new
      (subst (λ p. Wrote p text result old new) at_is h)

  pub first_others : (result : Result (Unit {0}) FolderFault) (old new : Held) → Wrote at text result old new
      → Became (ButTwo temp weak) old.files new.files
  first_others result old new h = write_others temp weak text apart result old new
      (subst (λ p. Wrote p text result old new) at_is h)
