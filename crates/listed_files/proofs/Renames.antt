-- A file takes the place of a key.
use Rattle.std.proofs.Common.{◌≡◌, ℕ, ◌≤◌, true, false, List, [], ◌∷◌, ◌++◌, length, Option, Some, None}
use Rattle.std.proofs.Common.{Result, Ok, Err, OnOk, is_some, refl, sym, ap, subst, ◌∙◌, true≢false, arith}
use Rattle.std.specs.List.{AllByRecursion}
use Rattle.std.specs.Map.{lookup}
use Rattle.std.specs.Option.{option_map}
use Rattle.std.specs.Str.{bytes_eq}
use Rattle.std.proofs.lemmas.Map.{none_passes_from_lookup}
use Rattle.folders.specs.Files.{size_at, Files, file_at, moved, DoneOrNot}
use Rattle.folders.specs.Held.{Held, Holds, Lacks, Became, Changes}
use Rattle.dist_types.specs.declared.folder_fault.FolderFault.{FolderFault}
use Rattle.dist_types.specs.declared.folder_fault.FolderFault.TheVariants.{Missing, Failed, Memory}
use Rattle.folders.specs.Failures.{Failures, WhereTold, rename_failed}
use Rattle.folders.proofs.Became.{became_of, became_from, became_map}
use Rattle.folders.proofs.Distinct.{apart}
use Rattle.folders.proofs.Lookups.{moved_other, moved_there, done_or_not}
use Rattle.listed_files.specs.Key.{is_key}
use Rattle.listed_files.specs.Entries.{Entries}
use Rattle.listed_files.specs.Disk.{Stands, Avoids, Keeps, ButThese}
use Rattle.folders.specs.Changed.{ButUnderAnd, Counts}
use Rattle.listed_files.specs.Told.{RenameFailed}
use Rattle.listed_files.proofs.Paths.{same_front}
use Rattle.listed_files.proofs.Standing.{all_both, all_push}

-- the file at each path but these two is as it was
abbrev pub ButTwo : List ℕ → List ℕ → Files → Files → Type 0
ButTwo from to old new = (q : List ℕ) → bytes_eq from q ≡ false → bytes_eq to q ≡ false
    → file_at new q ≡ file_at old q

-- the file of one path stands at another
abbrev pub Carried : List ℕ → List ℕ → Files → Files → Type 0
Carried from to old new = file_at new to ≡ file_at old from

renamed_others : (from to : List ℕ) (result : Result (Unit {0}) FolderFault) (old new : Held)
    → Changes (Lacks from) (moved from to) (DoneOrNot (moved from to)) result old new
    → Became (ButTwo from to) old.files new.files
renamed_others from to result old new h =
    became_of (Lacks from) (moved from to) (DoneOrNot (moved from to)) (ButTwo from to) result old new
    (λ f q a b. refl) (λ f q a b. moved_other from to q f a b)
    (λ f g part q a b. done_or_not (moved from to) q f g part (moved_other from to q f a b)) h

carried : (o : Option (List ℕ)) (from to : List ℕ) (files : Files) → file_at files from ≡ o
    → ¬ (file_at files from ≡ None) → Carried from to files (moved from to files)
carried None from to files is some = absurd (some is)
carried (Some b) from to files is some = moved_there from to b files is ∙ sym is

carried_if : (o new : Option Files) (from to : List ℕ) → new ≡ option_map (moved from to) o
    → ((f : Files) → o ≡ Some f → ¬ (Lacks from f)) → Became (Carried from to) o new
carried_if None new from to is found = is
carried_if (Some f) new from to is found =
    (moved from to f, is, carried (file_at f from) from to f refl (found f refl))

le_same : {a b : ℕ} → b ≡ a → a ≤ b
le_same {a} {b} h = omega (arith, h)

-- what was there is not missing
sized_some : (files : Files) (path : List ℕ) (n : ℕ) → size_at files path ≡ Some n → ¬ (Lacks path files)
sized_some files path n sized none =
    absurd (true≢false (ap is_some (sym sized ∙ ap (option_map length) none)))

not_told : (o : Option Files) (path : List ℕ) (n : ℕ) → ((f : Files) → o ≡ Some f → size_at f path ≡ Some n)
    → ((f : Files) → o ≡ Some f → Lacks path f) → o ≡ None
not_told None path n sized lacks = refl
not_told (Some f) path n sized lacks = absurd (sized_some f path n (sized f refl) (lacks f refl))

-- what a rename of a file to the path of a key leaves
pub record Renamed (root key from : List ℕ) (n : ℕ) (es : Entries) (result : Result (Unit {0}) FolderFault)
    (old new : Held) : Type 0 where
  pub stands : Stands root new es
  pub others : Became (ButUnderAnd root from) old.files new.files
  pub untouched : Became (ButThese root from (root ++ key) es) old.files new.files
  pub keeps : Became (Keeps root es) old.files new.files
  pub counts : Counts result old new
  pub content : OnOk result (Became (Carried from (root ++ key)) old.files new.files)
  pub pushed : OnOk result (Stands root new (es ++ (key, n) ∷ []))

-- no entry has either path
apart_from : (root key from : List ℕ) (es : Entries) → Avoids root from es
    → AllByRecursion (λ e. bytes_eq key e.0 ≡ false) es
    → AllByRecursion (λ e. (bytes_eq from (root ++ e.0) ≡ false)
    × (bytes_eq (root ++ key) (root ++ e.0) ≡ false)) es
apart_from root key from es avoids absent =
    all_both es avoids absent (λ e is other. (apart (root ++ e.0) from is, same_front root key e.0 ∙ other))

module _ (root key from : List ℕ) (n : ℕ) (es : Entries) (old new : Held) where
  keeping : Avoids root from es → lookup (bytes_eq key) es ≡ None
      → Became (ButTwo from (root ++ key)) old.files new.files → Became (Keeps root es) old.files new.files
  keeping avoids absent others =
      let away = apart_from root key from es avoids (none_passes_from_lookup (bytes_eq key) es absent) in
      became_map (ButTwo from (root ++ key)) (Keeps root es) old.files new.files
      (λ f g but. all_both es away away (λ e other again. but (root ++ e.0) other.0 other.1)) others

  standing : Stands root old es → Became (Keeps root es) old.files new.files → Stands root new es
  standing h keeps = record {
    keys = h.keys;
    backed = λ files is.
        let w = became_from (Keeps root es) old.files new.files files keeps is in
        all_both es (h.backed w.0 w.1) w.2 (λ e sized same. ap (option_map length) same ∙ sized);
  }

  outside : Became (ButTwo from (root ++ key)) old.files new.files
      → Became (ButUnderAnd root from) old.files new.files
  outside others =
      became_map (ButTwo from (root ++ key)) (ButUnderAnd root from) old.files new.files
      (λ f g but q away not_from. but q not_from (away key)) others

  these : Became (ButTwo from (root ++ key)) old.files new.files
      → Became (ButThese root from (root ++ key) es) old.files new.files
  these others =
      became_map (ButTwo from (root ++ key)) (ButThese root from (root ++ key) es) old.files new.files
      (λ f g but q not_from not_path avoids. but q not_from not_path) others

  placed : is_key key ≡ true → Stands root new es → Holds old (λ f. size_at f from ≡ Some n)
      → Became (Carried from (root ++ key)) old.files new.files → Stands root new (es ++ (key, n) ∷ [])
  placed fit h sized content = record {
    keys = all_push (λ e. is_key e.0 ≡ true) es (key, n) h.keys fit;
    backed = λ files is.
        let w = became_from (Carried from (root ++ key)) old.files new.files files content is in
        all_push (λ e. size_at files (root ++ e.0) ≡ Some e.1) es (key, n) (h.backed files is)
        (ap (option_map length) w.2 ∙ sized w.0 w.1);
  }

  made : (result : Result (Unit {0}) FolderFault) → Avoids root from es → lookup (bytes_eq key) es ≡ None
      → Stands root old es
      → Changes (Lacks from) (moved from (root ++ key)) (DoneOrNot (moved from (root ++ key))) result old new
      → Counts result old new → OnOk result (Became (Carried from (root ++ key)) old.files new.files)
      → (Stands root new es → OnOk result (Stands root new (es ++ (key, n) ∷ [])))
      → Renamed root key from n es result old new
  made result avoids absent h is counts content pushed =
      let others = renamed_others from (root ++ key) result old new is in
      let keeps = keeping avoids absent others in
      let stands = standing h keeps in
      record {
        stands = stands;
        others = outside others;
        untouched = these others;
        keeps = keeps;
        counts = counts;
        content = content;
        pushed = pushed stands;
      }

  at_paths : (result : Result (Unit {0}) FolderFault) → is_key key ≡ true → Avoids root from es
      → lookup (bytes_eq key) es ≡ None → Stands root old es → Holds old (λ f. size_at f from ≡ Some n)
      → Changes (Lacks from) (moved from (root ++ key)) (DoneOrNot (moved from (root ++ key))) result old new
      → Renamed root key from n es result old new
  at_paths (Ok x) fit avoids absent h sized is =
      let content = carried_if old.files new.files from (root ++ key) (ap (λ k. k.files) is.0) is.1 in
      made (Ok x) avoids absent h is (ap (λ k. k.faults) is.0) content (λ s. placed fit s sized content)
  at_paths (Err Missing) fit avoids absent h sized is =
      made (Err Missing) avoids absent h is
      (not_told old.files from n sized is.1, le_same (ap (λ k. k.faults) is.0)) tt (λ s. tt)
  at_paths (Err Failed) fit avoids absent h sized is =
      made (Err Failed) avoids absent h is (is.1, is.2) tt (λ s. tt)
  at_paths (Err Memory) fit avoids absent h sized is = made (Err Memory) avoids absent h is is.1 tt (λ s. tt)

  -- a rename of a file to the path of a key that is not listed
  pub renamed : (source to : List ℕ) (result : Result (Unit {0}) FolderFault) → source ≡ from
      → to ≡ root ++ key → is_key key ≡ true → Avoids root from es → lookup (bytes_eq key) es ≡ None
      → Stands root old es
      → Holds old (λ f. size_at f from ≡ Some n) → Changes (Lacks source) (moved source to)
      (DoneOrNot (moved source to)) result old new → Renamed root key from n es result old new
  renamed source to result source_is to_is fit avoids absent h sized is =
      let P : List ℕ → List ℕ → Type 0 = λ a b. Changes (Lacks a) (moved a b)
      (DoneOrNot (moved a b)) result old new in
      at_paths result fit avoids absent h sized
      (subst (λ b. P from b) to_is (subst (λ a. P a to) source_is is))

-- the answer of a call that failed so
abbrev failing : FolderFault → Result (Unit {0}) FolderFault
failing fault = Err fault

-- the count of failed renames tells that one failed, since the file was there
pub rename_told : (source to from : List ℕ) (n : ℕ) (fault : FolderFault) (old new : Held) (f g : Failures)
    → source ≡ from → Holds old (λ files. size_at files from ≡ Some n) → Changes (Lacks source) (moved source to)
    (DoneOrNot (moved source to)) (failing fault) old new
    → WhereTold old (g ≡ rename_failed (failing fault) f) → WhereTold old (RenameFailed f g)
rename_told source to from n Missing old new f g same sized is told = λ files at.
    absurd (sized_some files from n (sized files at) (subst (λ p. Lacks p files) same (is.1 files at)))
rename_told source to from n Failed old new f g same sized is told = λ files at. (
  ap (λ c. c.renames) (told files at),
  ap (λ c. c.removals) (told files at),
)
rename_told source to from n Memory old new f g same sized is told = λ files at. (
  ap (λ c. c.renames) (told files at),
  ap (λ c. c.removals) (told files at),
)
