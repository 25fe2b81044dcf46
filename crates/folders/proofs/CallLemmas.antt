-- What a call of a folder leaves, in the words of a step.
use Rattle.std.proofs.Common.{◌≡◌, ℕ, ◌≤◌, Bool, true, false, cond, not, [], ◌∷◌, List, Option, Some, None}
use Rattle.std.proofs.Common.{Result, Ok, Err, IfOk, is_some, refl, sym, ap, subst, ◌∙◌, true≢false, arith}
use Rattle.std.specs.Option.{option_map}
use Rattle.folders.specs.Files.{Files, file_at, without, touched, DoneOrNot, Same}
use Rattle.folders.specs.Held.{Held, Holds, Lacks, Became, Changes}
use Rattle.dist_types.specs.declared.folder_fault.FolderFault.{FolderFault}
use Rattle.dist_types.specs.declared.folder_fault.FolderFault.TheVariants.{Missing, Failed, Memory}
use Rattle.folders.proofs.Became.{became_of, became_map, became_then, became_from, untold}
use Rattle.folders.proofs.Lookups.{without_other, without_same, done_or_not, touched_each}
use Rattle.std.specs.Str.{bytes_eq}
use Rattle.folders.specs.Changed.{ButAt, SameAt, Counts}
use Rattle.dist_types.specs.Cause.{Rose}

pub counts_after : {T : Type 0} (E : Files → Files → Type 0) (result : Result T FolderFault)
    (one two three : Held) → Became E one.files two.files → two.faults ≡ one.faults → Counts result two three
    → Counts result one three
counts_after E (Ok x) one two three became steady counts = counts ∙ steady
counts_after E (Err Failed) one two three became steady counts =
    subst (λ n. Rose n three.faults × (n ≤ three.faults)) steady counts
counts_after E (Err Missing) one two three became steady counts =
    (untold E one.files two.files became counts.0, subst (λ n. n ≤ three.faults) steady counts.1)
counts_after E (Err Memory) one two three became steady counts = counts ∙ steady

-- a removal leaves the other files
pub removed_others : (path : List ℕ) (result : Result (Unit {0}) FolderFault) (old new : Held)
    → Changes (Lacks path) (without path) (DoneOrNot (without path)) result old new
    → Became (ButAt path) old.files new.files
removed_others path result old new h =
    became_of (Lacks path) (without path) (DoneOrNot (without path)) (ButAt path) result old new
    (λ f q other. refl) (λ f q other. without_other path q f other)
    (λ f g part q other. done_or_not (without path) q f g part (without_other path q f other)) h

-- the same at an equal path
pub removed_at : (path at : List ℕ) (result : Result (Unit {0}) FolderFault) (old new : Held) → path ≡ at
    → Changes (Lacks path) (without path) (DoneOrNot (without path)) result old new
    → Became (ButAt at) old.files new.files
removed_at path at result old new is h =
    subst (λ p. Became (ButAt p) old.files new.files) is (removed_others path result old new h)

-- a removal that succeeds, or that finds nothing, leaves no file there
gone_if : (o new : Option Files) (path : List ℕ) → new ≡ option_map (without path) o → (files : Files)
    → new ≡ Some files → Lacks path files
gone_if None new path is files told = let none : None ≡ Some files = sym is ∙ told
    in absurd (true≢false (sym (ap is_some none)))
gone_if (Some f) new path is files told =
    let same : without path f ≡ files = let both : Some (without path f) ≡ Some files = sym is ∙ told in cc in
    subst (λ l. Lacks path l) same (without_same path f)

pub gone_ok : (path at : List ℕ) (x : Unit {0}) (old new : Held) → path ≡ at
    → (let ok : Result (Unit {0}) FolderFault = Ok x in Changes (Lacks path) (without path)
    (DoneOrNot (without path)) ok old new) → Holds new (Lacks at)
gone_ok path at x old new is h = λ files told.
    subst (λ p. Lacks p files) is (gone_if old.files new.files path (ap (λ k. k.files) h.0) files told)

-- a touch leaves all files, and so does a read
pub touched_same : {T : Type 0} (path : List ℕ) (result : Result T FolderFault) (old new : Held)
    → Changes (Lacks path) (touched path) (DoneOrNot (touched path)) result old new
    → Became SameAt old.files new.files
touched_same path result old new h =
    became_of (Lacks path) (touched path) (DoneOrNot (touched path)) SameAt result old new (λ f q. refl)
    (λ f q. touched_each path q f)
    (λ f g part q. done_or_not (touched path) q f g part (touched_each path q f)) h

pub left_same : {T : Type 0} (lacking : Files → Type 0) (result : Result T FolderFault) (old new : Held)
    → Changes lacking (λ files. files) Same result old new → Became SameAt old.files new.files
left_same lacking result old new h =
    became_of lacking (λ files. files) Same SameAt result old new (λ f q. refl) (λ f q. refl)
    (λ f g same q. ap (λ l. file_at l q) same) h

pub read_same : {T : Type 0} (path : List ℕ) (result : Result T FolderFault) (old new : Held)
    → Changes (Lacks path) (λ files. files) Same result old new → Became SameAt old.files new.files
read_same path result old new h = left_same (Lacks path) result old new h

pub same_at : (path : List ℕ) (old new : Option Files) → Became SameAt old new → Became (ButAt path) old new
same_at path old new h = became_map SameAt (ButAt path) old new (λ f g same q away. same q) h

pub at_then : (path : List ℕ) (one two three : Option Files) → Became (ButAt path) one two
    → Became (ButAt path) two three → Became (ButAt path) one three
at_then path one two three a b =
    became_then (ButAt path) (ButAt path) (ButAt path) one two three (λ f g h x y q away. y q away ∙ x q away)
    a b

pub same_then : (one two three : Option Files) → Became SameAt one two → Became SameAt two three
    → Became SameAt one three
same_then one two three a b =
    became_then SameAt SameAt SameAt one two three (λ f g h x y q. y q ∙ x q) a b

-- what is read behind a touch was there before
there_after : (old new : Held) (path : List ℕ) → Became SameAt old.files new.files
    → Holds old (λ f. ¬ (Lacks path f)) → Holds new (λ f. ¬ (Lacks path f))
there_after old new path same there files told =
    let w = became_from SameAt old.files new.files files same told in
    λ lacks. there w.0 w.1 (sym (w.2 path) ∙ lacks)

into : (o new : Option Files) (f : Files) → Became SameAt o new → o ≡ Some f → (g : Files) × (new ≡ Some g)
    × SameAt f g
into None new f h is = absurd (true≢false (sym (ap is_some is)))
into (Some e) new f h is =
    let same : e ≡ f = cc in
    (h.0, h.1, subst (λ l. SameAt l h.0) same h.2)

pub content_before : {T : Type 0} (view : T → List ℕ) (path at : List ℕ) (result : Result T FolderFault)
    (old new : Held) → path ≡ at → Became SameAt old.files new.files
    → IfOk result (λ v. Holds new (λ f. file_at f path ≡ Some (view v)))
    → IfOk result (λ v. Holds old (λ f. file_at f at ≡ Some (view v)))
content_before view path at (Ok v) old new is same content = λ files told.
    let w = into old.files new.files files same told in
    subst (λ p. file_at files p ≡ Some (view v)) is (sym (w.2 path) ∙ content w.0 w.1)
content_before view path at (Err e) old new is same content = content

none_lacks : (o : Option Files) (path : List ℕ) → ((f : Files) → o ≡ Some f → ¬ (Lacks path f))
    → ((f : Files) → o ≡ Some f → Lacks path f) → o ≡ None
none_lacks None path there lacks = refl
none_lacks (Some f) path there lacks = absurd (there f refl (lacks f refl))

read_counts : {T : Type 0} (path : List ℕ) (result : Result T FolderFault) (old new : Held)
    → Holds old (λ f. ¬ (Lacks path f)) → Changes (Lacks path) (λ files. files) Same result old new
    → Counts result old new
read_counts path (Ok x) old new there h = ap (λ k. k.faults) h.0
read_counts path (Err Missing) old new there h =
    let same : new.faults ≡ old.faults = ap (λ k. k.faults) h.0 in
    (none_lacks old.files path there h.1, omega (arith, same))
read_counts path (Err Failed) old new there h = (h.1, h.2)
read_counts path (Err Memory) old new there h = h.1

pub fetch_counts : {T : Type 0} (path at : List ℕ) (result : Result T FolderFault) (one two three : Held)
    → path ≡ at → Holds one (λ f. ¬ (Lacks at f)) → Became SameAt one.files two.files
    → two.faults ≡ one.faults
    → Changes (Lacks path) (λ files. files) Same result two three → Counts result one three
fetch_counts path at result one two three is there same steady h =
    let there_too = subst (λ p. Holds one (λ f. ¬ (Lacks p f))) (sym is) there in
    counts_after SameAt result one two three same steady
    (read_counts path result two three (there_after one two path same there_too) h)

-- a removal that succeeds takes out that file, and one that finds none has nothing to take
taken_if : (o new : Option Files) (path : List ℕ) → new ≡ option_map (without path) o
    → Became (λ f g. g ≡ without path f) o new
taken_if None new path is = is
taken_if (Some f) new path is = (without path f, is, refl)

pub taken_ok : (path at : List ℕ) (x : Unit {0}) (old new : Held) → path ≡ at
    → (let ok : Result (Unit {0}) FolderFault = Ok x in Changes (Lacks path) (without path)
    (DoneOrNot (without path)) ok old new) → Became (λ f g. g ≡ without at f) old.files new.files
taken_ok path at x old new is h =
    let P : List ℕ → Type 0 = λ p. Became (λ f g. g ≡ without p f) old.files new.files in
    subst P is (taken_if old.files new.files path (ap (λ k. k.files) h.0))

nothing_out : (path : List ℕ) (files : Files) → Lacks path files → without path files ≡ files
nothing_out path [] lacks = refl
nothing_out path (f ∷ fs) lacks = by (bytes_eq path f.0) lacks (nothing_out path fs)
  where
    by : (b : Bool) → cond b (Some f.1) (file_at fs path) ≡ None → (Lacks path fs → without path fs ≡ fs)
        → cond (not b) (f ∷ without path fs) (without path fs) ≡ f ∷ fs
    by true some rest = absurd (true≢false (ap is_some some))
    by false none rest = ap (λ l. f ∷ l) (rest none)

nothing_if : (o new : Option Files) (path : List ℕ) → new ≡ o → ((f : Files) → o ≡ Some f → Lacks path f)
    → Became (λ f g. g ≡ without path f) o new
nothing_if None new path is lacks = is
nothing_if (Some f) new path is lacks = (f, is, sym (nothing_out path f (lacks f refl)))

pub taken_missing : (path at : List ℕ) (result : Result (Unit {0}) FolderFault) (old new : Held)
    → result ≡ Err Missing → path ≡ at → Changes (Lacks path) (without path)
    (DoneOrNot (without path)) result old new → Became (λ f g. g ≡ without at f) old.files new.files
taken_missing path at result old new was is h =
    let P : List ℕ → Type 0 = λ p. Became (λ f g. g ≡ without p f) old.files new.files in
    let Q : Result (Unit {0}) FolderFault → Type 0 = λ r. Changes (Lacks path) (without path)
    (DoneOrNot (without path)) r old new in
    let m = subst Q was h in
    subst P is (nothing_if old.files new.files path (ap (λ k. k.files) m.0) m.1)
