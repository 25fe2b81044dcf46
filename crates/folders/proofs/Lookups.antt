-- What calls of a folder leave at each path.
use Rattle.std.proofs.Common.{◌≡◌, ℕ, Bool, true, false, cond, not, List, [], ◌∷◌, ◌++◌, take, Option, Some}
use Rattle.std.proofs.Common.{None, inl, inr, refl, sym, ap, subst, ◌∙◌}
use Rattle.std.specs.Map.{lookup}
use Rattle.std.specs.Str.{bytes_eq}
use Rattle.std.proofs.lemmas.Slice.Eq.{bytes_eq-Decides}
use Rattle.folders.specs.Files.{Files, file_at, without, put, put_found, moved, touched, PartWritten}
use Rattle.folders.specs.Files.{DoneOrNot}
use Rattle.folders.proofs.Distinct.{apart}

-- a text is itself
pub itself : (p : List ℕ) → bytes_eq p p ≡ true
itself p = (bytes_eq-Decides p p).1 refl

-- what differs from a text differs from its equals
differs : (p q r : List ℕ) → bytes_eq p q ≡ false → bytes_eq p r ≡ true → bytes_eq q r ≡ false
differs p q r other same =
    let is : p ≡ r = (bytes_eq-Decides p r).0 same in
    let P : List ℕ → Type 0 = λ x. bytes_eq q x ≡ false in
    subst P is (apart p q other)

-- a file that goes last is found where no other is
pub last_other : (test : List ℕ → Bool) (files : Files) (f : List ℕ × List ℕ) → test f.0 ≡ false
    → lookup test (files ++ f ∷ []) ≡ lookup test files
last_other test [] f other = ap (λ b. cond b (Some f.1) None) other
last_other test (g ∷ gs) f other = ap (λ o. cond (test g.0) (Some g.1) o) (last_other test gs f other)

pub without_other : (p q : List ℕ) (files : Files) → bytes_eq p q ≡ false
    → file_at (without p files) q ≡ file_at files q
without_other p q [] other = refl
without_other p q (f ∷ fs) other = by (bytes_eq p f.0) refl (without_other p q fs other)
  where
    by : (b : Bool) → bytes_eq p f.0 ≡ b → file_at (without p fs) q ≡ file_at fs q
        → lookup (bytes_eq q) (cond (not b) (f ∷ without p fs) (without p fs)) ≡ lookup (bytes_eq q) (f ∷ fs)
    by true same rest = rest ∙ sym (ap (λ b. cond b (Some f.1) (file_at fs q)) (differs p q f.0 other same))
    by false same rest = ap (λ o. cond (bytes_eq q f.0) (Some f.1) o) rest

pub without_same : (p : List ℕ) (files : Files) → file_at (without p files) p ≡ None
without_same p [] = refl
without_same p (f ∷ fs) = by (bytes_eq p f.0) refl (without_same p fs)
  where
    by : (b : Bool) → bytes_eq p f.0 ≡ b → file_at (without p fs) p ≡ None
        → lookup (bytes_eq p) (cond (not b) (f ∷ without p fs) (without p fs)) ≡ None
    by true same rest = rest
    by false same rest = ap (λ b. cond b (Some f.1) (file_at (without p fs) p)) same ∙ rest

last_same : (test : List ℕ → Bool) (files : Files) (f : List ℕ × List ℕ) → lookup test files ≡ None
    → test f.0 ≡ true → lookup test (files ++ f ∷ []) ≡ Some f.1
last_same test [] f none same = ap (λ b. cond b (Some f.1) None) same
last_same test (g ∷ gs) f none same = by (test g.0) none (last_same test gs f)
  where
    by : (b : Bool) → cond b (Some g.1) (lookup test gs) ≡ None
        → (lookup test gs ≡ None → test f.0 ≡ true → lookup test (gs ++ f ∷ []) ≡ Some f.1)
        → cond b (Some g.1) (lookup test (gs ++ f ∷ [])) ≡ Some f.1
    by true some rest = cc
    by false rest_none rest = rest rest_none same

pub put_same : (p b : List ℕ) (files : Files) → file_at (put p b files) p ≡ Some b
put_same p b files = last_same (bytes_eq p) (without p files) (p, b) (without_same p files) (itself p)

pub put_other : (p q b : List ℕ) (files : Files) → bytes_eq p q ≡ false
    → file_at (put p b files) q ≡ file_at files q
put_other p q b files other =
    last_other (bytes_eq q) (without p files) (p, b) (apart p q other) ∙ without_other p q files other

-- a part of a write leaves the other files
pub part_other : (p q b : List ℕ) (old new : Files) → PartWritten p b old new → bytes_eq p q ≡ false
    → file_at new q ≡ file_at old q
part_other p q b old new part other =
    elim part [
      | inl same ↦ ap (λ f. file_at f q) same
      | inr w ↦ ap (λ f. file_at f q) w.1
          ∙ put_other p q (take w.0 b) old other
    ]

-- where nothing is found nothing is put, and else the file found stands there
moved_by : (o : Option (List ℕ)) (p q : List ℕ) (old rest : Files) → bytes_eq p q ≡ false
    → file_at rest q ≡ file_at old q → file_at (put_found o p old rest) q ≡ file_at old q
moved_by None p q old rest other same = refl
moved_by (Some b) p q old rest other same = put_other p q b rest other ∙ same

pub moved_other : (from to q : List ℕ) (files : Files) → bytes_eq from q ≡ false → bytes_eq to q ≡ false
    → file_at (moved from to files) q ≡ file_at files q
moved_other from to q files not_from not_to =
    moved_by (file_at files from) to q files (without from files) not_to (without_other from q files not_from)

pub moved_there : (from to b : List ℕ) (files : Files) → file_at files from ≡ Some b
    → file_at (moved from to files) to ≡ Some b
moved_there from to b files is =
    ap (λ o. file_at (put_found o to files (without from files)) to) is ∙ put_same to b (without from files)

touched_by : (o : Option (List ℕ)) (p q : List ℕ) (files : Files) → o ≡ file_at files p
    → file_at (put_found o p files files) q ≡ file_at files q
touched_by None p q files is = refl
touched_by (Some b) p q files is = by (bytes_eq p q) refl
  where
    by : (c : Bool) → bytes_eq p q ≡ c → file_at (put p b files) q ≡ file_at files q
    by false other = put_other p q b files other
    by true same =
        let P : List ℕ → Type 0 = λ x. file_at (put p b files) x ≡ file_at files x in
        subst P ((bytes_eq-Decides p q).0 same) (put_same p b files ∙ is)

-- a touch leaves each file
pub touched_each : (p q : List ℕ) (files : Files) → file_at (touched p files) q ≡ file_at files q
touched_each p q files = touched_by (file_at files p) p q files refl

pub done_or_not : (done : Files → Files) (q : List ℕ) (old new : Files) → DoneOrNot done old new
    → file_at (done old) q ≡ file_at old q → file_at new q ≡ file_at old q
done_or_not done q old new part same =
    elim part [ inl is ↦ ap (λ f. file_at f q) is | inr is ↦ ap (λ f. file_at f q) is ∙ same ]
