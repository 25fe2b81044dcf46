-- What is left of the files, where they are told.
use Rattle.std.proofs.Common.{◌≡◌, Option, Some, None, Result, Ok, Err, refl, sym, ap, subst, ◌∙◌}
use Rattle.std.specs.Option.{option_map}
use Rattle.folders.specs.Files.{Files}
use Rattle.folders.specs.Held.{Held, Became, Changes}
use Rattle.dist_types.specs.declared.folder_fault.FolderFault.{FolderFault}
use Rattle.dist_types.specs.declared.folder_fault.FolderFault.TheVariants.{Missing, Failed, Memory}

pub became_map : (P E : Files → Files → Type 0) (old new : Option Files) → ((f g : Files) → P f g → E f g)
    → Became P old new → Became E old new
became_map P E None new to h = h
became_map P E (Some f) new to h = (h.0, h.1, to f h.0 h.2)

became_done : (E : Files → Files → Type 0) (done : Files → Files) (old : Option Files)
    → ((f : Files) → E f (done f)) → Became E old (option_map done old)
became_done E done None to = refl
became_done E done (Some f) to = (done f, refl, to f)

pub became_same : (E : Files → Files → Type 0) (old : Option Files) → ((f : Files) → E f f) → Became E old old
became_same E None to = refl
became_same E (Some f) to = (f, refl, to f)

-- one change behind another
pub became_then : (A B C : Files → Files → Type 0) (one two three : Option Files)
    → ((f g h : Files) → A f g → B g h → C f h) → Became A one two → Became B two three → Became C one three
became_then A B C None two three join a b =
    let P : Option Files → Type 0 = λ o. Became B o three in
    subst P a b
became_then A B C (Some f) two three join a b =
    let P : Option Files → Type 0 = λ o. Became B o three in
    let c = subst P a.1 b in
    (c.0, c.1, join f a.0 c.0 a.2 c.2)

-- the files that are told were told
pub became_from : (E : Files → Files → Type 0) (old new : Option Files) (files : Files) → Became E old new
    → new ≡ Some files → (before : Files) × (old ≡ Some before) × E before files
became_from E None new files h is = let no_files : None ≡ Some files = sym h ∙ is in cc
became_from E (Some f) new files h is =
    let P : Files → Type 0 = λ x. E f x in
    let same : h.0 ≡ files = let both : Some h.0 ≡ Some files = sym h.1 ∙ is in cc in
    (f, refl, subst P same h.2)

-- what is not told was not
pub untold : (E : Files → Files → Type 0) (old new : Option Files) → Became E old new → new ≡ None
    → old ≡ None
untold E None new h is = refl
untold E (Some f) new h is = let some : Some h.0 ≡ None = sym h.1 ∙ is in cc

-- what every outcome of a call leaves
pub became_of : {T : Type 0} (lacking : Files → Type 0) (done : Files → Files)
    (part E : Files → Files → Type 0) (result : Result T FolderFault) (old new : Held)
    → ((f : Files) → E f f) → ((f : Files) → E f (done f)) → ((f g : Files) → part f g → E f g)
    → Changes lacking done part result old new → Became E old.files new.files
became_of lacking done part E (Ok x) old new same whole some h =
    let P : Option Files → Type 0 = λ o. Became E old.files o in
    subst P (sym (ap (λ k. k.files) h.0)) (became_done E done old.files whole)
became_of lacking done part E (Err Missing) old new same whole some h =
    let P : Option Files → Type 0 = λ o. Became E old.files o in
    subst P (sym (ap (λ k. k.files) h.0)) (became_same E old.files same)
became_of lacking done part E (Err Failed) old new same whole some h =
    became_map part E old.files new.files some h.0
became_of lacking done part E (Err Memory) old new same whole some h =
    became_map part E old.files new.files some h.0
