-- What a walk along a path's steps keeps.
use Rattle.std.proofs.Common.{◌≡◌, ℕ, zero, suc, List, [], ◌∷◌, ◌++◌, Bool, true, false, Result, Ok, Err}
use Rattle.std.proofs.Common.{refl, sym, ◌∙◌, subst, arith}
use Rattle.path_pkg.specs.Told.{Nodes}
use Rattle.path_pkg.specs.Path.{steps_of}
use Rattle.path_pkg.specs.Tree.{is_link}
use Rattle.path_pkg.specs.Spot.{Spot, spot_text, above, below, noted, beside}
use Rattle.path_pkg.specs.Simplified.{is_met, link_target, taken}
use Rattle.path_pkg.specs.declared.path.Step.{Step}
use Rattle.path_pkg.specs.declared.path.Step.TheVariants.{Up, Name, Linked}
use Rattle.path_pkg.specs.declared.fault.PackError.{PackError}
use Rattle.path_pkg.specs.declared.fault.PackError.TheVariants.{LinkInParent, TooManyLinks}
use Rattle.path_pkg.proofs.TakenLemmas.{taken_none, taken_up, taken_up_link, taken_name, taken_link}
use Rattle.path_pkg.proofs.TakenLemmas.{taken_many, taken_linked}

not_ok : (s : Spot) (e : PackError) (w : Result Spot PackError) → w ≡ Err e → w ≡ Ok s → ⊥
not_ok s e w is ok = let clash : Err e ≡ Ok s = sym is ∙ ok in cc

the_same : (s s2 : Spot) (w : Result Spot PackError) → w ≡ Ok s → w ≡ Ok s2 → s ≡ s2
the_same s s2 w is ok = cc

-- what each step keeps of the links that may still be replaced, the spot, and the steps that are left
pub record Keeps (t : Nodes) (recording : Bool) (P : ℕ → Spot → List Step → Type 0) : Type 0 where
  pub up : (n : ℕ) (s : Spot) (rest : List Step) → P n s (Up ∷ rest) → P n (above s) rest
  pub name : (n : ℕ) (s : Spot) (part : List ℕ) (rest : List Step) → is_met t recording (below s part) ≡ false
      → P n s (Name part ∷ rest) → P n (below s part) rest
  pub link : (n : ℕ) (s : Spot) (part : List ℕ) (rest : List Step) → is_met t recording (below s part) ≡ true
      → P (suc n) s (Name part ∷ rest)
      → P n (beside s (link_target t (below s part)))
      (steps_of (link_target t (below s part)) ++ Linked (spot_text (below s part)) ∷ rest)
  pub linked : (n : ℕ) (s : Spot) (path : List ℕ) (rest : List Step) → P n s (Linked path ∷ rest)
      → P n (noted s path) rest

-- where a walk ends, it holds still
abbrev Ends : Nodes → Bool → (ℕ → Spot → List Step → Type 0) → ℕ → Type 0
Ends t r P n = (s : Spot) (todo : List Step) (s2 : Spot) → P n s todo → taken n t r s todo ≡ Ok s2 → (m : ℕ)
    × P m s2 []

through : (t : Nodes) (r : Bool) (P : ℕ → Spot → List Step → Type 0) → Keeps t r P → (n : ℕ)
    → ((k : ℕ) → n ≡ suc k → Ends t r P k) → Ends t r P n
through t r P keeps n deeper s [] s2 p e =
    let Q : Spot → Type 0 = λ x. P n x [] in
    (n, subst Q (the_same s s2 (taken n t r s []) (taken_none n t r s) e) p)
through t r P keeps n deeper s (Up ∷ rest) s2 p e =
    by_test (is_link t (spot_text s)) refl
    (λ h. through t r P keeps n deeper (above s) rest s2 (keeps.up n s rest p)
    (sym (taken_up n t r s rest h) ∙ e))
  where
    by_test : (b : Bool) → is_link t (spot_text s) ≡ b
        → (is_link t (spot_text s) ≡ false → (m : ℕ) × P m s2 []) → (m : ℕ) × P m s2 []
    by_test true h later = absurd (not_ok s2 LinkInParent _ (taken_up_link n t r s rest h) e)
    by_test false h later = later h
through t r P keeps n deeper s (Name part ∷ rest) s2 p e =
    by_test (is_met t r (below s part)) refl n refl
    (λ h. through t r P keeps n deeper (below s part) rest s2 (keeps.name n s part rest h p)
    (sym (taken_name n t r s part rest h) ∙ e))
  where
    by_test : (b : Bool) → is_met t r (below s part) ≡ b → (k : ℕ) → n ≡ k
        → (is_met t r (below s part) ≡ false → (m : ℕ) × P m s2 []) → (m : ℕ) × P m s2 []
    by_test false h k is later = later h
    by_test true h zero is later =
        let Q : ℕ → Type 0 = λ x. taken x t r s (Name part ∷ rest) ≡ Ok s2 in
        absurd (not_ok s2 TooManyLinks _ (taken_many t r s part rest h) (subst Q is e))
    by_test true h (suc k) is later =
        let Q : ℕ → Type 0 = λ x. taken x t r s (Name part ∷ rest) ≡ Ok s2 in
        let R : ℕ → Type 0 = λ x. P x s (Name part ∷ rest) in
        deeper k is _ _ s2 (keeps.link k s part rest h (subst R is p)) (sym (taken_link k t r s part rest h)
        ∙ subst Q is e)
through t r P keeps n deeper s (Linked path ∷ rest) s2 p e =
    through t r P keeps n deeper (noted s path) rest s2 (keeps.linked n s path rest p)
    (sym (taken_linked n t r s path rest) ∙ e)

one_less : (n k : ℕ) → suc n ≡ suc k → n ≡ k
one_less n k e = omega arith

pub ends : (t : Nodes) (r : Bool) (P : ℕ → Spot → List Step → Type 0) → Keeps t r P → (n : ℕ) → Ends t r P n
ends t r P keeps zero = through t r P keeps zero (λ k e. absurd (omega arith))
ends t r P keeps (suc n) = through t r P keeps (suc n)
    (λ k e. let Q : ℕ → Type 0 = Ends t r P in subst Q (one_less n k e) (ends t r P keeps n))
