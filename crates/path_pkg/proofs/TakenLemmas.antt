-- What one step more does.
use Rattle.std.proofs.Common.{◌≡◌, ℕ, zero, suc, ◌-◌, ◌<◌, List, [], ◌∷◌, ◌++◌, length, take, Bool, true}
use Rattle.std.proofs.Common.{false, Result, Ok, Err, refl, sym, ap, ◌∙◌, arith}
use Rattle.std.proofs.Math.Seq.{take-append_seam}
use Rattle.std.proofs.lemmas.List.{length-append}
use Rattle.path_pkg.specs.Fault.{IsPackAnswer}
use Rattle.path_pkg.specs.Told.{Nodes}
use Rattle.path_pkg.specs.Tree.{is_link}
use Rattle.path_pkg.specs.Path.{steps_of}
use Rattle.path_pkg.specs.Spot.{Spot, spot_text, above, below, noted, beside}
use Rattle.path_pkg.specs.Simplified.{is_met, link_target, taken_by, taken, simplified, text_of, simple_path}
use Rattle.path_pkg.specs.declared.path.Step.{Step}
use Rattle.path_pkg.specs.declared.path.Step.TheVariants.{Up, Name, Linked}
use Rattle.path_pkg.specs.declared.fault.PackError.{PackError}
use Rattle.path_pkg.specs.declared.fault.PackError.TheVariants.{LinkInParent, TooManyLinks}

pub taken_none : (n : ℕ) (t : Nodes) (r : Bool) (s : Spot) → taken n t r s [] ≡ Ok s
unfolding taken_by taken
taken_none zero t r s = refl
taken_none (suc n) t r s = refl

pub taken_up : (n : ℕ) (t : Nodes) (r : Bool) (s : Spot) (rest : List Step) → is_link t (spot_text s) ≡ false
    → taken n t r s (Up ∷ rest) ≡ taken n t r (above s) rest
unfolding taken_by taken
taken_up zero t r s rest h = rw h refl
taken_up (suc n) t r s rest h = rw h refl

pub taken_up_link : (n : ℕ) (t : Nodes) (r : Bool) (s : Spot) (rest : List Step)
    → is_link t (spot_text s) ≡ true → taken n t r s (Up ∷ rest) ≡ Err LinkInParent
unfolding taken_by taken
taken_up_link zero t r s rest h = rw h refl
taken_up_link (suc n) t r s rest h = rw h refl

pub taken_name : (n : ℕ) (t : Nodes) (r : Bool) (s : Spot) (name : List ℕ) (rest : List Step)
    → is_met t r (below s name) ≡ false → taken n t r s (Name name ∷ rest) ≡ taken n t r (below s name) rest
unfolding taken_by taken
taken_name zero t r s name rest h = rw h refl
taken_name (suc n) t r s name rest h = rw h refl

pub taken_link : (n : ℕ) (t : Nodes) (r : Bool) (s : Spot) (name : List ℕ) (rest : List Step)
    → is_met t r (below s name) ≡ true
    → taken (suc n) t r s (Name name ∷ rest) ≡ taken n t r (beside s (link_target t (below s name)))
    (steps_of (link_target t (below s name)) ++ Linked (spot_text (below s name)) ∷ rest)
unfolding taken_by taken
taken_link n t r s name rest h = rw h refl

pub taken_many : (t : Nodes) (r : Bool) (s : Spot) (name : List ℕ) (rest : List Step)
    → is_met t r (below s name) ≡ true → taken zero t r s (Name name ∷ rest) ≡ Err TooManyLinks
unfolding taken_by taken
taken_many t r s name rest h = rw h refl

pub taken_linked : (n : ℕ) (t : Nodes) (r : Bool) (s : Spot) (path : List ℕ) (rest : List Step)
    → taken n t r s (Linked path ∷ rest) ≡ taken n t r (noted s path) rest
unfolding taken_by taken
taken_linked zero t r s path rest = refl
taken_linked (suc n) t r s path rest = refl

-- one step more, in a walk that has come so far
pub kept_up : (n : ℕ) (t : Nodes) (r : Bool) (s s2 s0 : Spot) (step : Step) (todo rest todo0 : List Step)
    → todo ≡ step ∷ rest → step ≡ Up → s2 ≡ above s
    → is_link t (spot_text s) ≡ false → taken n t r s todo ≡ taken n t r s0 todo0
    → taken n t r s2 rest ≡ taken n t r s0 todo0
kept_up n t r s s2 s0 step todo rest todo0 popped is moved free so_far =
    ap (λ x. taken n t r x rest) moved ∙ sym (taken_up n t r s rest free) ∙ ap (λ x. taken n t r s (x ∷ rest))
    (sym is) ∙ ap (taken n t r s) (sym popped) ∙ so_far

pub kept_name : (n : ℕ) (t : Nodes) (r : Bool) (s s2 s0 : Spot) (step : Step) (name : List ℕ)
    (todo rest todo0 : List Step) → todo ≡ step ∷ rest → step ≡ Name name → s2 ≡ below s name
    → is_met t r s2 ≡ false → taken n t r s todo ≡ taken n t r s0 todo0
    → taken n t r s2 rest ≡ taken n t r s0 todo0
kept_name n t r s s2 s0 step name todo rest todo0 popped is moved unmet so_far =
    ap (λ x. taken n t r x rest) moved
    ∙ sym (taken_name n t r s name rest (ap (is_met t r) (sym moved) ∙ unmet))
    ∙ ap (λ x. taken n t r s (x ∷ rest)) (sym is) ∙ ap (taken n t r s) (sym popped) ∙ so_far

pub kept_linked : (n : ℕ) (t : Nodes) (r : Bool) (s s2 s0 : Spot) (step : Step) (path : List ℕ)
    (todo rest todo0 : List Step) → todo ≡ step ∷ rest → step ≡ Linked path → s2 ≡ noted s path
    → taken n t r s todo ≡ taken n t r s0 todo0 → taken n t r s2 rest ≡ taken n t r s0 todo0
kept_linked n t r s s2 s0 step path todo rest todo0 popped is moved so_far =
    ap (λ x. taken n t r x rest) moved ∙ sym (taken_linked n t r s path rest)
    ∙ ap (λ x. taken n t r s (x ∷ rest)) (sym is) ∙ ap (taken n t r s) (sym popped) ∙ so_far

pub ends_up : (n : ℕ) (t : Nodes) (r : Bool) (s s0 : Spot) (step : Step) (todo rest todo0 : List Step)
    → todo ≡ step ∷ rest → step ≡ Up
    → is_link t (spot_text s) ≡ true → taken n t r s todo ≡ taken n t r s0 todo0
    → taken n t r s0 todo0 ≡ Err LinkInParent
ends_up n t r s s0 step todo rest todo0 popped is at_link so_far =
    sym so_far ∙ ap (taken n t r s) popped ∙ ap (λ x. taken n t r s (x ∷ rest)) is
    ∙ taken_up_link n t r s rest at_link

pub ends_many : (n : ℕ) (t : Nodes) (r : Bool) (s s2 s0 : Spot) (step : Step) (name : List ℕ)
    (todo rest todo0 : List Step) → todo ≡ step ∷ rest → step ≡ Name name → s2 ≡ below s name
    → is_met t r s2 ≡ true → n ≡ 0 → taken n t r s todo ≡ taken n t r s0 todo0
    → taken n t r s0 todo0 ≡ Err TooManyLinks
ends_many zero t r s s2 s0 step name todo rest todo0 popped is moved met none so_far =
    sym so_far ∙ ap (taken zero t r s) popped ∙ ap (λ x. taken zero t r s (x ∷ rest)) is
    ∙ taken_many t r s name rest (ap (is_met t r) (sym moved) ∙ met)
ends_many (suc n) t r s s2 s0 step name todo rest todo0 popped is moved met none so_far = absurd (omega arith)

-- above what is below
pub above_below : (s : Spot) (name : List ℕ) → above (below s name) ≡ s
above_below s name = ap (λ (p : List (List ℕ)). record s { parts = p }) (front s.parts)
  where
    front : (xs : List (List ℕ)) → take (length (xs ++ name ∷ []) - 1) (xs ++ name ∷ []) ≡ xs
    front xs = let n : length (xs ++ name ∷ []) - 1 ≡ length xs = simp length-append (omega arith)
        in rw n (take-append_seam xs (name ∷ []))

pub goes_on : (n : ℕ) (t : Nodes) (r : Bool) (s s2 s3 s0 : Spot) (step : Step) (name : List ℕ)
    (todo rest next todo0 : List Step) → todo ≡ step ∷ rest → step ≡ Name name → s2 ≡ below s name
    → is_met t r s2 ≡ true → 0 < n → s3 ≡ beside (above s2) (link_target t s2)
    → next ≡ steps_of (link_target t s2) ++ Linked (spot_text s2) ∷ rest
    → taken n t r s todo ≡ taken n t r s0 todo0 → taken (n - 1) t r s3 next ≡ taken n t r s0 todo0
goes_on zero t r s s2 s3 s0 step name todo rest next todo0 popped is moved met some from those so_far =
    absurd (omega arith)
goes_on (suc n) t r s s2 s3 s0 step name todo rest next todo0 popped is moved met some from those so_far =
    let back : above s2 ≡ s = ap above moved ∙ above_below s name in
    let less : suc n - 1 ≡ n = omega arith in
    let here : s3 ≡ beside s (link_target t (below s name)) = from
    ∙ ap (λ x. beside x (link_target t s2)) back ∙ ap (λ x. beside s (link_target t x)) moved in
    let there : next ≡ steps_of (link_target t (below s name)) ++ Linked (spot_text (below s name)) ∷ rest =
    those ∙ ap (λ x. steps_of (link_target t x) ++ Linked (spot_text x) ∷ rest) moved in
    ap (λ x. taken x t r s3 next) less ∙ ap (λ x. taken n t r x next) here
    ∙ ap (taken n t r (beside s (link_target t (below s name)))) there
    ∙ sym (taken_link n t r s name rest (ap (is_met t r) (sym moved) ∙ met))
    ∙ ap (λ x. taken (suc n) t r s (x ∷ rest)) (sym is) ∙ ap (taken (suc n) t r s) (sym popped) ∙ so_far

-- an answer of the same verdict
pub gives_same : {T U : Type 0} (seen : T → U) (a b : Result U PackError) (answer : Result T PackError)
    → a ≡ b → IsPackAnswer seen a answer → IsPackAnswer seen b answer
gives_same seen a b (Ok x) e h = sym e ∙ h
gives_same seen a b (Err x) e h = λ d. sym e ∙ h d

pub ends_here : (n : ℕ) (t : Nodes) (r : Bool) (s s0 : Spot) (todo todo0 : List Step) → length todo ≡ 0
    → taken n t r s todo ≡ taken n t r s0 todo0 → taken n t r s0 todo0 ≡ Ok s
ends_here n t r s s0 [] todo0 none so_far = sym so_far ∙ taken_none n t r s
ends_here n t r s s0 (x ∷ todo) todo0 none so_far = absurd (omega arith)

pub simple_ok : (r : Bool) (t : Nodes) (path : List ℕ) (s : Spot) → simplified r t path ≡ Ok s
    → simple_path r t path ≡ Ok (spot_text s)
unfolding simple_path
simple_ok r t path s e = ap text_of e

pub simple_err : (r : Bool) (t : Nodes) (path : List ℕ) (e : PackError) → simplified r t path ≡ Err e
    → simple_path r t path ≡ Err e
unfolding simple_path
simple_err r t path e h = ap text_of h
