-- What reading a script answers is its first faulty line.
use Rattle.std.proofs.Common.{◌≡◌, ℕ, ◌⊎◌, ◌↔◌, true, false, not, ◌||◌, List, [], ◌∷◌, ◌++◌, Option, Some, None, Err}
use Rattle.std.proofs.Common.{refl, sym, ap, ◌∙◌, inl, inr}
use Rattle.std.specs.Prelude.{option_to_list}
use Rattle.std.specs.List.{filter_map}
use Rattle.std.proofs.lemmas.Bool.{or_parts}
use Rattle.line_program.specs.declared.fault.FarmFault.{FarmFault}
use Rattle.line_program.specs.declared.fault.FarmFault.TheVariants.{BadLine}
use Rattle.line_program.proofs.FirstFaultyLemmas as scripts
use Rattle.line_program.proofs.FirstFaultyLemmas.{Follows, err_is, push_none, push_some}
use Rattle.farm_script.specs.Place.{is_nil}
use Rattle.farm_script.proofs.MatchLemmas.{pushed_first}
use Rattle.mirror_script.specs.Place.{near_in, far_in, step_in, Before, before_of, misplaced}
use Rattle.mirror_script.specs.Script.{Read, before, with_line, line_reader, finished, finished_with, nothing_read, script}
use Rattle.mirror_script.specs.FirstFaulty.{of_scripts, IsFirstFaulty}
use Rattle.mirror_script.specs.declared.line.Site.TheVariants.{Near, Far}
use Rattle.mirror_script.specs.declared.line.Step.{Step}
use Rattle.mirror_script.specs.declared.line.Line.{Line}
use Rattle.mirror_script.specs.declared.line.Line.TheVariants as lines
use Rattle.mirror_script.proofs.LineLemmas.{line_sound, line_complete}

-- ---- what was read so far is what the lines so far say

pub record Matches (r : Read) (said : List Line) : Type 0 where
  pub near : filter_map near_in said ≡ option_to_list r.near
  pub far : filter_map far_in said ≡ option_to_list r.far
  pub steps : filter_map step_in said ≡ r.steps

before_is : (r : Read) (said : List Line) → Matches r said → before_of said ≡ before r
before_is r said m = rw (m.near, m.far) refl

matches_next : (r : Read) (said : List Line) (l : Line) → Matches r said → misplaced (before r) l ≡ false
    → Matches (with_line r l) (said ++ l ∷ [])
matches_next r said lines.Skip m place = record {
  near = push_none near_in said lines.Skip refl ∙ m.near;
  far = push_none far_in said lines.Skip refl ∙ m.far;
  steps = push_none step_in said lines.Skip refl ∙ m.steps;
}
matches_next r said (lines.Capacity Near n) m place = record {
  near = push_some near_in said (lines.Capacity Near n) n refl ∙ ap (λ (xs : List ℕ). xs ++ n ∷ []) m.near
      ∙ pushed_first (option_to_list r.near) n place;
  far = push_none far_in said (lines.Capacity Near n) refl ∙ m.far;
  steps = push_none step_in said (lines.Capacity Near n) refl ∙ m.steps;
}
matches_next r said (lines.Capacity Far n) m place = record {
  near = push_none near_in said (lines.Capacity Far n) refl ∙ m.near;
  far = push_some far_in said (lines.Capacity Far n) n refl ∙ ap (λ (xs : List ℕ). xs ++ n ∷ []) m.far
      ∙ pushed_first (option_to_list r.far) n
      (or_parts (is_nil (option_to_list r.near)) (not (is_nil (option_to_list r.far))) place).1;
  steps = push_none step_in said (lines.Capacity Far n) refl ∙ m.steps;
}
matches_next r said (lines.Step s) m place = record {
  near = push_none near_in said (lines.Step s) refl ∙ m.near;
  far = push_none far_in said (lines.Step s) refl ∙ m.far;
  steps = push_some step_in said (lines.Step s) s refl ∙ ap (λ (xs : List Step). xs ++ s ∷ []) m.steps;
}

pub matches_nothing : Matches nothing_read []
matches_nothing = record { near = refl; far = refl; steps = refl }

-- ---- what it judges

ended : (said : List Line) (number : ℕ) (steps : List Step) (f : FarmFault) (near far : Option ℕ)
    → filter_map near_in said ≡ option_to_list near → filter_map far_in said ≡ option_to_list far
    → finished_with number near far steps ≡ Err f
    → ((filter_map near_in said ≡ []) ⊎ (filter_map far_in said ≡ [])) × (f ≡ BadLine number)
ended said number steps f (Some n) (Some m) near_is far_is e = absurd cc
ended said number steps f (Some n) None near_is far_is e = (inr far_is, sym (err_is (BadLine number) f e))
ended said number steps f None far near_is far_is e = (inl near_is, sym (err_is (BadLine number) f e))

lacks : (said : List Line) (number : ℕ) (steps : List Step) (near far : Option ℕ)
    → filter_map near_in said ≡ option_to_list near → filter_map far_in said ≡ option_to_list far
    → (filter_map near_in said ≡ []) ⊎ (filter_map far_in said ≡ [])
    → finished_with number near far steps ≡ Err (BadLine number)
lacks said number steps (Some n) (Some m) near_is far_is (inl none) =
    let clash : [] ≡ n ∷ [] = sym none ∙ near_is in absurd cc
lacks said number steps (Some n) (Some m) near_is far_is (inr none) =
    let clash : [] ≡ m ∷ [] = sym none ∙ far_is in absurd cc
lacks said number steps (Some n) None near_is far_is none = refl
lacks said number steps None far near_is far_is none = refl

-- what was read so far judges each line as the grammar does
pub follows : Follows of_scripts line_reader finished Matches
follows = record {
  sound = line_sound;
  complete = line_complete;
  scoped_sound = line_sound;
  scoped_complete = line_complete;
  loosens = λ t l says. says;
  place = λ r said l m. ap (λ (b : Before). misplaced b l) (before_is r said m);
  again = λ r said t l m says e. absurd cc;
  first = λ r said t l m says e d. d;
  meets = λ r said t l m says e. absurd cc;
  apart = λ r said t l m says e o. o;
  not_both = λ said l d o. o;
  next = λ r said t l m says place first apart. matches_next r said l m place;
  ended = λ r said number f m e. ended said number r.steps f r.near r.far m.near m.far e;
  lacks = λ r said number m none. lacks said number r.steps r.near r.far m.near m.far none;
}

pub first_faulty : (bytes : List ℕ) (f : FarmFault) → (script bytes ≡ Err f) ↔ IsFirstFaulty bytes f
first_faulty = scripts.first_faulty of_scripts line_reader finished Matches follows nothing_read matches_nothing
