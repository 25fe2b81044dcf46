-- What reading a script answers is its first faulty line, with its cause.
use Rattle.std.proofs.Common.{◌≡◌, ℕ, ◌↔◌, true, false, List, [], ◌∷◌, Option, Some, None, Err, refl, sym, ap, ◌∙◌}
use Rattle.std.specs.Prelude.{option_to_list}
use Rattle.std.specs.List.{filter_map}
use Rattle.line_program.specs.declared.fault.FarmFault.{FarmFault}
use Rattle.line_program.specs.declared.fault.FarmFault.TheVariants.{BadLine}
use Rattle.line_program.proofs.FirstFaultyLemmas as scripts
use Rattle.line_program.proofs.FirstFaultyLemmas.{Follows, err_is}
use Rattle.farm_script.specs.declared.lines.Scopes.TheVariants.{Refused, Taken}
use Rattle.farm_script.specs.declared.lines.Line.{Line}
use Rattle.farm_script.specs.declared.setup.SetupScheduler.{SetupScheduler}
use Rattle.farm_script.specs.Place.{Before, scheduler_in, misplaced, duplicate}
use Rattle.farm_script.specs.Script.{Read, line_reader, finished, finished_with, script, nothing_read}
use Rattle.farm_script.specs.FirstFaulty.{of_scripts, IsFirstFaulty}
use Rattle.farm_script.proofs.LineLemmas.{line_sound, line_complete, spells_taken}
use Rattle.farm_script.proofs.MatchLemmas.{Matches, before_is, matches_nothing, matches_next}

ended : (r : Read) (said : List Line) (number : ℕ) (f : FarmFault) (o : Option SetupScheduler)
    → filter_map scheduler_in said ≡ option_to_list o → finished_with number r o ≡ Err f
    → (filter_map scheduler_in said ≡ []) × (f ≡ BadLine number)
ended r said number f (Some s) is e = absurd cc
ended r said number f None is e = (is, sym (err_is (BadLine number) f e))

lacks : (r : Read) (said : List Line) (number : ℕ) (o : Option SetupScheduler)
    → filter_map scheduler_in said ≡ option_to_list o → filter_map scheduler_in said ≡ []
    → finished_with number r o ≡ Err (BadLine number)
lacks r said number (Some s) is none = let clash : [] ≡ s ∷ [] = sym none ∙ is in absurd cc
lacks r said number None is none = refl

-- what was read so far judges each line as the grammar does
pub follows : Follows of_scripts line_reader finished Matches
follows = record {
  sound = line_sound Refused;
  complete = line_complete Refused;
  scoped_sound = line_sound Taken;
  scoped_complete = line_complete Taken;
  loosens = λ t l says. spells_taken Refused t l says;
  place = λ r said l m. ap (λ (b : Before). misplaced b l) (sym (before_is r said m));
  again = λ r said t l m says e. ap (λ (b : Before). duplicate b l) (sym (before_is r said m)) ∙ e;
  first = λ r said t l m says e d.
      let clash : true ≡ false = sym d ∙ ap (λ (b : Before). duplicate b l) (sym (before_is r said m)) ∙ e in
      absurd cc;
  meets = λ r said t l m says e. absurd cc;
  apart = λ r said t l m says e o. o;
  not_both = λ said l d o. o;
  next = λ r said t l m says place first apart. matches_next r said t l m says place first;
  ended = λ r said number f m e. ended r said number f r.scheduler m.scheduler e;
  lacks = λ r said number m none. lacks r said number r.scheduler m.scheduler none;
}

pub first_faulty : (bytes : List ℕ) (f : FarmFault) → (script bytes ≡ Err f) ↔ IsFirstFaulty bytes f
first_faulty = scripts.first_faulty of_scripts line_reader finished Matches follows nothing_read matches_nothing
