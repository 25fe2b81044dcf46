-- What a script says, in the words of the grammar.
use Rattle.std.specs.Prelude.{◌≡◌, ℕ, List, [], ◌∷◌}
use Rattle.std.specs.List.{filter_map}
use Rattle.line_program.specs.FirstFaulty.{EachLine}
use Rattle.line_program.specs.Pieces.{pieces}
use Rattle.mirror_script.specs.Grammar.{Spells}
use Rattle.mirror_script.specs.Place.{near_in, far_in, step_in}
use Rattle.mirror_script.specs.declared.line.Line.{Line}
use Rattle.mirror_script.specs.declared.script.Script.{Script}

-- The script's lines spell values, of which one is what the near cache takes, one what the far cache takes, and
-- others are what is done, in order.
pub record SpellsScript (bytes : List ℕ) (s : Script) : Type 0 where
  pub lines : List Line
  pub each : EachLine Spells (pieces bytes) lines
  pub near_is : filter_map near_in lines ≡ s.near ∷ []
  pub far_is : filter_map far_in lines ≡ s.far ∷ []
  pub steps_are : filter_map step_in lines ≡ s.steps
