-- What a script says, in the words of the grammar.
use Rattle.std.specs.Prelude.{◌≡◌, ℕ, List, [], ◌∷◌, map}
use Rattle.std.specs.List.{filter_map}
use Rattle.line_program.specs.FirstFaulty.{EachLine}
use Rattle.line_program.specs.Pieces.{pieces}
use Rattle.farm_script.specs.Place.{rules_in, scheduler_in, server_in}
use Rattle.farm_script.specs.Spelled.{with_answers}
use Rattle.farm_script.specs.declared.lines.Scopes.TheVariants.{Refused}
use Rattle.lives_script.specs.Grammar.{Spells}
use Rattle.lives_script.specs.Place.{setup_in, lives_in}
use Rattle.lives_script.specs.declared.line.Line.{Line}
use Rattle.lives_script.specs.declared.script.Script.{Script}

-- The script's lines spell values: those of the setup say the rules, one is the scheduler, others are the servers,
-- each with the answers of its builder; and others are the lives and what happens in each, in order.
pub record SpellsLives (bytes : List ℕ) (s : Script) : Type 0 where
  pub lines : List Line
  pub each : EachLine (Spells Refused) (pieces bytes) lines
  pub rules_are : rules_in (filter_map setup_in lines) ≡ s.setup.rules
  pub scheduler_is : filter_map scheduler_in (filter_map setup_in lines) ≡ s.setup.scheduler ∷ []
  pub servers_are : map (with_answers (filter_map setup_in lines))
      (filter_map server_in (filter_map setup_in lines)) ≡ s.setup.servers
  pub lives_are : lives_in lines ≡ s.lives
