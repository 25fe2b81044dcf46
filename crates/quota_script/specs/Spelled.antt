-- What a script says, in the words of the grammar.
use Rattle.std.specs.Prelude.{◌≡◌, ℕ, List, [], ◌∷◌}
use Rattle.std.specs.List.{filter_map}
use Rattle.line_program.specs.FirstFaulty.{EachLine}
use Rattle.line_program.specs.Pieces.{pieces}
use Rattle.farm_script.specs.declared.lines.Scopes.TheVariants.{Refused}
use Rattle.quota_script.specs.Grammar.{Spells}
use Rattle.quota_script.specs.Place.{base_in, client_in, event_in}
use Rattle.quota_script.specs.Script.{Said}
use Rattle.quota_script.specs.declared.line.Line.{Line}

-- The script's lines spell values, of which one is the number of the first job, others are the clients, and others
-- are what happens, in order.
pub record SpellsScript (bytes : List ℕ) (s : Said) : Type 0 where
  pub lines : List Line
  pub each : EachLine (Spells Refused) (pieces bytes) lines
  pub base_is : filter_map base_in lines ≡ s.base ∷ []
  pub clients_are : filter_map client_in lines ≡ s.clients
  pub events_are : filter_map event_in lines ≡ s.events
