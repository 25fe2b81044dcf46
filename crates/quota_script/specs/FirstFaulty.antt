-- The first faulty line of an input and its cause, in the words of the grammar.
use Rattle.std.specs.Prelude.{◌≡◌, ℕ, List, []}
use Rattle.std.specs.List.{filter_map}
use Rattle.line_program.specs.FirstFaulty as lines
use Rattle.line_program.specs.FirstFaulty.{Grammar}
use Rattle.line_program.specs.declared.fault.FarmFault.{FarmFault}
use Rattle.farm_script.specs.declared.lines.Scopes.TheVariants.{Refused, Taken}
use Rattle.quota_script.specs.Grammar.{Spells}
use Rattle.quota_script.specs.Place.{base_in, before_of, misplaced}
use Rattle.quota_script.specs.declared.line.Line.{Line}

-- how a script is judged; one that does not say the number of the first job lacks it
abbrev pub of_scripts : Grammar Line
of_scripts = record {
  says = Spells Refused;
  scoped = Spells Taken;
  misplaced = λ said l. misplaced (before_of said) l;
  duplicate = λ said l. ⊥;
  overlapping = λ said l. ⊥;
  lacking = λ said. filter_map base_in said ≡ [];
}

-- the input's first faulty line has this cause and number
abbrev pub IsFirstFaulty : List ℕ → FarmFault → Type 0
IsFirstFaulty bytes f = lines.IsFirstFaulty of_scripts bytes f

-- no line of the input is faulty, and one says the number of the first job
abbrev pub IsFaultless : List ℕ → Type 0
IsFaultless bytes = lines.IsFaultless of_scripts bytes
