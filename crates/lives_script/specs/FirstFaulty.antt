-- The first faulty line of an input and its cause, in the words of the grammar.
use Rattle.std.specs.Prelude.{◌≡◌, ℕ, true, List, [], Some}
use Rattle.std.specs.List.{filter_map}
use Rattle.line_program.specs.FirstFaulty as lines
use Rattle.line_program.specs.FirstFaulty.{Grammar}
use Rattle.line_program.specs.declared.fault.FarmFault.{FarmFault}
use Rattle.farm_script.specs.declared.lines.Scopes.TheVariants.{Refused, Taken}
use Rattle.lives_script.specs.Grammar.{Spells}
use Rattle.lives_script.specs.Ids.{Ids, MeetSome}
use Rattle.lives_script.specs.Place.{ids_in, before_of, misplaced, duplicate}
use Rattle.lives_script.specs.declared.line.Line.{Line}

-- the line begins a life whose range shares an id with that of an earlier life
abbrev pub Overlaps : List Line → Line → Type 0
Overlaps said l = (ids : Ids) × (ids_in l ≡ Some ids) × MeetSome (filter_map ids_in said) ids

-- how a script is judged; one that begins no life lacks it
abbrev pub of_scripts : Grammar Line
of_scripts = record {
  says = Spells Refused;
  scoped = Spells Taken;
  misplaced = λ said l. misplaced (before_of said) l;
  duplicate = λ said l. duplicate (before_of said) l ≡ true;
  overlapping = Overlaps;
  lacking = λ said. filter_map ids_in said ≡ [];
}

-- the input's first faulty line has this cause and number
abbrev pub IsFirstFaulty : List ℕ → FarmFault → Type 0
IsFirstFaulty bytes f = lines.IsFirstFaulty of_scripts bytes f

-- no line of the input is faulty, and one begins a life
abbrev pub IsFaultless : List ℕ → Type 0
IsFaultless bytes = lines.IsFaultless of_scripts bytes
