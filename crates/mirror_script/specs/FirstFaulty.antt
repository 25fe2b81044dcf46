-- The first faulty line of an input, in the words of the grammar.
use Rattle.std.specs.Prelude.{◌≡◌, ◌⊎◌, ℕ, List, []}
use Rattle.std.specs.List.{filter_map}
use Rattle.line_program.specs.FirstFaulty as lines
use Rattle.line_program.specs.FirstFaulty.{Grammar}
use Rattle.line_program.specs.declared.fault.FarmFault.{FarmFault}
use Rattle.mirror_script.specs.Grammar.{Spells}
use Rattle.mirror_script.specs.Place.{near_in, far_in, before_of, misplaced}
use Rattle.mirror_script.specs.declared.line.Line.{Line}

-- How a script is judged, in which no address stands: each faulty line is a bad one. One that does not say what both
-- caches take lacks that.
abbrev pub of_scripts : Grammar Line
of_scripts = record {
  says = Spells;
  scoped = Spells;
  misplaced = λ said l. misplaced (before_of said) l;
  duplicate = λ said l. ⊥;
  overlapping = λ said l. ⊥;
  lacking = λ said. (filter_map near_in said ≡ []) ⊎ (filter_map far_in said ≡ []);
}

-- the input's first faulty line has this number
abbrev pub IsFirstFaulty : List ℕ → FarmFault → Type 0
IsFirstFaulty bytes f = lines.IsFirstFaulty of_scripts bytes f

-- no line of the input is faulty, and it is said what both caches take
abbrev pub IsFaultless : List ℕ → Type 0
IsFaultless bytes = lines.IsFaultless of_scripts bytes
