-- A script, read line by line: what the caches take and what is done, or the first faulty line.
use Rattle.std.specs.Prelude.{ℕ, false, ◌≤◌, List, [], ◌∷◌, ◌++◌, length, Option, Some, None}
use Rattle.std.specs.Prelude.{option_to_list, Result, Ok, Err}
use Rattle.line_program.specs.Lines.{Judge, judged_within, lines_in}
use Rattle.line_program.specs.Reader.{Reader, judge_by}
use Rattle.line_program.specs.declared.fault.FarmFault.{FarmFault}
use Rattle.line_program.specs.declared.fault.FarmFault.TheVariants.{BadLine}
use Rattle.mirror_script.specs.Line.{line_at}
use Rattle.mirror_script.specs.Place.{Before, misplaced}
use Rattle.mirror_script.specs.declared.line.Site.TheVariants.{Near, Far}
use Rattle.mirror_script.specs.declared.line.Step.{Step}
use Rattle.mirror_script.specs.declared.line.Step.TheVariants.{Put, Get, Lose, Lie}
use Rattle.mirror_script.specs.declared.line.Line.{Line}
use Rattle.mirror_script.specs.declared.line.Line.TheVariants as lines
use Rattle.mirror_script.specs.declared.script.Reading.{Reading}
use Rattle.mirror_script.specs.declared.script.Script.{Script}

-- what was read so far
pub record Read : Type 0 where
  pub near : Option ℕ
  pub far : Option ℕ
  pub steps : List Step

-- the same, of the Rust struct
abbrev pub read_of : Reading → Read
read_of r = record { near = r.near; far = r.far; steps = r.steps.items }

-- what of it decides where a line may stand
abbrev pub before : Read → Before
before r = record { near = option_to_list r.near; far = option_to_list r.far }

-- what was read, with what one more line says
abbrev pub with_line : Read → Line → Read
with_line r lines.Skip = r
with_line r (lines.Capacity Near n) = record { near = Some n; far = r.far; steps = r.steps }
with_line r (lines.Capacity Far n) = record { near = r.near; far = Some n; steps = r.steps }
with_line r (lines.Step s) = record { near = r.near; far = r.far; steps = r.steps ++ s ∷ [] }

-- how a line is judged over what was read
abbrev pub line_reader : Reader Line Read
line_reader = record {
  line_at = line_at;
  scoped_at = line_at;
  misplaced = λ r l. misplaced (before r) l;
  duplicate = λ r l. false;
  overlapping = λ r l. false;
  with_line = with_line;
}

-- what was read, with a line of this text more, or why it is faulty
abbrev pub judge : Judge Read
judge = judge_by line_reader

-- the same of a line with its end, which is within the limits
abbrev pub take_line : ℕ → ℕ → Read → List ℕ → Result Read FarmFault
take_line number room r piece = judged_within judge number room r piece

-- what the caches take and what is done make a script
abbrev pub finished_with : ℕ → Option ℕ → Option ℕ → List Step → Result Script FarmFault
finished_with number (Some near) (Some far) steps = Ok (record { near = near; far = far; steps = steps })
finished_with number (Some near) None steps = Err (BadLine number)
finished_with number None far steps = Err (BadLine number)

-- at the end it is said what both caches take, or the number after the last line is told
abbrev pub finished : ℕ → Read → Result Script FarmFault
finished number r = finished_with number r.near r.far r.steps

-- at the start
abbrev pub nothing_read : Read
nothing_read = record { near = None; far = None; steps = [] }

-- the script that an input says, or its first faulty line
abbrev pub script : List ℕ → Result Script FarmFault
script bytes = lines_in judge finished nothing_read bytes

-- the bytes of a step are at most half as many as those of the longest line
abbrev pub IsShort : Step → Type 0
IsShort (Put site bytes) = length bytes ≤ 1048576
IsShort (Get id) = Unit {0}
IsShort Lose = Unit {0}
IsShort (Lie body) = length body ≤ 1048576
