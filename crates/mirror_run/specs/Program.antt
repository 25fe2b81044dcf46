-- What the program of a mirror has to do: the steps of a script, or tell a fault.
use Rattle.std.specs.Prelude.{◌≡◌, ℕ, List, [], ◌++◌, Option, IfSome, codes}
use Rattle.line_program.specs.Program.{Runs}
use Rattle.mirror_script.specs.FirstFaulty.{IsFirstFaulty, IsFaultless}
use Rattle.mirror_script.specs.Spelled.{SpellsScript}
use Rattle.mirror_script.specs.declared.line.Step.{Step}
use Rattle.mirror_script.specs.declared.said.Said.{Said}
use Rattle.mirror_script.specs.declared.script.Script.{Script}
use Rattle.mirror_run.specs.Steps.{Rooms, Lines, empty, lines_text}

-- the rooms that a script says
abbrev pub rooms_of : Script → Rooms
rooms_of s = record { near = s.near; far = s.far }

-- An input is a script without a faulty line, and these are the lines of its first steps; others are left.
pub record RunsTo (bytes : List ℕ) (ls : List Said) (left : List Step) : Type 0 where
  pub script : Script
  pub fine : IsFaultless bytes
  pub says : SpellsScript bytes script
  pub done : List Step
  pub steps : script.steps ≡ done ++ left
  pub lines : Lines (rooms_of script) empty done ls

-- The text has the line of each step of the script that an input says.
abbrev pub IsMirrorText : List ℕ → List ℕ → Type 0
IsMirrorText bytes text = (ls : List Said) × RunsTo bytes ls [] × (text ≡ lines_text ls)

-- It has those of the first steps.
abbrev pub IsMirrorFront : List ℕ → List ℕ → Type 0
IsMirrorFront bytes text = (ls : List Said) × (left : List Step) × RunsTo bytes ls left × (text ≡ lines_text ls)

-- Its runs. The line of each step is written as it is done: where out failed or memory ran out, those of the first
-- steps may stand there.
abbrev pub mirror_runs : Runs
mirror_runs = record {
  name = codes "sccache_mirror";
  first_faulty = IsFirstFaulty;
  whole = IsMirrorText;
  begun = IsMirrorFront;
  left = λ content text. IfSome content (λ bytes. IsMirrorFront bytes text);
}
