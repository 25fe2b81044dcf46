-- What the program of a scheduler's lives has to do: run those of a script, or tell a fault.
use Rattle.std.specs.Prelude.{ℕ, List, codes}
use Rattle.line_program.specs.Program.{Runs}
use Rattle.lives_script.specs.FirstFaulty.{IsFirstFaulty}
use Rattle.lives_script.specs.Spelled.{SpellsLives}
use Rattle.lives_script.specs.declared.script.Script.{Script}
use Rattle.lives.specs.Text.{IsScriptRun}

-- An input says a script, and this is the text of its lives.
pub record IsLivesText (bytes text : List ℕ) : Type 0 where
  pub script : Script
  pub says : SpellsLives bytes script
  pub run : IsScriptRun script text

-- Its runs. Nothing is written before every life was run: where memory ran out, out is as it was.
abbrev pub lives_runs : Runs
lives_runs = record {
  name = codes "sccache_lives";
  first_faulty = IsFirstFaulty;
  whole = IsLivesText;
  begun = IsLivesText;
  left = λ content text. ⊥;
}
