-- What came of a script that was read.
use Rattle.std.proofs.Common.{◌≡◌, ◌⊎◌, ℕ, List, Option, Ok, Err}
use Rattle.std.specs.Prelude.{IfSome}
use Rattle.std.proofs.lemmas.Option.{IfSome_then}
use Rattle.line_program.specs.declared.fault.FarmFault.{FarmFault}
use Rattle.line_program.specs.declared.fault.FarmFault.TheVariants.{Memory}
use Rattle.line_program.specs.Program.{IsFaultless, IsEnough, HasRun}
use Rattle.line_program.specs.Side.{Side}
use Rattle.line_program.proofs.FirstFaultyLemmas.{refused_enough, fine_enough}
use Rattle.line_program.proofs.ProgramLemmas as programs
use Rattle.lives_script.specs.Script.{line_reader, finished, nothing_read, script}
use Rattle.lives_script.specs.FirstFaulty.{of_scripts, IsFirstFaulty}
use Rattle.lives_script.specs.declared.script.Script.{Script}
use Rattle.lives_script.proofs.FirstFaultyLemmas.{follows}
use Rattle.lives_script.proofs.MatchLemmas.{Matches, matches_nothing}
use Rattle.lives_script.proofs.SpelledLemmas.{script_says}
use Rattle.lives.specs.Text.{IsScriptRun}
use Rattle.lives.specs.Program.{IsLivesText, lives_runs}

-- why there was no script
pub no_run : (f : FarmFault) (v : List ℕ) (content : Option (List ℕ)) (o : Side) → IsEnough v content
    → (f ≡ Memory) ⊎ IsFirstFaulty v f → HasRun lives_runs (Err f) content o o
no_run f v content o enough why = programs.no_run lives_runs f content o
    (refused_enough of_scripts line_reader finished Matches follows nothing_read matches_nothing f v content enough why)

-- the text of the script's lives
pub lives_text : (v text : List ℕ) (s : Script) (content : Option (List ℕ)) → IsEnough v content → script v ≡ Ok s
    → IsScriptRun s text → IfSome content (λ bytes. IsFaultless lives_runs bytes × IsLivesText bytes text)
lives_text v text s content enough is run = IfSome_then content
    (fine_enough of_scripts line_reader finished Matches follows nothing_read matches_nothing s v content enough is)
    (λ bytes p. (p.0, record { script = s; says = script_says bytes s p.1; run = run }))
