-- What came of a script that was read.
use Rattle.std.proofs.Common.{◌≡◌, ◌⊎◌, ℕ, List, Option, Some, None, Ok, Err}
use Rattle.std.specs.Prelude.{IfSome}
use Rattle.std.proofs.lemmas.Option.{IfSome_then}
use Rattle.line_program.specs.declared.fault.FarmFault.{FarmFault}
use Rattle.line_program.specs.declared.fault.FarmFault.TheVariants.{Memory}
use Rattle.line_program.specs.Program.{IsFaultless, IsEnough, HasRun}
use Rattle.line_program.specs.Side.{Side}
use Rattle.line_program.proofs.FirstFaultyLemmas.{refused_enough, fine_enough}
use Rattle.line_program.proofs.ProgramLemmas as programs
use Rattle.quota.specs.Calls.{IsIsolated}
use Rattle.quota.specs.Quota.{Quota}
use Rattle.quota.specs.declared.call.QuotaCall.{QuotaCall}
use Rattle.quota_script.specs.Script.{line_reader, finished, nothing_read, script, Said}
use Rattle.quota_script.specs.FirstFaulty.{of_scripts, IsFirstFaulty}
use Rattle.quota_script.proofs.FirstFaultyLemmas.{Matches, matches_nothing, follows}
use Rattle.quota_script.proofs.SpelledLemmas.{script_says}
use Rattle.quota_run.specs.Lines.{start_of, calls_of}
use Rattle.quota_run.specs.Program.{script_lines, IsQuotaText, quota_runs, AreIsolated}

-- why there was no script
pub no_run : (f : FarmFault) (v : List ℕ) (content : Option (List ℕ)) (o : Side) → IsEnough v content
    → (f ≡ Memory) ⊎ IsFirstFaulty v f → HasRun quota_runs (Err f) content o o
no_run f v content o enough why = programs.no_run quota_runs f content o
    (refused_enough of_scripts line_reader finished Matches follows nothing_read matches_nothing f v content enough why)

-- the text of the script's lines
pub quota_text : (v text : List ℕ) (s : Said) (content : Option (List ℕ)) → IsEnough v content → script v ≡ Ok s
    → text ≡ script_lines s → IfSome content (λ bytes. IsFaultless quota_runs bytes × IsQuotaText bytes text)
quota_text v text s content enough is lines = IfSome_then content
    (fine_enough of_scripts line_reader finished Matches follows nothing_read matches_nothing s v content enough is)
    (λ bytes p. (p.0, (s, record { fine = p.0; says = script_says bytes s p.1 }, lines)))

-- ---- isolation

pub isolated_of : (content : Option (List ℕ)) → ((q : Quota) (calls : List QuotaCall) → IsIsolated q calls)
    → IfSome content AreIsolated
isolated_of None law = tt
isolated_of (Some bytes) law = λ s is. law (start_of s) (calls_of s)
