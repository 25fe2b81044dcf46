use Rattle.std.proofs.Common.{inr, refl, sym, ◌∙◌}
use Rattle.line_program.specs.declared.fault.FarmFault.TheVariants.{Usage, Memory}
use Rattle.line_program.proofs.ProgramLemmas.{as_told}
use Rattle.line_program.proofs.program.run_command_line.Goals as goal

pub returns-in-Err-words_in-clause-given : goal.returns-in-Err-words_in-clause-given
returns-in-Err-words_in-clause-given g c = rw c.in-Ok.is (inr (
  refl,
  refl,
  as_told g.P.Program.runs.name Memory Memory c.tell.result _ _ refl (λ l. l) c.tell.ensures.reported,
))

pub returns-in-Err-clause-memory : goal.returns-in-Err-clause-memory
returns-in-Err-clause-memory g c = rw c.in-Err.is
    (λ h. as_told g.P.Program.runs.name c.words_fault.result Memory c.tell-in-Err.result _ _
    (c.words_fault.ensures.memory (c.kind.ensures ∙ h)) (λ l. l) c.tell-in-Err.ensures.reported)

pub returns-in-Err-clause-usage : goal.returns-in-Err-clause-usage
returns-in-Err-clause-usage g c = rw c.in-Err.is
    (λ h. as_told g.P.Program.runs.name c.words_fault.result Usage c.tell-in-Err.result _ _
    (c.words_fault.ensures.usage (λ k. h (sym c.kind.ensures ∙ k))) (λ l. l)
    c.tell-in-Err.ensures.reported)
