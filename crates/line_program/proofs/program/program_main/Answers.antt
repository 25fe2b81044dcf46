use Rattle.line_program.proofs.ProgramLemmas.{outcome}
use Rattle.line_program.proofs.program.program_main.Goals as goal

pub returns : goal.returns
returns g c = record {
  outcome = outcome g.P.Program.runs c.run_words-done.result c.report.result _ _ _ c.run_words-done.ensures.done
      (rw c.name.ensures at c.report.ensures.reported);
}
