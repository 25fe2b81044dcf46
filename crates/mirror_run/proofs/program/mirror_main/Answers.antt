use Rattle.mirror_run.proofs.ProgramLemmas.{as_one_of}
use Rattle.mirror_run.proofs.program.mirror_main.Goals as goal

pub returns-clause-as_one : goal.returns-clause-as_one
returns-clause-as_one g c = as_one_of c.program_main.result _ _ _ c.program_main.ensures.outcome
