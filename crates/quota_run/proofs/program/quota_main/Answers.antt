use Rattle.quota_run.proofs.ProgramLemmas.{isolated_of}
use Rattle.quota_run.proofs.program.quota_main.Goals as goal

pub returns-clause-isolated : goal.returns-clause-isolated
returns-clause-isolated g c = isolated_of _ c.refused_calls_leave_others.ensures
