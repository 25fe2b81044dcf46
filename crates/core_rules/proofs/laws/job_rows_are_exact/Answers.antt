use Rattle.core_rules.proofs.JobLemmas.{legal_jobs}
use Rattle.core_rules.proofs.laws.job_rows_are_exact.Goals as goal

pub returns : goal.returns
returns c = legal_jobs
