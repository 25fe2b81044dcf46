use Rattle.core_rules.proofs.OnceLemmas.{legal_unclosed}
use Rattle.core_rules.proofs.laws.open_jobs_are_unclosed.Goals as goal

pub returns : goal.returns
returns c = legal_unclosed
