use Rattle.core_rules.proofs.ReadyLemmas.{ready_moment}
use Rattle.core_rules.proofs.laws.ready_jobs_became_ready.Goals as goal

pub returns : goal.returns
returns c = ready_moment
