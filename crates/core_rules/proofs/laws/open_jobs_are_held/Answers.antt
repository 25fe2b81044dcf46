use Rattle.core_rules.proofs.HeldLemmas.{legal_once}
use Rattle.core_rules.proofs.laws.open_jobs_are_held.Goals as goal

pub returns : goal.returns
returns c = legal_once
