use Rattle.core_rules.proofs.DrainLemmas.{legal_undrained}
use Rattle.core_rules.proofs.laws.version_one_has_no_drain.Goals as goal

pub returns : goal.returns
returns c = legal_undrained
