use Rattle.core_rules.proofs.DrainLemmas.{quiet}
use Rattle.core_rules.proofs.laws.nothing_drains_without_drains.Goals as goal

pub returns : goal.returns
returns c = quiet
