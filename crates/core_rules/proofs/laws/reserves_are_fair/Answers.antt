use Rattle.core_rules.proofs.PickLemmas.{legal_fair}
use Rattle.core_rules.proofs.laws.reserves_are_fair.Goals as goal

pub returns : goal.returns
returns c = legal_fair
