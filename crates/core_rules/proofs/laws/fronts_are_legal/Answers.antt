use Rattle.core_rules.proofs.OwnLemmas.{legal_front}
use Rattle.core_rules.proofs.laws.fronts_are_legal.Goals as goal

pub returns : goal.returns
returns c = legal_front
