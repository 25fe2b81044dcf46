use Rattle.core_rules.proofs.OwnLemmas.{own-kept}
use Rattle.core_rules.proofs.laws.reservations_stay_unspent.Goals as goal

pub returns : goal.returns
returns c = own-kept
