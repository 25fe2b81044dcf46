use Rattle.core_rules.proofs.OwnLemmas.{own-through}
use Rattle.core_rules.proofs.laws.reservations_stay_unspent_through.Goals as goal

pub returns : goal.returns
returns c = own-through
