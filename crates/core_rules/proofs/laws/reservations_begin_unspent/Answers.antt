use Rattle.core_rules.proofs.OwnLemmas.{own-made}
use Rattle.core_rules.proofs.laws.reservations_begin_unspent.Goals as goal

pub returns : goal.returns
returns c = own-made
