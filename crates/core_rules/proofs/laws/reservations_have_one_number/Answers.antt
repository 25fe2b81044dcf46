use Rattle.core_rules.proofs.OwnLemmas.{one_number}
use Rattle.core_rules.proofs.laws.reservations_have_one_number.Goals as goal

pub returns : goal.returns
returns c = one_number
