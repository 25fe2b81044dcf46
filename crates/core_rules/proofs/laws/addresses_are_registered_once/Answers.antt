use Rattle.core_rules.proofs.AddressLemmas.{legal_apart}
use Rattle.core_rules.proofs.laws.addresses_are_registered_once.Goals as goal

pub returns : goal.returns
returns c = legal_apart
