use Rattle.core_rules.proofs.HeldLemmas.{legal_standing}
use Rattle.core_rules.proofs.laws.reservations_are_at_standing_servers.Goals as goal

pub returns : goal.returns
returns c = legal_standing
