use Rattle.core_rules.proofs.RoomLemmas.{legal_bounded}
use Rattle.core_rules.proofs.laws.loads_are_bounded.Goals as goal

pub returns : goal.returns
returns c = legal_bounded
