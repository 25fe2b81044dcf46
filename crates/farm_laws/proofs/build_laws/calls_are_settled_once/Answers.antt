use Rattle.farm_laws.proofs.SettleLemmas.{settled_throughout}
use Rattle.farm_laws.proofs.build_laws.calls_are_settled_once.Goals as goal

pub returns : goal.returns
returns c = settled_throughout
