use Rattle.farm_audit.proofs.RunHoldsLemmas.{script_holds}
use Rattle.farm_audit.proofs.laws.scripts_hold.Goals as goal

pub returns : goal.returns
returns c = script_holds
