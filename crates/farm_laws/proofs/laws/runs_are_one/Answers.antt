use Rattle.farm_laws.proofs.OneLemmas.{one_run}
use Rattle.farm_laws.proofs.laws.runs_are_one.Goals as goal

pub returns : goal.returns
returns c = one_run
