use Rattle.farm_laws.proofs.ReliableLemmas.{is_reliable}
use Rattle.farm_laws.proofs.build_laws.runs_are_reliable.Goals as goal

pub returns : goal.returns
returns c = is_reliable
