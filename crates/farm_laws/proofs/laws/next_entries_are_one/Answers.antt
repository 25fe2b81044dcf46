use Rattle.farm_laws.proofs.OneLemmas.{one_next}
use Rattle.farm_laws.proofs.laws.next_entries_are_one.Goals as goal

pub returns : goal.returns
returns c = one_next
