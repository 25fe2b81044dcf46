use Rattle.farm_laws.proofs.ToldLemmas.{told_next}
use Rattle.farm_laws.proofs.laws.next_entries_are_one_by_what_is_told.Goals as goal

pub returns : goal.returns
returns c = told_next
