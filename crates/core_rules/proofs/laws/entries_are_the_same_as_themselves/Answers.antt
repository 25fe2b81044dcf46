use Rattle.core_rules.proofs.SameLemmas.{same_as_itself}
use Rattle.core_rules.proofs.laws.entries_are_the_same_as_themselves.Goals as goal

pub returns : goal.returns
returns c = same_as_itself
