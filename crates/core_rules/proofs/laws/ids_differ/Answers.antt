use Rattle.core_rules.proofs.SoundLemmas.{legal_distinct}
use Rattle.core_rules.proofs.laws.ids_differ.Goals as goal

pub returns : goal.returns
returns c = legal_distinct
