use Rattle.core_rules.proofs.EndLemmas.{legal_ends}
use Rattle.core_rules.proofs.laws.registrations_end_once.Goals as goal

pub returns : goal.returns
returns c = legal_ends
