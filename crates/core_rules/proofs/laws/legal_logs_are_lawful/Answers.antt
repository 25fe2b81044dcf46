use Rattle.core_rules.proofs.LawfulLemmas.{legal_lawful}
use Rattle.core_rules.proofs.laws.legal_logs_are_lawful.Goals as goal

pub returns : goal.returns
returns c = legal_lawful
