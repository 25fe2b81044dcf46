use Rattle.audit.proofs.KeylessLemmas.{rule_keyless}
use Rattle.audit.proofs.laws.keys_do_not_matter.Goals as goal

pub returns : goal.returns
returns c = rule_keyless
