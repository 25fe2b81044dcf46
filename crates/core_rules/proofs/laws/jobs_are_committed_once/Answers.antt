use Rattle.core_rules.proofs.OnceLemmas.{legal_all}
use Rattle.core_rules.proofs.laws.jobs_are_committed_once.Goals as goal

pub returns : goal.returns
returns c = λ start log fits legal. (legal_all start log fits legal).sound.committed
