use Rattle.core_rules.proofs.ReserveLemmas.{one_reserve}
use Rattle.core_rules.proofs.laws.jobs_are_reserved_once.Goals as goal

pub returns : goal.returns
returns c = one_reserve
