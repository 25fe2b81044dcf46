use Rattle.sched.proofs.BeforeLemmas.{was_drained}
use Rattle.sched.proofs.laws.drains_are_counted.Goals as goal

pub returns : goal.returns
returns c = was_drained
