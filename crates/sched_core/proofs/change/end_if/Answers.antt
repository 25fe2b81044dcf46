use Rattle.sched_core.proofs.ChangeLemmas.{keep_all}
use Rattle.sched_core.proofs.change.end_if.Goals as goal

pub returns-in-None-clause-rows : goal.returns-in-None-clause-rows
returns-in-None-clause-rows g c = rw c.in-None.is (keep_all c.args.rows.now.rows)
