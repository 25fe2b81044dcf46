use Rattle.sched_core.proofs.ChangeLemmas.{not_changed}
use Rattle.sched_core.proofs.change.apply_if.Goals as goal

pub returns-in-None-clause-rows : goal.returns-in-None-clause-rows
returns-in-None-clause-rows g c = rw c.in-None.is (not_changed c.args.change c.args.rows.now.rows)
