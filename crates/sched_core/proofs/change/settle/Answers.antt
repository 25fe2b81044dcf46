use Rattle.core_rules.specs.Next.{row_stays}
use Rattle.sched_core.proofs.FreeLemmas.{all_pass}
use Rattle.sched_core.proofs.change.settle.Goals as goal

pub free_rows-requires-clause-stay : goal.free_rows-requires-clause-stay
free_rows-requires-clause-stay g c =
    rw c.end_rows.ensures.rows (all_pass (row_stays c.args.step.now.kind) c.args.rows.now.rows)
