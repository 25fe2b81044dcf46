use Rattle.sched_core.proofs.ChangeLemmas.{renew_is, renewed_new}
use Rattle.sched_core.proofs.change.renew.Goals as goal

pub returns-then-not-is_new-clause-rows : goal.returns-then-not-is_new-clause-rows
returns-then-not-is_new-clause-rows g c = rw (
  c.apply_if.ensures.rows,
  c.number_of-number.ensures,
  c.at-row.ensures.row,
  c.if-not-is_new.true,
) (renew_is c.args.now c.args.server c.args.rows.now.rows c.at-row.ensures.sound)

pub returns-else-not-is_new-clause-rows : goal.returns-else-not-is_new-clause-rows
returns-else-not-is_new-clause-rows g c =
    rw c.if-not-is_new.false (renewed_new c.args.now c.args.server c.args.rows.now.rows)
