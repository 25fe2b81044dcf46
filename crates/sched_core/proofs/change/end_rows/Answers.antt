use Rattle.sched_core.proofs.ChangeLemmas.{keep_all, end_both}
use Rattle.sched_core.proofs.change.end_rows.Goals as goal

pub returns-in-Reserve-clause-rows : goal.returns-in-Reserve-clause-rows
returns-in-Reserve-clause-rows g c = rw c.in-Reserve.is (keep_all c.args.rows.now.rows)

pub returns-in-Commit-clause-rows : goal.returns-in-Commit-clause-rows
returns-in-Commit-clause-rows g c = rw c.in-Commit.is (keep_all c.args.rows.now.rows)

pub returns-in-Undo-clause-rows : goal.returns-in-Undo-clause-rows
returns-in-Undo-clause-rows g c = rw c.in-Undo.is (keep_all c.args.rows.now.rows)

pub returns-in-Update-clause-rows : goal.returns-in-Update-clause-rows
returns-in-Update-clause-rows g c = rw c.in-Update.is (keep_all c.args.rows.now.rows)

pub returns-in-Beat-clause-rows : goal.returns-in-Beat-clause-rows
returns-in-Beat-clause-rows g c =
    rw (c.in-Beat.is, c.end_if.ensures.rows, c.end_all.ensures.rows, c.get.ensures.items)
    (end_both c.in-Beat.pruned c.in-Beat.replaced c.args.rows.now.rows)

pub returns-in-Drain-clause-rows : goal.returns-in-Drain-clause-rows
returns-in-Drain-clause-rows g c = rw c.in-Drain.is (keep_all c.args.rows.now.rows)
