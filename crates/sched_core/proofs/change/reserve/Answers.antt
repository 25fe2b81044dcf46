use Rattle.std.proofs.Common.{◌≤◌, ◌+◌, ◌*◌, ◌^◌, length, sym, subst, arith}
use Rattle.sched_core.proofs.ChangeLemmas.{reserved_job, not_reserved, spent}
use Rattle.sched_core.proofs.RegistrationLemmas.{job_looks}
use Rattle.sched_core.proofs.change.reserve.Goals as goal

pub returns-in-Job-clause-rows : goal.returns-in-Job-clause-rows
returns-in-Job-clause-rows g c =
    rw (c.in-Job.is, c.forgive.ensures.rows, c.get.ensures.items, c.change.ensures.rows)
    (reserved_job c.in-Job.job c.in-Job.reg c.in-Job.forgiven c.args.rows.now.rows)

pub returns-in-Job-clause-looks : goal.returns-in-Job-clause-looks
returns-in-Job-clause-looks g c = rw c.in-Job.is (λ h le.
    job_looks (length c.in-Job.forgiven) (2 * h + 1) c.args.steps.now c.change.new.steps c.forgive.new.steps
    (c.change.ensures.looks h le)
    ((rw c.get.ensures.items at c.forgive.ensures.looks) h
    (subst (λ p. p.count ≤ 2 ^ h) (sym c.change.ensures.places) le)))

pub returns-in-NoRoom-clause-rows : goal.returns-in-NoRoom-clause-rows
returns-in-NoRoom-clause-rows g c = rw c.in-NoRoom.is (not_reserved c.in-NoRoom.field-0 c.args.rows.now.rows)

pub returns-in-NoRoom-clause-looks : goal.returns-in-NoRoom-clause-looks
returns-in-NoRoom-clause-looks g c = rw c.in-NoRoom.is (λ h le. omega arith)

pub returns-in-Spent-clause-rows : goal.returns-in-Spent-clause-rows
returns-in-Spent-clause-rows g c = rw c.in-Spent.is (spent c.args.rows.now.rows)

pub returns-in-Spent-clause-looks : goal.returns-in-Spent-clause-looks
returns-in-Spent-clause-looks g c = rw c.in-Spent.is (λ h le. omega arith)
