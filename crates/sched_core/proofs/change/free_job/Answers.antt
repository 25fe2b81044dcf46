use Rattle.std.proofs.Common.{◌∙◌}
use Rattle.core_rules.specs.Reservation.{frees_by}
use Rattle.sched_core.proofs.FreeLemmas.{job_gone, job_freed}
use Rattle.sched_core.proofs.change.free_job.Goals as goal

pub returns-in-Some-clause-rows : goal.returns-in-Some-clause-rows
returns-in-Some-clause-rows g c =
    job_freed (frees_by c.args.kind.now) c.args.job c.args.bookings.now.rows c.in-Some.b c.args.rows.now.rows
    c.lower_if.new.rows.rows c.requires c.in-Some.ensures
    (λ t. c.lower_if.ensures.freed (c.freed.ensures ∙ t)) (λ t. c.lower_if.ensures.kept (c.freed.ensures ∙ t))

pub returns-in-None-clause-rows : goal.returns-in-None-clause-rows
returns-in-None-clause-rows g c =
    job_gone (frees_by c.args.kind.now) c.args.job c.args.bookings.now.rows c.args.rows.now.rows c.requires
    c.in-None.ensures
