use Rattle.std.proofs.Common.{[], ◌∷◌}
use Rattle.core_rules.specs.Log.{names_job}
use Rattle.sched_core.proofs.FreeLemmas.{job_gone, job_freed, others_unnamed, own_named}
use Rattle.sched_core.proofs.change.free_one.Goals as goal

pub returns-in-Some-clause-rows : goal.returns-in-Some-clause-rows
returns-in-Some-clause-rows g c =
    job_freed (λ job r. names_job (c.args.job ∷ []) job) c.args.job c.args.bookings.now.rows c.in-Some.b
    c.args.rows.now.rows c.lower_if.new.rows.rows (others_unnamed c.args.job) c.in-Some.ensures
    (λ t. c.lower_if.ensures.freed (own_named c.args.job c.in-Some.b c.in-Some.ensures.own t))
    (λ t. c.lower_if.ensures.kept (own_named c.args.job c.in-Some.b c.in-Some.ensures.own t))

pub returns-in-None-clause-rows : goal.returns-in-None-clause-rows
returns-in-None-clause-rows g c =
    job_gone (λ job r. names_job (c.args.job ∷ []) job) c.args.job c.args.bookings.now.rows
    c.args.rows.now.rows
    (others_unnamed c.args.job) c.in-None.ensures
