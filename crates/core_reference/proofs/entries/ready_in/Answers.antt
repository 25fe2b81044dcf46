use Rattle.core_rules.specs.Job.{ready_at}
use Rattle.core_rules.specs.Next.{ready_after}
use Rattle.core_rules.proofs.KeptLemmas.{ready_at-push}
use Rattle.core_reference.proofs.PlainLemmas.{fold_step}
use Rattle.core_reference.proofs.entries.ready_in.Goals as goal

pub loop-e-preserved : goal.loop-e-preserved
loop-e-preserved c =
    fold_step (ready_at c.args.job) (λ e o. ready_after e c.args.job o) (ready_at-push c.args.job) c.args.entries.now c.loop-e.e-index c.e-item.result c.loop-e.moment _
    c.loop-e-test.true c.e-item.is c.loop-e.invariant c.ready_now-moment.ensures
