use Rattle.core_rules.specs.Job.{state_of}
use Rattle.core_rules.specs.Next.{state_after}
use Rattle.core_rules.proofs.KeptLemmas.{state_of-push}
use Rattle.core_reference.proofs.PlainLemmas.{fold_step}
use Rattle.core_reference.proofs.entries.state_in.Goals as goal

pub loop-e-preserved : goal.loop-e-preserved
loop-e-preserved c =
    fold_step (state_of c.args.job) (λ e s. state_after e.kind c.args.job s) (state_of-push c.args.job)
    c.args.entries.now c.loop-e.e-index c.e-item.result c.loop-e.state _ c.loop-e-test.true c.e-item.is
    c.loop-e.invariant c.state_now-state.ensures
