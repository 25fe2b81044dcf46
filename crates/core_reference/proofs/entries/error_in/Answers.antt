use Rattle.core_rules.specs.Fault.{error_of}
use Rattle.core_rules.specs.Next.{error_after}
use Rattle.core_rules.proofs.RowLemmas.{error_of-push}
use Rattle.core_reference.proofs.PlainLemmas.{fold_step}
use Rattle.core_reference.proofs.entries.error_in.Goals as goal

pub loop-e-preserved : goal.loop-e-preserved
loop-e-preserved c =
    fold_step (λ l. error_of l c.args.reg) (λ e o. error_after e c.args.reg o)
    (λ l e. error_of-push l e c.args.reg) c.args.log.now c.loop-e.e-index c.e-item.result c.loop-e.error _
    c.loop-e-test.true c.e-item.is c.loop-e.invariant c.error_now-error.ensures
