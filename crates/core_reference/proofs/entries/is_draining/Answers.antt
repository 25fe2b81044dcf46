use Rattle.std.proofs.Common.{false}
use Rattle.core_rules.specs.Standing.{drained_in, drains_by}
use Rattle.core_rules.specs.Next.{draining_after}
use Rattle.core_reference.proofs.PlainLemmas.{fold_step, latest_next}
use Rattle.core_reference.proofs.entries.is_draining.Goals as goal

pub loop-e-preserved : goal.loop-e-preserved
loop-e-preserved c =
    fold_step (λ l. drained_in l c.args.reg) (λ e b. draining_after e.kind c.args.reg b)
    (latest_next false (λ e. drains_by e.kind c.args.reg)) c.args.entries.now c.loop-e.e-index c.e-item.result
    c.loop-e.draining _ c.loop-e-test.true c.e-item.is c.loop-e.invariant c.draining_now-draining.ensures
