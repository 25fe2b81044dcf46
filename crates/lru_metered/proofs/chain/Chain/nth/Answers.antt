use Rattle.std.proofs.Common.{sym, ◌∙◌}
use Rattle.lru_metered.proofs.PartLemmas.{after-got}
use Rattle.lru_metered.proofs.chain.Chain.nth.Goals as goal

pub loop-preserved : goal.loop-preserved
loop-preserved g c =
    after-got c.args.self.now.order c.loop.counter c.in_ok-current.field-0 c.after-current.result
    (sym c.loop.invariant ∙ c.in_ok-current.was) c.after-current.ensures
