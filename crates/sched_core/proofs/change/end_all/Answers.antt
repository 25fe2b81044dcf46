use Rattle.std.proofs.Common.{◌∙◌, refl}
use Rattle.sched_core.proofs.ChangeLemmas.{end-none, end-step}
use Rattle.sched_core.proofs.change.end_all.Goals as goal

pub loop-number-init : goal.loop-number-init
loop-number-init g c = (end-none c.args.rows.now.rows, refl)

pub loop-number-preserved : goal.loop-number-preserved
loop-number-preserved g c = (
  end-step c.args.numbers.now c.loop-number.number-index c.args.rows.now.rows c.loop-number.rows.rows
      c.end.new.self.rows c.loop-number-test.true c.loop-number.invariant.0 c.end.ensures.rows,
  c.end.ensures.places ∙ c.loop-number.invariant.1,
)
