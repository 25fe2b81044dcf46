use Rattle.std.proofs.Common.{◌≡◌, ◌≤◌, ◌+◌, ◌*◌, ◌^◌, ◌∙◌, length, refl, sym, subst, arith}
use Rattle.sched_core.proofs.ChangeLemmas.{forgive-none, forgive-more}
use Rattle.sched_core.proofs.RegistrationLemmas.{looks_more}
use Rattle.sched_core.proofs.change.forgive.Goals as goal

pub loop-number-init : goal.loop-number-init
loop-number-init g c = (forgive-none c.args.rows.now.rows, refl, λ h le. omega arith)

pub loop-number-preserved : goal.loop-number-preserved
loop-number-preserved g c = (
  forgive-more c.args.numbers.now c.loop-number.number-index c.args.rows.now.rows c.loop-number.rows.rows
      c.change.new.self.rows c.loop-number-test.true c.loop-number.invariant.0 c.change.ensures.rows,
  c.change.ensures.places ∙ c.loop-number.invariant.1,
  λ h le. looks_more c.loop-number.number-index
      (2 * h + 1) c.args.steps.now c.loop-number.steps c.change.new.steps
      (c.loop-number.invariant.2 h le)
      (c.change.ensures.looks h (subst (λ p. p.count ≤ 2 ^ h) (sym c.loop-number.invariant.1) le)),
)

pub returns-clause-looks : goal.returns-clause-looks
returns-clause-looks g c = λ h le.
    let at : c.loop-number.number-index ≡ length c.args.numbers.now =
    omega (arith, c.loop-number-test.false, c.loop-number.auto.number-index-end) in
    subst (λ n. c.loop-number.steps ≤ c.args.steps.now + 2 * n * (2 * h + 1)) at
    (c.loop-number.invariant.2 h le)
