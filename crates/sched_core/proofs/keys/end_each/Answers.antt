use Rattle.std.proofs.Common.{refl, arith}
use Rattle.sched_core.specs.Books.{kept_by}
use Rattle.sched_core.proofs.KeyLemmas.{without-step}
use Rattle.sched_core.proofs.keys.end_each.Goals as goal

pub loop-number-init : goal.loop-number-init
loop-number-init g c = (refl, omega arith)

pub loop-number-preserved : goal.loop-number-preserved
loop-number-preserved g c = (
  without-step g.A.JobAuthorizer.key_of c.args.numbers.now c.loop-number.number-index
      (kept_by g.A.JobAuthorizer.key_of c.args.keys.now.entries) c.loop-number.keys.entries
      c.end_one.new.keys.entries c.loop-number-test.true c.loop-number.invariant.0
      c.end_one.ensures.keys,
  (let so_far = c.loop-number.invariant.1 in
      let more = c.end_one.ensures.spare in
      omega (arith, so_far, more)),
)
