use Rattle.scheduler_service.proofs.HeldLemmas.{none_joined, one_joined}
use Rattle.scheduler_service.proofs.workers.join_all.Goals as goal

pub loop-theirs-init : goal.loop-theirs-init
loop-theirs-init c = none_joined c.args.pass.now

pub loop-theirs-preserved : goal.loop-theirs-preserved
loop-theirs-preserved c =
    one_joined c.loop-theirs.yielded c.in-Some.theirs c.args.pass.now c.loop-theirs.pass c.join.new.pass
    c.loop-theirs.invariant c.join.ensures.joined
