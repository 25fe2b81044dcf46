use Rattle.sched.specs.Pass.{IsPassOf}
use Rattle.test_turn.proofs.crew.gather.Given as goal

abbrev pub invariant-loop-worker : goal.invariant-loop-worker
invariant-loop-worker l = IsPassOf l.scheduler l.pass
