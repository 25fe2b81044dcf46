use Rattle.sched.specs.Pass.{IsPassOf}
use Rattle.test_turn.proofs.crew.call_all.Given as goal

abbrev pub invariant-loop-number : goal.invariant-loop-number
invariant-loop-number g l = IsPassOf l.scheduler l.pass
