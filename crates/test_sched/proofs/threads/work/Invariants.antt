use Rattle.sched.specs.Pass.{IsPassOf}
use Rattle.test_sched.proofs.threads.work.Given as goal

abbrev pub invariant-loop : goal.invariant-loop
invariant-loop g l = IsPassOf l.scheduler l.pass
