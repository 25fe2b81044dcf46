use Rattle.sched.specs.Pass.{IsPassOf}
use Rattle.bench.proofs.turns.call_all.Given as goal

abbrev pub invariant-loop : goal.invariant-loop
invariant-loop g l = IsPassOf l.scheduler l.caller.pass
