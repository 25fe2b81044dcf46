use Rattle.std.specs.Prelude.{All}
use Rattle.sched.specs.Pass.{IsPassOf}
use Rattle.test_turn.proofs.crew.hire.Given as goal

abbrev pub invariant-loop-number : goal.invariant-loop-number
invariant-loop-number g l = record {
  passes : All (λ w. IsPassOf l.scheduler w.pass) l.workers.items;
  of : IsPassOf l.scheduler l.pass;
}
