use Rattle.std.specs.Prelude.{All}
use Rattle.sched.specs.Pass.{IsPassOf}
use Rattle.bench.proofs.turns.hire.Given as goal

abbrev pub invariant-loop-number : goal.invariant-loop-number
invariant-loop-number g l = record {
  passes : All (λ c. IsPassOf l.scheduler c.pass) l.hired.items;
  of : IsPassOf l.scheduler l.pass;
}
