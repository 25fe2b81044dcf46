use Rattle.std.proofs.Common.{arith}
use Rattle.sched_core.proofs.change.push_row.Goals as goal

pub returns-in-Some-clause-top : goal.returns-in-Some-clause-top
returns-in-Some-clause-top g c = rw c.in-Some.is (λ n le same. omega (arith, c.push.ensures.top, same))

pub returns-in-None-clause-top : goal.returns-in-None-clause-top
returns-in-None-clause-top g c = rw c.in-None.is (λ n le same. omega (arith, le))
