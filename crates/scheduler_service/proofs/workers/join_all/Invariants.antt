use Rattle.scheduler_service.specs.Workers.{AreJoined}
use Rattle.scheduler_service.proofs.workers.join_all.Given as goal

abbrev pub invariant-loop-theirs : goal.invariant-loop-theirs
invariant-loop-theirs l = AreJoined l.yielded l.initial.pass l.pass
