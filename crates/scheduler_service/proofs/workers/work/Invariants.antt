use Rattle.sched.specs.Outside.{moments}
use Rattle.sched.specs.Pass.{Stays}
use Rattle.http_connections.proofs.TallyLemmas.{SoFar}
use Rattle.scheduler_service.specs.Connection.{IsReplied}
use Rattle.scheduler_service.specs.Workers.{around}
use Rattle.scheduler_service.proofs.workers.work.Given as goal

abbrev pub invariant-loop : goal.invariant-loop
invariant-loop g l = record {
  tasks : SoFar (IsReplied g.K.ClientAuthCheck.may_answer g.K.ClientAuthCheck.shown
      (g.V.ServerAuthCheck.server_of l.server))
      (λ c. record {
        left = g.T.L.Source.left c;
        held = g.T.L.Sink.held c;
        reads = g.T.L.Source.faults c;
        writes = g.T.L.Sink.faults c;
      })
      (g.T.Tasks.told l.initial.worker.kit.tasks) (g.T.Tasks.told l.worker.kit.tasks)
      (around (moments g.C.Clock.moments g.C.Clock.last) g.D.Dialer.asked g.D.Dialer.faults
      l.initial.worker.pass l.initial.worker.kit)
      (around (moments g.C.Clock.moments g.C.Clock.last) g.D.Dialer.asked g.D.Dialer.faults l.worker.pass
      l.worker.kit);
  stays : Stays l.initial.worker.pass l.worker.pass;
}
