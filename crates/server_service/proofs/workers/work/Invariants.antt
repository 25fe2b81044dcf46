use Rattle.build_server.specs.Builds.{builder_of}
use Rattle.dist_token.specs.Verdict.{job_verdict}
use Rattle.http_connections.proofs.TallyLemmas.{SoFar}
use Rattle.server_service.specs.Replied.{IsReplied}
use Rattle.server_service.specs.Told.{peer_of}
use Rattle.server_service.specs.Workers.{lent}
use Rattle.server_service.proofs.workers.work.Given as goal

abbrev pub invariant-loop : goal.invariant-loop
invariant-loop g l = SoFar
    (λ _. IsReplied (job_verdict l.key) (peer_of l.scheduler l.scheduler_auth))
    (λ c. record {
      left = g.T.L.Source.left c;
      held = g.T.L.Sink.held c;
      reads = g.T.L.Source.faults c;
      writes = g.T.L.Sink.faults c;
    })
    (g.T.Tasks.told l.initial.kit.tasks) (g.T.Tasks.told l.kit.tasks)
    (lent g.D.Dialer.asked g.D.Dialer.faults
    (builder_of g.B.BuilderIncoming.built g.B.BuilderIncoming.refusals) l.initial.kit)
    (lent g.D.Dialer.asked g.D.Dialer.faults
    (builder_of g.B.BuilderIncoming.built g.B.BuilderIncoming.refusals) l.kit)
