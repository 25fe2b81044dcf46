use Rattle.std.proofs.Common.{refl}
use Rattle.http_connections.proofs.TallyLemmas.{none_yet, one_more}
use Rattle.scheduler_service.proofs.HeldLemmas.{stays_on}
use Rattle.scheduler_service.proofs.workers.work.Goals as goal

pub loop-init : goal.loop-init
loop-init g c = record { tasks = none_yet _ _ _ _; stays = record { of = refl; start = refl; held = refl; splits = refl } }

pub loop-preserved : goal.loop-preserved
loop-preserved g c = record {
  tasks =
      one_more _ _ _ _ _ _ (c.in-Some-take.link, c.in-Some-take.peer)
      c.serve_scheduler_connection-served.new.link c.serve_scheduler_connection-served.result _ _ _
      c.loop.invariant.tasks c.in-Some-take.ensures.some c.done.ensures
      c.serve_scheduler_connection-served.ensures.served;
  stays =
      stays_on c.args.worker.now.pass c.loop.worker.pass c.serve_scheduler_connection-served.new.pass
      c.loop.invariant.stays c.serve_scheduler_connection-served.ensures.stays;
}
