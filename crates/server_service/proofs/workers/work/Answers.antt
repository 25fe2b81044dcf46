use Rattle.http_connections.proofs.TallyLemmas.{none_yet, one_more}
use Rattle.server_service.proofs.workers.work.Goals as goal

pub loop-init : goal.loop-init
loop-init g c = none_yet _ _ _ _

pub loop-preserved : goal.loop-preserved
loop-preserved g c =
    one_more _ _ _ _ _ _ (c.in-Some-take.link, c.in-Some-take._peer) c.serve_server_connection-served.new.link
    c.serve_server_connection-served.result _ _ _
    c.loop.invariant c.in-Some-take.ensures.some c.done.ensures
    c.serve_server_connection-served.ensures.served
