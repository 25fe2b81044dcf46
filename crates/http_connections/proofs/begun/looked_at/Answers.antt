use Rattle.http_connections.proofs.WholeLemmas.{stops_at}
use Rattle.http_connections.proofs.begun.looked_at.Goals as goal

pub returns-in_ok-opened-in-Stop : goal.returns-in_ok-opened-in-Stop
returns-in_ok-opened-in-Stop c =
    stops_at c.args.role c.args.bytes.now c.in-Stop.len c.in_ok-opened-in-Stop.opened c.in-Stop.ensures.1
    c.in_ok-opened-in-Stop.ensures
