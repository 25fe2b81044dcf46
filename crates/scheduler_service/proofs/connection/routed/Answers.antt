use Rattle.scheduler_service.proofs.connection.routed.Goals as goal

pub returns : goal.returns
returns g c = record {
  read = record {
    left = c.now-now.ensures.left;
    last = rw c.now-now.ensures.last c.now-now.ensures.given;
  };
  asks = rw c.now-now.ensures.last c.route.ensures;
}
