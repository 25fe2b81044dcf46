use Rattle.std.proofs.Common.{sym, subst}
use Rattle.http_connections.specs.Looked.{IsOpen, Stops}
use Rattle.http_connections.proofs.WholeLemmas.{stops_on}
use Rattle.http_connections.proofs.begun.Begun.more.Goals as goal

pub invariant_of-self : goal.invariant_of-self
invariant_of-self c = record {
  goes_on = λ scan is. subst (λ l. IsOpen l scan) (sym c.in-Err.ensures.items) (c.args.self.now.goes_on scan is);
  stopped = λ opened is. subst (λ l. Stops c.args.self.now.role l opened) (sym c.in-Err.ensures.items)
      (c.args.self.now.stopped opened is);
}

pub invariant_of-self-in-Stopped : goal.invariant_of-self-in-Stopped
invariant_of-self-in-Stopped c = record {
  goes_on = λ scan is. absurd (cc (is, c.in-Stopped.is));
  stopped = λ opened is. subst (λ l. Stops c.args.self.now.role l opened) (sym c.in-Ok.ensures.items)
      (stops_on c.args.self.now.role c.args.self.now.bytes.items c.args.piece.now opened
      (c.args.self.now.stopped opened is));
}
