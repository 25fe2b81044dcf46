use Rattle.std.proofs.Common.{sym, subst}
use Rattle.http_connections.specs.Looked.{IsOpen}
use Rattle.http_connections.specs.declared.begun.Looked.TheVariants.{Open}
use Rattle.http_connections.proofs.WholeLemmas.{nothing_came, open_as}
use Rattle.http_connections.proofs.begun.Begun.new.Goals as goal

pub invariant_of-result : goal.invariant_of-result
invariant_of-result c = record {
  goes_on = λ scan is. open_as c.args.role c.new.result.items (Open c.start.result)
      (subst (λ l. IsOpen l c.start.result) (sym c.new.ensures.items)
      (nothing_came c.start.result c.start.ensures)) scan is;
  stopped = λ opened is. absurd cc;
}
