use Rattle.std.proofs.Common.{drop, refl, inr, arith}
use Rattle.std.proofs.lemmas.List.{length-drop}
use Rattle.http_connections.proofs.take.drop_body.Goals as goal

pub returns-then-len-stop-clause-body : goal.returns-then-len-stop-clause-body
returns-then-len-stop-clause-body g c = (
  drop c.args.len c.args.stop.now,
  length-drop c.args.len c.args.stop.now,
  inr (omega (arith, c.if-len-stop.true), refl, refl),
)
