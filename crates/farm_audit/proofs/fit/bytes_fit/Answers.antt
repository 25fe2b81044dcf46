use Rattle.std.proofs.Common.{arith}
use Rattle.farm_audit.proofs.ValueLemmas.{bytes_are}
use Rattle.farm_audit.proofs.fit.bytes_fit.Goals as goal

pub returns : goal.returns
returns c = bytes_are c.args.bytes.now (λ i. omega (arith, c.type_inv.bytes i))
