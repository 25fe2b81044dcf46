use Rattle.std.proofs.Common.{arith}
use Rattle.farm_audit.proofs.ValueLemmas.{numbers_are}
use Rattle.farm_audit.proofs.fit.numbers_fit.Goals as goal

pub returns : goal.returns
returns c = numbers_are c.args.numbers.now (λ i. omega (arith, c.type_inv.numbers i))
