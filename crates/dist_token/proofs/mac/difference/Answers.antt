use Rattle.std.proofs.Common.{arith}
use Rattle.dist_token.proofs.Bits.{one_more}
use Rattle.dist_token.proofs.mac.difference.Goals as goal

pub loop-index-preserved : goal.loop-index-preserved
loop-index-preserved c =
    one_more c.loop-index.bits c.args.given.now c.args.mac.now c.loop-index.index
    (omega (arith, c.requires, c.loop-index-test.true))
    (omega (arith, c.type_inv.mac, c.loop-index-test.true)) c.loop-index.invariant
