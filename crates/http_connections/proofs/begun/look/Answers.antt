use Rattle.std.proofs.Common.{arith}
use Rattle.std.proofs.lemmas.List.{take_more}
use Rattle.http_connections.proofs.WholeLemmas.{found_by_end, found_by_length, open_on}
use Rattle.http_connections.proofs.begun.look.Goals as goal

pub returns-then-ended : goal.returns-then-ended
returns-then-ended c =
    let known = c.loop-at.invariant in
    found_by_end c.args.bytes.now c.loop-at.at _ _ _ c.loop-at-test.true known
    (take_more c.args.bytes.now c.loop-at.at 0 c.loop-at-test.true)
    (c.ends-ended.ensures _ known.sees) c.if-ended.true

pub returns-then-at-ge-MAX_STOP_BYTES : goal.returns-then-at-ge-MAX_STOP_BYTES
returns-then-at-ge-MAX_STOP_BYTES c =
    found_by_length c.args.bytes.now c.loop-at.at _ _ c.loop-at-test.true c.loop-at.invariant
    (take_more c.args.bytes.now c.loop-at.at 0 c.loop-at-test.true)
    (omega (arith, c.if-at-ge-MAX_STOP_BYTES.true))

pub loop-at-preserved : goal.loop-at-preserved
loop-at-preserved c =
    let known = c.loop-at.invariant in
    open_on c.args.bytes.now c.loop-at.at _ _ _ _ c.loop-at-test.true known
    (take_more c.args.bytes.now c.loop-at.at 0 c.loop-at-test.true)
    (c.ends-ended.ensures _ known.sees) c.if-ended.false
    (omega (arith, c.if-at-ge-MAX_STOP_BYTES.false)) (c.step-scan.ensures _ known.sees)
