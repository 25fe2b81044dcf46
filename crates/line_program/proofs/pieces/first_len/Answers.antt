use Rattle.std.proofs.Common.{◌≡◌, arith}
use Rattle.line_program.specs.Pieces.{piece_len}
use Rattle.line_program.proofs.PieceLemmas.{len_step, len_stop, len_done, piece_len-le}
use Rattle.line_program.proofs.pieces.first_len.Goals as goal

pub returns-then-b-eq10-clause-len : goal.returns-then-b-eq10-clause-len
returns-then-b-eq10-clause-len c = len_stop c.loop-i.i c.args.rest.now c.loop-i-test.true c.if-b-eq10.true
    c.loop-i.invariant

pub loop-i-preserved : goal.loop-i-preserved
loop-i-preserved c = len_step c.loop-i.i c.args.rest.now c.loop-i-test.true c.if-b-eq10.false
    c.loop-i.invariant

pub returns-clause-len : goal.returns-clause-len
returns-clause-len c =
    let done : c.loop-i.i ≡ piece_len c.args.rest.now =
    len_done c.loop-i.i c.args.rest.now c.loop-i-test.false c.loop-i.invariant in
    omega (arith, piece_len-le c.args.rest.now)
