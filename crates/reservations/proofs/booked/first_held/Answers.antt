use Rattle.std.proofs.Common.{◌<◌, ◌≤◌, length, arith}
use Rattle.reservations.proofs.BookingLemmas.{held_later, held_here, held_nowhere}
use Rattle.reservations.proofs.booked.first_held.Goals as goal

pub loop-place-preserved : goal.loop-place-preserved
loop-place-preserved c =
    let lt : c.loop-place.place < length c.args.rows.now = omega arith in
    held_later c.args.rows.now c.loop-place.place c.index-rows-place.result lt c.index-rows-place.is
    c.if-b.false c.loop-place.invariant

pub returns-then-b : goal.returns-then-b
returns-then-b c =
    let lt : c.loop-place.place < length c.args.rows.now = omega arith in
    held_here c.args.rows.now c.loop-place.place c.index-rows-place.result lt c.index-rows-place.is
    c.if-b.true c.loop-place.invariant

pub returns : goal.returns
returns c =
    let le : length c.args.rows.now ≤ c.loop-place.place = omega arith in
    held_nowhere c.args.rows.now c.loop-place.place le c.loop-place.invariant
