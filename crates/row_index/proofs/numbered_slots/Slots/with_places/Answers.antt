use Rattle.std.proofs.Common.{arith}
use Rattle.row_index.proofs.SlotLemmas.{none_counted, none_listed}
use Rattle.row_index.proofs.numbered_slots.Slots.with_places.Goals as goal

pub invariant_of-result : goal.invariant_of-result
invariant_of-result g c =
    let len = c.in_ok-rows.ensures.len in
    let capacity = c.in_ok-numbers.ensures.capacity in
    rw (c.in_ok-rows.ensures.items, c.in_ok-numbers.ensures.items) (record {
      rising = tt;
      numbered = none_listed g.row.T.Denot c.args.places;
      room = omega (arith, len, capacity);
      counted = none_counted g.row.T.Denot c.args.places;
    })
