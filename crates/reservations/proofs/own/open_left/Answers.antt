use Rattle.std.proofs.Common.{◌≤◌, length, ◌∙◌, arith, get_or}
use Rattle.std.proofs.lemmas.List.{get_or_default}
use Rattle.row_index.specs.Lists.{list_at}
use Rattle.reservations.proofs.OwnRowLemmas.{left_first, left_next, left_last}
use Rattle.reservations.proofs.own.open_left.Goals as goal

pub loop-number-init : goal.loop-number-init
loop-number-init c = c.open_count-left.ensures ∙ left_first c.args.pruned.now c.args.bookings.now.rows

pub overflow_sub-left : goal.overflow_sub-left
overflow_sub-left c =
    let ns = c.args.pruned.now in
    let i = c.loop-number.number-index in
    let n = get_or ns i 0 in
    let next = left_next ns i n c.args.bookings.now.rows (list_at c.args.own.now.lists n) c.loop-number.left
    c.requires.rising c.loop-number-test.true (get_or_default ns i 0 n c.loop-number-test.true)
    (c.requires.own n) c.loop-number.invariant in
    let less = rw (c.rows.ensures, c.of.ensures) at c.open_at-left.ensures in
    omega (arith, next, less)

pub loop-number-preserved : goal.loop-number-preserved
loop-number-preserved c =
    let ns = c.args.pruned.now in
    let i = c.loop-number.number-index in
    let n = get_or ns i 0 in
    let next = left_next ns i n c.args.bookings.now.rows (list_at c.args.own.now.lists n) c.loop-number.left
    c.requires.rising c.loop-number-test.true (get_or_default ns i 0 n c.loop-number-test.true)
    (c.requires.own n) c.loop-number.invariant in
    let less = rw (c.rows.ensures, c.of.ensures) at c.open_at-left.ensures in
    omega (arith, next, less)

pub returns : goal.returns
returns c =
    let le : length c.args.pruned.now ≤ c.loop-number.number-index = omega (
      arith,
      c.loop-number-test.false,
    ) in
    c.loop-number.invariant ∙ left_last c.args.pruned.now c.loop-number.number-index
    c.args.bookings.now.rows le
