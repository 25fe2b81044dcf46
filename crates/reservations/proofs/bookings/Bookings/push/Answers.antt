use Rattle.reservations.proofs.BookingLemmas.{few_open, few_unspent_rows, counted_push}
use Rattle.reservations.proofs.bookings.Bookings.push.Goals as goal

pub recounted-self-inside-requires-clause-few : goal.recounted-self-inside-requires-clause-few
recounted-self-inside-requires-clause-few c = let s = c.self.inside in
    few_open s.rows.rows s.open_ones s.unspent c.self.invariant

pub recounted-self-inside-requires-2-clause-few : goal.recounted-self-inside-requires-2-clause-few
recounted-self-inside-requires-2-clause-few c = let s = c.self.inside in
    few_unspent_rows s.rows.rows s.open_ones s.unspent c.self.invariant

pub invariant_of-self : goal.invariant_of-self
invariant_of-self c = let s = c.self.inside in
    rw c.push.ensures.rows (counted_push s.rows.rows s.open_ones s.unspent c.args.row
    c.recounted-self-inside.result c.recounted-self-inside-2.result c.self.invariant
    (rw c.push.ensures.rows at c.push.ensures.few)
    (rw c.is_open-opens.ensures at c.recounted-self-inside.ensures)
    c.recounted-self-inside-2.ensures)
