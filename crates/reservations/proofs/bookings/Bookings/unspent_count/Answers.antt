use Rattle.reservations.proofs.BookingLemmas.{few_unspent_rows}
use Rattle.reservations.proofs.bookings.Bookings.unspent_count.Goals as goal

pub returns-clause-few : goal.returns-clause-few
returns-clause-few c = let s = c.self.inside in
    few_unspent_rows s.rows.rows s.open_ones s.unspent c.self.invariant
