use Rattle.std.proofs.Common.{◌∙◌}
use Rattle.reservations.proofs.BookingLemmas.{asked_unspent}
use Rattle.reservations.proofs.bookings.Bookings.is_unspent.Goals as goal

pub returns : goal.returns
returns c = c.is_unspent.ensures
    ∙ asked_unspent c.args.self.now.rows c.args.number c.args.job c.row-found.result c.row-found.ensures
