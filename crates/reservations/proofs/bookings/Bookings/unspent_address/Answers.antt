use Rattle.std.proofs.Common.{◌∙◌}
use Rattle.reservations.proofs.BookingLemmas.{asked_address}
use Rattle.reservations.proofs.bookings.Bookings.unspent_address.Goals as goal

pub returns : goal.returns
returns c = c.unspent_address.ensures
    ∙ asked_address c.args.self.now.rows c.args.number c.args.job c.row-found.result c.row-found.ensures
