use Rattle.std.proofs.Common.{◌∙◌}
use Rattle.reservations.proofs.BookingLemmas.{asked_held}
use Rattle.reservations.proofs.bookings.Bookings.is_held.Goals as goal

pub returns : goal.returns
returns c = c.is_held.ensures
    ∙ asked_held c.args.self.now.rows c.args.number c.args.job c.row-found.result c.row-found.ensures
