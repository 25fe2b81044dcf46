use Rattle.std.proofs.Common.{◌∙◌}
use Rattle.reservations.proofs.BookingLemmas.{asked_open}
use Rattle.reservations.proofs.bookings.Bookings.open_job.Goals as goal

pub returns : goal.returns
returns c = c.open_job.ensures
    ∙ asked_open c.args.self.now.rows c.args.job c.row-found.result c.row-found.ensures
