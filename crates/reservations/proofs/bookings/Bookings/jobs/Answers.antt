use Rattle.std.proofs.Common.{◌++◌, take, ap, ◌∙◌}
use Rattle.reservations.specs.Booked.{job_view}
use Rattle.reservations.proofs.BookingLemmas.{rest_is}
use Rattle.reservations.proofs.ByIdLemmas.{by_id}
use Rattle.reservations.proofs.bookings.Bookings.jobs.Goals as goal

pub returns : goal.returns
returns c =
    let s = c.self.inside in
    let place = c.before_zero-place.result in
    let new = rw c.rows-rows.ensures.rows at c.new.ensures.rows in
    rw (← c.self.view_is)
    (new ∙ ap (λ l. job_view l ++ job_view (take place s.rows.rows)) (rest_is s.rows.rows place)
    ∙ by_id s.rows.first s.rows.rows place (rw c.rows-rows.ensures.rows at c.rows-rows.ensures.following)
    c.self.invariant.few
    (rw c.rows-rows.ensures.rows at c.before_zero-place.ensures.within)
    (rw c.first.ensures at c.before_zero-place.ensures.low)
    (rw (c.rows-rows.ensures.rows, c.first.ensures) at c.before_zero-place.ensures.anew))
