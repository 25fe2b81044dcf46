use Rattle.std.proofs.Common.{refl}
use Rattle.reservations.specs.Booked.{booked_after}
use Rattle.reservations.proofs.BookingLemmas.{place_within, one_settled, none_settled}
use Rattle.reservations.proofs.bookings.Bookings.settle.Goals as goal

pub change-requires : goal.change-requires
change-requires c = let s = c.self.inside in
    rw (← c.self.view_is) (place_within s.rows.rows c.args.job.0 c.in-Some.place c.in-Some.ensures)

pub returns-in-Some-clause-rows : goal.returns-in-Some-clause-rows
returns-in-Some-clause-rows c = let s = c.self.inside in
    rw (← c.self.view_is)
    (one_settled (booked_after c.args.step.now) (booked_after c.args.step.now) c.args.job s.rows.rows
    c.change.new.self.rows c.in-Some.place c.requires (λ b own. refl) c.in-Some.ensures
    (rw (← c.self.view_is) at c.change.ensures.rows))

pub returns-in-None-clause-rows : goal.returns-in-None-clause-rows
returns-in-None-clause-rows c = let s = c.self.inside in
    rw (← c.self.view_is)
    (none_settled (booked_after c.args.step.now) c.args.job s.rows.rows c.requires c.in-None.ensures)
