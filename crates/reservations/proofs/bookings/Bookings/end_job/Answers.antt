use Rattle.reservations.specs.Own.{ended_row, ended_job}
use Rattle.reservations.proofs.BookingLemmas.{place_within, one_settled, none_settled}
use Rattle.reservations.proofs.OwnRowLemmas.{other_job, own_job}
use Rattle.reservations.proofs.bookings.Bookings.end_job.Goals as goal

pub end-requires : goal.end-requires
end-requires c = let s = c.self.inside in
    rw (← c.self.view_is) (place_within s.rows.rows c.args.job.0 c.in-Some.place c.in-Some.ensures)

pub returns-in-Some-clause-rows : goal.returns-in-Some-clause-rows
returns-in-Some-clause-rows c = let s = c.self.inside in
    rw (← c.self.view_is)
    (one_settled (ended_job c.args.job) ended_row c.args.job s.rows.rows
    c.end.new.self.rows c.in-Some.place (other_job c.args.job) (own_job c.args.job) c.in-Some.ensures
    (rw (← c.self.view_is) at c.end.ensures.rows))

pub returns-in-None-clause-rows : goal.returns-in-None-clause-rows
returns-in-None-clause-rows c = let s = c.self.inside in
    rw (← c.self.view_is)
    (none_settled (ended_job c.args.job) c.args.job s.rows.rows (other_job c.args.job) c.in-None.ensures)
