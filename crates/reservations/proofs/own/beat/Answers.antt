use Rattle.reservations.proofs.OwnRowLemmas.{own_jobs}
use Rattle.reservations.proofs.own.beat.Goals as goal

pub returns-clause-own : goal.returns-clause-own
returns-clause-own c = rw c.end_jobs.ensures.rows
    (own_jobs c.args.reaped.now c.end_if.new.bookings.rows c.end_if.new.own.lists c.end_if.ensures.own)
