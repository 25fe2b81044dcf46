use Rattle.reservations.specs.Booked.{jobs_by_id}
use Rattle.core_rules.proofs.StateLemmas.{jobs_all, jobs_are}
use Rattle.sched_core.proofs.BookLemmas.{by_id_held, by_id_addressed}
use Rattle.sched_core.proofs.state.SchedState.jobs.Goals as goal

pub returns-clause-jobs : goal.returns-clause-jobs
returns-clause-jobs g c =
    let j = c.self.inside.journal in
    let booked = j.books.lists.booked in
    rw (← c.self.view_is, c.jobs.ensures.jobs)
    (jobs_are j.log.items (jobs_by_id booked) (by_id_held booked j.log.items c.self.invariant.books.held)
    (by_id_addressed j.log.items booked c.self.invariant.books.placed))

pub returns-clause-all : goal.returns-clause-all
returns-clause-all g c =
    let j = c.self.inside.journal in
    let booked = j.books.lists.booked in
    rw (← c.self.view_is, c.jobs.ensures.jobs)
    (jobs_all j.log.items (jobs_by_id booked) (by_id_held booked j.log.items c.self.invariant.books.held)
    (by_id_addressed j.log.items booked c.self.invariant.books.placed))
