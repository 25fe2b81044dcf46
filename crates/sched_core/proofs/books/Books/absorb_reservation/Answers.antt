use Rattle.sched_core.proofs.BookLemmas.{room_made}
use Rattle.sched_core.proofs.books.Books.absorb_reservation.Goals as goal

pub absorb_made-requires-clause-room : goal.absorb_made-requires-clause-room
absorb_made-requires-clause-room g c =
    let s = c.self.inside in
    rw (c.booked-made.ensures, c.job_made-job.ensures)
    (room_made c.args.step.now.kind s.rows.rows c.args.number c.args.step.now.now _
    (rw (← c.self.view_is) at c.requires.job_room))

pub absorb_made-requires-clause-follows : goal.absorb_made-requires-clause-follows
absorb_made-requires-clause-follows g c = rw (c.booked-made.ensures, c.job_made-job.ensures)
    (rw (← c.self.view_is) at c.requires.follows)
