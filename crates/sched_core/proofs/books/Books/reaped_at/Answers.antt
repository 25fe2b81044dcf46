use Rattle.sched_core.proofs.books.Books.reaped_at.Goals as goal

pub reaped_jobs-requires : goal.reaped_jobs-requires
reaped_jobs-requires c = rw (c.rows.ensures, c.of.ensures) (c.self.invariant c.args.beat.reg)
