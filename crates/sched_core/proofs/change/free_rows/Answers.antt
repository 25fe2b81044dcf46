use Rattle.std.proofs.Common.{refl, ◌∙◌}
use Rattle.core_rules.specs.declared.entry.CoreKind.TheVariants.{Reserve, Commit, Drain}
use Rattle.core_rules.specs.Reservation.{frees_by}
use Rattle.reservations.specs.Booked.{held_view}
use Rattle.sched_core.proofs.FreeLemmas.{never_freed, beat_freed, status_freed}
use Rattle.reservations.proofs.BookingLemmas.{undo_frees, update_frees}
use Rattle.sched_core.proofs.change.free_rows.Goals as goal

pub returns-in-Reserve-clause-rows : goal.returns-in-Reserve-clause-rows
returns-in-Reserve-clause-rows g c = rw c.in-Reserve.is
    (never_freed (frees_by (Reserve c.in-Reserve.field-0)) c.args.bookings.now.rows c.args.rows.now.rows
    (λ b. refl))

pub returns-in-Commit-clause-rows : goal.returns-in-Commit-clause-rows
returns-in-Commit-clause-rows g c = rw c.in-Commit.is
    (never_freed (frees_by (Commit c.in-Commit.job c.in-Commit.state c.in-Commit.kept))
    c.args.bookings.now.rows
    c.args.rows.now.rows (λ b. refl))

pub free_job-requires : goal.free_job-requires
free_job-requires g c = rw c.in-Undo.is (undo_frees c.in-Undo.job c.in-Undo.noted c.in-Undo.ended)

pub free_job-requires-in-Update : goal.free_job-requires-in-Update
free_job-requires-in-Update g c = rw c.in-Update.is
    (update_frees c.in-Update.server c.in-Update.job c.in-Update.state c.in-Update.answer)

pub free_each-requires : goal.free_each-requires
free_each-requires g c = rw c.get.ensures.items (rw c.in-Beat.is at c.requires.apart)

pub returns-in-Beat-clause-rows : goal.returns-in-Beat-clause-rows
returns-in-Beat-clause-rows g c =
    let does = rw c.get.ensures.items at c.free_each.ensures.rows in
    rw c.in-Beat.is (does ∙ beat_freed c.in-Beat.server c.in-Beat.nonce c.in-Beat.cpus c.in-Beat.key
    c.in-Beat.pruned c.in-Beat.reaped c.in-Beat.replaced c.in-Beat.is_new (held_view c.args.bookings.now.rows)
    c.args.rows.now.rows (rw c.in-Beat.is at c.requires.stay))

pub returns-in-Status-clause-rows : goal.returns-in-Status-clause-rows
returns-in-Status-clause-rows g c = rw c.in-Status.is (status_freed c.in-Status.pruned c.in-Status.servers
    c.in-Status.cpus c.in-Status.jobs c.args.bookings.now.rows c.args.rows.now.rows
    (rw c.in-Status.is at c.requires.stay))

pub returns-in-Drain-clause-rows : goal.returns-in-Drain-clause-rows
returns-in-Drain-clause-rows g c = rw c.in-Drain.is
    (never_freed (frees_by (Drain c.in-Drain.server c.in-Drain.nonce c.in-Drain.on c.in-Drain.reg))
    c.args.bookings.now.rows c.args.rows.now.rows (λ b. refl))
