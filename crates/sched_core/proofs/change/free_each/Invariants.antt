use Rattle.std.proofs.Common.{◌≡◌, map, drop}
use Rattle.sched_core.specs.Changes.{row_without}
use Rattle.reservations.specs.Booked.{held_view}
use Rattle.sched_core.proofs.change.free_each.Given as goal

abbrev pub invariant-loop-job : goal.invariant-loop-job
invariant-loop-job g l = (map (row_without (drop l.job-index l.jobs) (held_view l.bookings.rows)) l.rows.rows
    ≡ map (row_without l.jobs (held_view l.bookings.rows)) l.initial.rows.rows)
    × (l.rows.places ≡ l.initial.rows.places)
