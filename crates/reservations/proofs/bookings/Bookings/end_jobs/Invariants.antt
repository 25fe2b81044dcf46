use Rattle.std.proofs.Common.{◌≡◌, drop, map}
use Rattle.reservations.specs.Own.{ended_jobs}
use Rattle.reservations.proofs.bookings.Bookings.end_jobs.Given as goal

abbrev pub invariant-loop-job : goal.invariant-loop-job
invariant-loop-job l = (map (ended_jobs (drop l.job-index l.jobs)) l.self.rows
    ≡ map (ended_jobs l.jobs) l.initial.self.rows)
    × (l.self.first ≡ l.initial.self.first) × (l.self.has_room ≡ l.initial.self.has_room)
