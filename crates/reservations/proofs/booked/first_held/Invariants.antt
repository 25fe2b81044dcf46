use Rattle.std.proofs.Common.{◌≡◌, drop}
use Rattle.reservations.specs.Booked.{job_view}
use Rattle.reservations.proofs.booked.first_held.Given as goal

abbrev pub invariant-loop-place : goal.invariant-loop-place
invariant-loop-place l = job_view l.rows ≡ job_view (drop l.place l.rows)
