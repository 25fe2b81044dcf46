use Rattle.std.proofs.Common.{◌≡◌, ◌++◌, take, drop}
use Rattle.std.specs.List.{filter_map}
use Rattle.core_rules.specs.Cuts.{cuts, cuts_behind}
use Rattle.core_rules.specs.Reservation.{booked_at}
use Rattle.core_rules.specs.Rows.{held_of}
use Rattle.core_reference.specs.Plain.{shown, lasts_as}
use Rattle.core_reference.proofs.jobs.reservations.Given as goal

abbrev pub invariant-loop-place : goal.invariant-loop-place
invariant-loop-place l =
    l.rows.items ++ filter_map (shown booked_at (λ b. lasts_as l.which b.job b.reg b.later) held_of)
    (cuts_behind (take l.place l.log) (drop l.place l.log))
    ≡ filter_map (shown booked_at (λ b. lasts_as l.which b.job b.reg b.later) held_of) (cuts l.log)
