use Rattle.std.proofs.Common.{◌≡◌, drop}
use Rattle.reservations.specs.Own.{ended_in_all}
use Rattle.reservations.proofs.bookings.Bookings.end_each.Given as goal

abbrev pub invariant-loop-place : goal.invariant-loop-place
invariant-loop-place l = (ended_in_all l.reg (drop l.place-index l.places) l.self.rows
    ≡ ended_in_all l.reg l.places l.initial.self.rows)
    × (l.self.first ≡ l.initial.self.first) × (l.self.has_room ≡ l.initial.self.has_room)
