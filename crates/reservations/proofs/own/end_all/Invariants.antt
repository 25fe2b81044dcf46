use Rattle.std.proofs.Common.{◌≡◌, drop, map}
use Rattle.reservations.specs.Own.{ended_at_all, AreOwn}
use Rattle.reservations.proofs.own.end_all.Given as goal

abbrev pub invariant-loop-number : goal.invariant-loop-number
invariant-loop-number l = (map (ended_at_all (drop l.number-index l.numbers)) l.bookings.rows
    ≡ map (ended_at_all l.numbers) l.initial.bookings.rows)
    × (l.bookings.first ≡ l.initial.bookings.first) × AreOwn l.bookings.rows l.own.lists
