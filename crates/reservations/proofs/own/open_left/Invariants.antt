use Rattle.std.proofs.Common.{◌≡◌, take, filter, length}
use Rattle.core_rules.specs.Rule.{is_left}
use Rattle.reservations.specs.Booked.{open_view}
use Rattle.reservations.proofs.own.open_left.Given as goal

abbrev pub invariant-loop-number : goal.invariant-loop-number
invariant-loop-number l =
    l.left ≡ length (filter (λ o. is_left (take l.number-index l.pruned) o.reg) (open_view l.bookings.rows))
