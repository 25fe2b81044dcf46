use Rattle.std.proofs.Common.{◌≡◌, ◌+◌, filter, take}
use Rattle.reservations.specs.Own.{is_own_at}
use Rattle.reservations.proofs.own_places.OwnPlaces.kept.Given as goal

abbrev pub invariant-loop-at : goal.invariant-loop-at
invariant-loop-at g l = (l.kept.items ≡ filter (is_own_at l.reg l.rows) (take l.at l.self))
    × (l.steps ≡ l.initial.steps + l.at)
