-- The sum of the sizes so far.
use Rattle.std.proofs.Common.{◌≡◌, min, take}
use Rattle.lru_disk_cache.specs.Reserved.{held_size}
use Rattle.lru_disk_cache.proofs.reservations.Reservations.held_size.Given as goal

abbrev pub invariant-loop-reserved : goal.invariant-loop-reserved
invariant-loop-reserved l = l.sum ≡ min (held_size (take l.reserved-index l.self)) 18446744073709551615
