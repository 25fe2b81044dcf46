-- The sum of the sizes so far.
use Rattle.std.proofs.Common.{◌≡◌, min, take}
use Rattle.lru_disk_cache.specs.Reserved.{held_size, without_number}
use Rattle.lru_disk_cache.proofs.reservations.sum_beside.Given as goal

abbrev pub invariant-loop-reserved : goal.invariant-loop-reserved
invariant-loop-reserved l = l.sum ≡ min
    (held_size (without_number l.number (take l.reserved-index l.pending))) 18446744073709551615
