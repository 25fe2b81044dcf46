-- Those so far are doubted, and the others as they were.
use Rattle.std.proofs.Common.{◌≡◌, ◌++◌, map, take, drop}
use Rattle.lru_disk_cache.specs.Reserved.{doubted}
use Rattle.lru_disk_cache.proofs.reservations.doubt_in.Given as goal

abbrev pub invariant-loop-reserved : goal.invariant-loop-reserved
invariant-loop-reserved l = l.reserved-items ≡ map (doubted l.number)
    (take l.reserved-index l.fn.pending.items) ++ drop l.reserved-index l.fn.pending.items
