-- The entry's is not among those so far.
use Rattle.std.proofs.Common.{◌≡◌, drop}
use Rattle.lru_disk_cache.specs.Reserved.{temp_of}
use Rattle.lru_disk_cache.proofs.reservations.temp_in.Given as goal

abbrev pub invariant-loop-reserved : goal.invariant-loop-reserved
invariant-loop-reserved l = temp_of l.entry (drop l.reserved-index l.pending) ≡ temp_of l.entry l.pending
