-- Each number so far is taken.
use Rattle.std.proofs.Common.{◌≡◌, ℕ, ◌<◌, true}
use Rattle.lru_disk_cache.specs.Reserved.{has}
use Rattle.lru_disk_cache.proofs.reservations.Reservations.least_free.Given as goal

abbrev pub invariant-loop-number : goal.invariant-loop-number
invariant-loop-number l = (m : ℕ) → m < l.number → has m l.self ≡ true
