-- The key at the place that was come to.
use Rattle.std.proofs.Common.{◌≡◌, slice_get}
use Rattle.lru_metered.proofs.chain.Chain.nth.Given as goal

abbrev pub invariant-loop : goal.invariant-loop
invariant-loop g l = l.current ≡ slice_get l.self.order l.counter
