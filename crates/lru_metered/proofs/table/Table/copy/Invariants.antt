-- The pairs that came so far are those of the copy.
use Rattle.std.proofs.Common.{◌≡◌, map}
use Rattle.std.specs.Map.Iter.{deref_pair}
use Rattle.lru_metered.proofs.table.Table.copy.Given as goal

abbrev pub invariant-loop-k : goal.invariant-loop-k
invariant-loop-k g l = l.copy ≡ map deref_pair l.yielded
