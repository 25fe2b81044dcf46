-- The entries before are others, and the walk of the bucket goes on.
use Rattle.std.proofs.Common.{None, length, slice_index_or}
use Rattle.lru_metered.specs.Index.{nexts}
use Rattle.lru_metered.proofs.IndexLemmas.{trail}
use Rattle.lru_metered.proofs.SearchLemmas.{Searched}
use Rattle.lru_metered.proofs.index.search.Given as goal

abbrev pub invariant-loop-current : goal.invariant-loop-current
invariant-loop-current g l =
    Searched (g.K.PartialEq.eq l.key) l.nodes.items (slice_index_or l.heads l.bucket None) l.previous
    l.current

abbrev pub decreases-loop-current : goal.decreases-loop-current
decreases-loop-current g l = length (trail (nexts l.nodes.items) (length l.nodes.items.slots) l.current)
