use Rattle.std.proofs.Common.{◌*◌, ◌-◌}
use Rattle.row_index.proofs.OpenLemmas.{IsClimbing}
use Rattle.row_index.proofs.winner_tree.climb.Given as goal

abbrev pub invariant-loop-at : goal.invariant-loop-at
invariant-loop-at g l = IsClimbing g.K.Key.before l.leaves l.slot l.at l.fn.nodes l.nodes l.risen l.fn.steps
    l.steps

abbrev pub decreases-loop-at : goal.decreases-loop-at
decreases-loop-at g l = 2 * l.leaves - l.at
