use Rattle.std.proofs.Common.{◌≡◌, Some}
use Rattle.std.specs.VecDeque.{deque_len}
use Rattle.path_pkg.specs.Place.{spot_of}
use Rattle.path_pkg.specs.Simplified.{taken}
use Rattle.path_pkg.specs.Told.{Nodes}
use Rattle.path_pkg.proofs.simplify.+take.Given as goal

abbrev pub decreases-take : goal.decreases-take
decreases-take g l = l.left

abbrev pub invariant-loop-step : goal.invariant-loop-step
invariant-loop-step g l = record {
  told : g.T.LinkLookup.told l.tree ≡ g.T.LinkLookup.told l.initial.tree;
  same : (t : Nodes) → (g.T.LinkLookup.told l.tree).nodes ≡ Some t
      → taken l.left t l.recording (spot_of l.place) l.todo.items ≡ taken l.left t l.recording
      (spot_of l.fn.place) l.fn.todo.items;
}

abbrev pub decreases-loop-step : goal.decreases-loop-step
decreases-loop-step g l = deque_len l.todo
