use Rattle.std.proofs.Common.{◌≡◌, Some}
use Rattle.path_pkg.specs.Told.{Nodes}
use Rattle.path_pkg.specs.Written.{texts_of, EntriesFit}
use Rattle.path_pkg.proofs.GroupLemmas.{PiecesSoFar}
use Rattle.path_pkg.proofs.OutlineLemmas.{FramesSoFar}
use Rattle.path_pkg.proofs.write.write_group.Given as goal

abbrev pub invariant-loop-path : goal.invariant-loop-path
invariant-loop-path g l = record {
  told : g.T.Tree.told l.tree ≡ g.T.Tree.told l.initial.tree;
  steady : g.W.Sink.faults l.out ≡ g.W.Sink.faults l.initial.out;
  fit : EntriesFit (texts_of l.path-iterator);
  so_far : (t : Nodes) → (g.T.Tree.told l.tree).nodes ≡ Some t
      → PiecesSoFar t l.rank (texts_of l.path-iterator) (texts_of l.entries.entries)
      (g.W.Sink.held l.initial.out) (g.W.Sink.held l.out);
  some : FramesSoFar l.rank (texts_of l.path-iterator) (texts_of l.entries.entries)
      (g.W.Sink.held l.initial.out) (g.W.Sink.held l.out);
}
