use Rattle.std.proofs.Common.{◌≡◌, Some, map, drop, string_bytes}
use Rattle.path_pkg.specs.Records.{onto, all_found}
use Rattle.path_pkg.specs.Told.{Nodes}
use Rattle.path_pkg.proofs.collect.all_found.Given as goal

abbrev pub invariant-loop-path : goal.invariant-loop-path
invariant-loop-path g l = record {
  told : g.T.Tree.told l.tree ≡ g.T.Tree.told l.initial.tree;
  same : (t : Nodes) → (g.T.Tree.told l.tree).nodes ≡ Some t
      → onto l.records.items (all_found t (map string_bytes (drop l.path-index l.paths)))
      ≡ all_found t (map string_bytes l.paths);
}
