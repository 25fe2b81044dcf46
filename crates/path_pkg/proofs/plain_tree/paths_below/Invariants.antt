use Rattle.std.proofs.Common.{◌≡◌, ◌++◌, map, string_bytes}
use Rattle.path_pkg.specs.MapNodes.{nodes_of}
use Rattle.path_pkg.specs.Resolved.{paths_below}
use Rattle.path_pkg.proofs.plain_tree.paths_below.Given as goal

abbrev pub invariant-loop-inner : goal.invariant-loop-inner
invariant-loop-inner l = map string_bytes l.paths.items ++ paths_below (nodes_of l.inner-iterator) l.path
    ≡ paths_below (nodes_of l.nodes.entries) l.path
