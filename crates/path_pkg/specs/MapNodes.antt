-- The nodes that a map from paths holds.
use Rattle.std.specs.Prelude.{List, map, String, string_bytes}
use Rattle.path_pkg.specs.Told.{Nodes}
use Rattle.path_pkg.specs.declared.node.Node.{Node}

abbrev pub nodes_of : {A : Type 0} → List (String A × Node) → Nodes
nodes_of entries = map (λ e. (string_bytes e.0, e.1)) entries
