use Rattle.std.proofs.Common.{◌∙◌}
use Rattle.path_pkg.proofs.NodeLemmas.{node_found}
use Rattle.path_pkg.proofs.plain_tree.node.Goals as goal

pub returns : goal.returns
returns c = c.get.ensures.value ∙ node_found c.args.path.now c.args.nodes.now.entries
