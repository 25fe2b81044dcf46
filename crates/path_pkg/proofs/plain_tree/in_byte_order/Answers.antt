use Rattle.path_pkg.proofs.NodeLemmas.{texts_in_order}
use Rattle.path_pkg.proofs.plain_tree.in_byte_order.Goals as goal

pub returns : goal.returns
returns c = texts_in_order (λ x. x) c.args.nodes.now.entries c.len.ensures.ordered
