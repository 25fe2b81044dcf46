use Rattle.std.proofs.Common.{◌∙◌, sym, ap, refl}
use Rattle.path_pkg.specs.MapNodes.{nodes_of}
use Rattle.path_pkg.specs.Tree.{node_at}
use Rattle.path_pkg.proofs.ResolvedLemmas.{target_ok, target_err}
use Rattle.path_pkg.proofs.plain_tree.target_node.Goals as goal

pub returns-in_ok-text-in-Ok : goal.returns-in_ok-text-in-Ok
returns-in_ok-text-in-Ok c =
    let t = nodes_of c.args.nodes.now.entries in
    c.node.ensures ∙ ap (node_at t) (c.as_str.ensures.value ∙ c.in_ok-text-in-Ok.ensures)
    ∙ sym (target_ok t c.args.path.now _ (c.in-Ok.ensures.simplified t refl))

pub returns-in_ok-only_memory-in-Err : goal.returns-in_ok-only_memory-in-Err
returns-in_ok-only_memory-in-Err c =
    let t = nodes_of c.args.nodes.now.entries in
    sym (target_err t c.args.path.now c.in-Err.fault
    (c.in-Err.ensures.simplified t refl c.in_ok-only_memory-in-Err.ensures))
