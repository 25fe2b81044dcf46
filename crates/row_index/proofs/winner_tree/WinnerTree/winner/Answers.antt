use Rattle.std.proofs.Common.{◌≡◌, ◌*◌, ◌-◌, sym, ap, ◌∙◌, Some, None, arith}
use Rattle.row_index.specs.Matches.{node, leaves_of}
use Rattle.row_index.proofs.TreeLemmas.{root_least, root_none}
use Rattle.row_index.proofs.winner_tree.WinnerTree.winner.Goals as goal

pub returns-in-Some-clause-winner : goal.returns-in-Some-clause-winner
returns-in-Some-clause-winner g c =
    let nodes = c.self.inside.nodes in
    let root : c.in_ok-root.root ≡ 2 * leaves_of nodes - 2 = omega (arith, c.self.invariant.board.len) in
    let won : node nodes (2 * leaves_of nodes - 2) ≡ Some c.in-Some.entrant =
    ap (λ i. node nodes i) (sym root) ∙ sym c.look.ensures.node ∙ c.in-Some.is in
    rw (← c.self.view_is) (root_least g.K.Key.before
    (record { one_way = g.met.K.Key.one_way; through = g.met.K.Key.through })
    (leaves_of nodes) c.self.inside.slots nodes c.self.invariant c.in-Some.entrant won)

pub returns-in-None-clause-winner : goal.returns-in-None-clause-winner
returns-in-None-clause-winner g c =
    let nodes = c.self.inside.nodes in
    let root : c.in_ok-root.root ≡ 2 * leaves_of nodes - 2 = omega (arith, c.self.invariant.board.len) in
    let won : node nodes (2 * leaves_of nodes - 2) ≡ None = ap (λ i. node nodes i) (sym root)
    ∙ sym c.look.ensures.node ∙ c.in-None.is in
    rw (← c.self.view_is) (root_none g.K.Key.before
    (record { one_way = g.met.K.Key.one_way; through = g.met.K.Key.through })
    (leaves_of nodes) c.self.inside.slots nodes c.self.invariant won)
