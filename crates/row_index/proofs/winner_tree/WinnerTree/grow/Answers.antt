use Rattle.std.proofs.Common.{◌≡◌, ◌-◌, ◌*◌, ◌++◌, length, None, replicate, take, ap, ◌∙◌, arith}
use Rattle.row_index.specs.Matches.{leaves_of}
use Rattle.row_index.proofs.TreeLemmas.{extended_len, grown, more_keys, tree_short, wider_done}
use Rattle.row_index.proofs.winner_tree.WinnerTree.grow.Goals as goal

pub returns-then-slots-leaves-clause-keys : goal.returns-then-slots-leaves-clause-keys
returns-then-slots-leaves-clause-keys g c =
    let before = g.K.Key.before in let nodes = c.self.inside.nodes in let slots = c.self.inside.slots in
    grown slots c.args.slots nodes nodes c.args.self.now
    (tree_short before (leaves_of nodes) slots nodes c.self.invariant) c.self.view_is
    (more_keys before (leaves_of nodes) slots c.args.slots nodes c.self.invariant (omega arith)
    (omega arith))

pub invariant_of-self-2 : goal.invariant_of-self-2
invariant_of-self-2 g c =
    let before = g.K.Key.before in let nodes = c.self.inside.nodes in let slots = c.self.inside.slots
    in let wider = c.in_ok-more.more in
    let n = 2 * wider - 1 - leaves_of nodes in
    let kept : c.extend.new.self ≡ take (leaves_of nodes) nodes ++ replicate n None =
    c.in_ok-extend.ensures.nodes ∙ ap (λ l. take l nodes ++ replicate (2 * wider - 1 - l) None)
    c.leaves-leaves.ensures in
    let whole : length c.extend.new.self ≡ 2 * wider - 1 = extended_len (leaves_of nodes)
    (2 * wider - 1) nodes c.extend.new.self (omega (arith, c.self.invariant.board.len))
    (omega (arith, c.in_ok-more.ensures.enough)) kept in
    (wider_done before slots c.args.slots wider n nodes c.extend.new.self c.play_all.new.nodes
    c.self.invariant (omega arith) (omega arith) c.in_ok-more.ensures.enough c.in_ok-more.ensures.fits
    c.in_ok-more.ensures.power c.in_ok-more.ensures.least kept whole c.play_all.ensures.len
    c.play_all.ensures.leaves c.play_all.ensures.played).0

pub returns-clause-keys : goal.returns-clause-keys
returns-clause-keys g c =
    let before = g.K.Key.before in let nodes = c.self.inside.nodes in let slots = c.self.inside.slots
    in let wider = c.in_ok-more.more in
    let n = 2 * wider - 1 - leaves_of nodes in
    let kept : c.extend.new.self ≡ take (leaves_of nodes) nodes ++ replicate n None =
    c.in_ok-extend.ensures.nodes ∙ ap (λ l. take l nodes ++ replicate (2 * wider - 1 - l) None)
    c.leaves-leaves.ensures in
    let whole : length c.extend.new.self ≡ 2 * wider - 1 = extended_len (leaves_of nodes)
    (2 * wider - 1) nodes c.extend.new.self (omega (arith, c.self.invariant.board.len))
    (omega (arith, c.in_ok-more.ensures.enough)) kept in
    let done = wider_done before slots c.args.slots wider n nodes c.extend.new.self c.play_all.new.nodes
    c.self.invariant (omega arith) (omega arith) c.in_ok-more.ensures.enough c.in_ok-more.ensures.fits
    c.in_ok-more.ensures.power c.in_ok-more.ensures.least kept whole c.play_all.ensures.len
    c.play_all.ensures.leaves c.play_all.ensures.played in
    grown slots c.args.slots nodes c.play_all.new.nodes c.args.self.now
    (tree_short before (leaves_of nodes) slots nodes c.self.invariant) c.self.view_is done.1
