use Rattle.std.proofs.Common.{◌≡◌, ◌+◌, length, arith}
use Rattle.row_index.specs.Matches.{leaves_of}
use Rattle.row_index.proofs.EarlyLemmas.{found_slots, found_looks}
use Rattle.row_index.proofs.winner_tree.WinnerTree.slots_before.Goals as goal

pub returns-in_err-collect-clause-looks : goal.returns-in_err-collect-clause-looks
returns-in_err-collect-clause-looks g c =
    let nodes = c.self.inside.nodes in
    let last : c.in-Some.root + 1 ≡ length nodes = omega arith in
    rw (← c.self.view_is) (found_looks g.K.Key.before c.args.bound.now (leaves_of nodes) c.self.inside.slots
    c.in-Some.root nodes c.self.invariant last c.args.steps.now c.collect.new.steps
    c.collect.ensures.looks)

pub returns-clause-slots : goal.returns-clause-slots
returns-clause-slots g c =
    let nodes = c.self.inside.nodes in
    let last : c.in-Some.root + 1 ≡ length nodes = omega arith in
    let each = rw c.new-slots.ensures.items at c.in_ok-collect.ensures.slots in
    rw (← c.self.view_is) (found_slots g.K.Key.before c.args.bound.now (leaves_of nodes) c.self.inside.slots
    c.in-Some.root nodes c.self.invariant last c.collect.new.slots.items each)

pub returns-clause-looks : goal.returns-clause-looks
returns-clause-looks g c =
    let nodes = c.self.inside.nodes in
    let last : c.in-Some.root + 1 ≡ length nodes = omega arith in
    rw (← c.self.view_is) (found_looks g.K.Key.before c.args.bound.now (leaves_of nodes) c.self.inside.slots
    c.in-Some.root nodes c.self.invariant last c.args.steps.now c.collect.new.steps
    c.collect.ensures.looks)
