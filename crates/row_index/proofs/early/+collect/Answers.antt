use Rattle.std.proofs.Common.{◌≡◌, ◌<◌, ◌≤◌, ◌++◌, true, false, sym, ap, ◌∙◌, subst, append-nil}
use Rattle.std.proofs.Common.{arith, rules}
use Rattle.row_index.specs.Matches.{node, is_early, leaves_of}
use Rattle.row_index.proofs.EarlyLemmas.{none_below, one_found, both_found, both_looked, left_looked}
use Rattle.row_index.proofs.early.+collect.Goals as goal

pub returns-then-not-early-clause-slots : goal.returns-then-not-early-clause-slots
returns-then-not-early-clause-slots g t c = λ j first s.
    let before = g.K.Key.before in let nodes = c.args.nodes.now in let bound = c.args.bound.now in
    let is : c.early.result ≡ false = search rules in
    let late : is_early before bound (node nodes c.args.at) ≡ false =
    subst (λ v. is_early before bound v ≡ false) c.look.ensures.node (sym c.early.ensures ∙ is) in
    let none = none_below before (record { one_way = g.met.K.Key.one_way; through = g.met.K.Key.through })
    bound (leaves_of nodes) nodes c.requires.board j c.args.at first s late in
    sym (ap (λ l. c.args.slots.now.items ++ l) none ∙ append-nil c.args.slots.now.items)

pub returns-then-at-leaves-clause-slots : goal.returns-then-at-leaves-clause-slots
returns-then-at-leaves-clause-slots g t c = λ j first s.
    let before = g.K.Key.before in let nodes = c.args.nodes.now in let bound = c.args.bound.now in
    let is : c.early.result ≡ true = search rules in
    let there : is_early before bound (node nodes c.args.at) ≡ true =
    subst (λ v. is_early before bound v ≡ true) c.look.ensures.node (sym c.early.ensures ∙ is) in
    let low : c.args.at < leaves_of nodes = omega arith in
    c.in_ok-push.ensures.items
    ∙ sym (ap (λ l. c.args.slots.now.items ++ l)
    (one_found before bound (leaves_of nodes) nodes c.requires.board j c.args.at first s low there))

pub returns-in_err-collect-clause-looks : goal.returns-in_err-collect-clause-looks
returns-in_err-collect-clause-looks g t c =
    let before = g.K.Key.before in let nodes = c.args.nodes.now in let bound = c.args.bound.now in
    let is : c.early.result ≡ true = search rules in
    let there : is_early before bound (node nodes c.args.at) ≡ true =
    subst (λ v. is_early before bound v ≡ true) c.look.ensures.node (sym c.early.ensures ∙ is) in
    let high : leaves_of nodes ≤ c.args.at = omega arith in
    let left = rw (c.leaves-leaves.ensures, c.look.ensures.counted) at c.collect.ensures.looks in
    left_looked before bound (leaves_of nodes) nodes c.requires.board c.args.at c.args.steps.now
    c.collect.new.steps high there left

pub returns-in_err-collect-2-clause-looks : goal.returns-in_err-collect-2-clause-looks
returns-in_err-collect-2-clause-looks g t c =
    let before = g.K.Key.before in let nodes = c.args.nodes.now in let bound = c.args.bound.now in
    let is : c.early.result ≡ true = search rules in
    let there : is_early before bound (node nodes c.args.at) ≡ true =
    subst (λ v. is_early before bound v ≡ true) c.look.ensures.node (sym c.early.ensures ∙ is) in
    let high : leaves_of nodes ≤ c.args.at = omega arith in
    let left = rw (c.leaves-leaves.ensures, c.look.ensures.counted) at c.collect.ensures.looks in
    let right = rw c.leaves-leaves.ensures at c.collect-2.ensures.looks in
    both_looked before bound (leaves_of nodes) nodes c.requires.board c.args.at c.args.steps.now
    c.collect.new.steps c.collect-2.new.steps high there left right

pub returns-clause-slots : goal.returns-clause-slots
returns-clause-slots g t c = λ j first s.
    let before = g.K.Key.before in let nodes = c.args.nodes.now in let bound = c.args.bound.now in
    let high : leaves_of nodes ≤ c.args.at = omega arith in
    let left = rw c.leaves-leaves.ensures at c.in_ok-collect.ensures.slots in
    let right = rw c.leaves-leaves.ensures at c.in_ok-collect-2.ensures.slots in
    both_found before bound (leaves_of nodes) nodes c.requires.board j c.args.at first s high
    c.args.slots.now.items c.collect.new.slots.items c.collect-2.new.slots.items left right

pub returns-clause-looks : goal.returns-clause-looks
returns-clause-looks g t c =
    let before = g.K.Key.before in let nodes = c.args.nodes.now in let bound = c.args.bound.now in
    let is : c.early.result ≡ true = search rules in
    let there : is_early before bound (node nodes c.args.at) ≡ true =
    subst (λ v. is_early before bound v ≡ true) c.look.ensures.node (sym c.early.ensures ∙ is) in
    let high : leaves_of nodes ≤ c.args.at = omega arith in
    let left = rw (c.leaves-leaves.ensures, c.look.ensures.counted) at c.collect.ensures.looks in
    let right = rw c.leaves-leaves.ensures at c.collect-2.ensures.looks in
    both_looked before bound (leaves_of nodes) nodes c.requires.board c.args.at c.args.steps.now
    c.collect.new.steps c.collect-2.new.steps high there left right
