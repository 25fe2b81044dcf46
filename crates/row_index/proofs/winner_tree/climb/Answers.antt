use Rattle.std.proofs.Common.{◌≡◌, ◌+◌, ◌-◌, ◌*◌, ◌/◌, length, true, set, sym, ap, ap₂, ◌∙◌, subst, arith}
use Rattle.row_index.specs.Matches.{node, keeps, match_of, ArePlayed}
use Rattle.row_index.proofs.OpenLemmas.{IsClimbing, climbing_next, settled}
use Rattle.row_index.proofs.winner_tree.climb.Goals as goal

pub returns-then-stays-clause-played : goal.returns-then-stays-clause-played
returns-then-stays-clause-played g c =
    let before = g.K.Key.before in let nodes = c.loop-at.nodes in let leaves = c.leaves-leaves.result
    in let at = c.loop-at.at in
    let won = c.rise-winner.ensures.winner in
    let written : c.put-old.new.self ≡ set nodes (leaves + at / 2) (match_of before nodes (at / 2)) =
    c.put-old.ensures.nodes ∙ ap (λ v. set nodes (leaves + at / 2) v) won in
    let kept : keeps c.args.slot (node nodes (leaves + at / 2)) (match_of before nodes (at / 2)) ≡ true =
    sym (ap₂ (keeps c.args.slot) c.put-old.ensures.old won) ∙ sym c.stays.ensures ∙ c.if-stays.true in
    subst (λ l. ArePlayed before l c.put-old.new.self) c.leaves-leaves.ensures
    (subst (λ l. ArePlayed before leaves l) (sym written)
    (settled before leaves c.args.slot at nodes c.loop-at.invariant.is c.loop-at-test.true kept))

pub loop-at-preserved : goal.loop-at-preserved
loop-at-preserved g c =
    let before = g.K.Key.before in let nodes = c.loop-at.nodes in let leaves = c.leaves-leaves.result
    in let at = c.loop-at.at in
    let won = c.rise-winner.ensures.winner in
    let written : c.put-old.new.self ≡ set nodes (leaves + at / 2) (match_of before nodes (at / 2)) =
    c.put-old.ensures.nodes ∙ ap (λ v. set nodes (leaves + at / 2) v) won in
    let whole : length c.args.nodes.now ≡ 2 * leaves - 1 = omega arith in
    let counted : c.loop-at.steps + 2 ≡ c.put-old.new.steps = omega arith in
    let next = climbing_next before leaves c.args.slot at c.args.nodes.now nodes c.loop-at.risen
    c.args.steps.now c.loop-at.steps whole c.loop-at-test.true c.loop-at.invariant in
    subst (λ s. IsClimbing before leaves c.args.slot (leaves + at / 2) c.args.nodes.now c.put-old.new.self
    c.rise-winner.result c.args.steps.now s) counted
    (subst (λ v. IsClimbing before leaves c.args.slot (leaves + at / 2) c.args.nodes.now c.put-old.new.self v
    c.args.steps.now (c.loop-at.steps + 2)) (sym won)
    (subst (λ l. IsClimbing before leaves c.args.slot (leaves + at / 2) c.args.nodes.now l
    (match_of before nodes (at / 2)) c.args.steps.now (c.loop-at.steps + 2)) (sym written) next))
