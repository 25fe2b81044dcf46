use Rattle.std.proofs.Common.{◌≡◌, ◌+◌, ◌<◌, set, sym, ap, ◌∙◌, subst, arith}
use Rattle.row_index.specs.Matches.{match_of}
use Rattle.row_index.proofs.OpenLemmas.{IsPlaying, playing_next}
use Rattle.row_index.proofs.winner_tree.play_all.Goals as goal

pub loop-pair-preserved : goal.loop-pair-preserved
loop-pair-preserved g c =
    let before = g.K.Key.before in let nodes = c.loop-pair.nodes in let leaves = c.args.leaves in let pair =
    c.loop-pair.pair in
    let written : c.put-old.new.self ≡ set nodes (leaves + pair) (match_of before nodes pair) =
    c.put-old.ensures.nodes ∙ ap (λ v. set nodes (leaves + pair) v) c.play-winner.ensures.winner in
    let inside : pair + 1 < leaves = omega arith in
    subst (λ l. IsPlaying before leaves (pair + 1) c.args.nodes.now l) (sym written)
    (playing_next before leaves pair c.args.nodes.now nodes c.requires.len inside c.loop-pair.invariant)
