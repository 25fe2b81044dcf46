use Rattle.row_index.proofs.OpenLemmas.{IsPlaying}
use Rattle.row_index.proofs.winner_tree.play_all.Given as goal

abbrev pub invariant-loop-pair : goal.invariant-loop-pair
invariant-loop-pair g l = IsPlaying g.K.Key.before l.leaves l.pair l.fn.nodes l.nodes
