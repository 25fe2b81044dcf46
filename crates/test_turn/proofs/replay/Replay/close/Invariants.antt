use Rattle.std.specs.Prelude.{vec_len}
use Rattle.test_turn.proofs.replay.Replay.close.Given as goal

abbrev pub decreases-loop-r : goal.decreases-loop-r
decreases-loop-r l = vec_len l.hand
