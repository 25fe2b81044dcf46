use Rattle.std.specs.Prelude.{vec_len}
use Rattle.audit.proofs.replay.close.Given as goal

abbrev pub decreases-loop-slot : goal.decreases-loop-slot
decreases-loop-slot l = vec_len l.held
