use Rattle.std.specs.Prelude.{vec_len}
use Rattle.quota_run.proofs.run.Run.close.Given as goal

abbrev pub decreases-loop-slot : goal.decreases-loop-slot
decreases-loop-slot g l = vec_len l.held
