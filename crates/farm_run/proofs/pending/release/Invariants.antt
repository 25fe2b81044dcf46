use Rattle.std.specs.Prelude.{vec_len}
use Rattle.farm_run.proofs.pending.release.Given as goal

abbrev pub invariant-loop-kept : goal.invariant-loop-kept
invariant-loop-kept l = Unit {0}

-- as many places as are left
abbrev pub decreases-loop-kept : goal.decreases-loop-kept
decreases-loop-kept l = vec_len l.kept
