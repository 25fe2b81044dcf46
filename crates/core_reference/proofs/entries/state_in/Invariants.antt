use Rattle.std.proofs.Common.{◌≡◌, take}
use Rattle.core_rules.specs.Job.{state_of}
use Rattle.core_reference.proofs.entries.state_in.Given as goal

abbrev pub invariant-loop-e : goal.invariant-loop-e
invariant-loop-e l = l.state ≡ state_of l.job (take l.e-index l.entries)
