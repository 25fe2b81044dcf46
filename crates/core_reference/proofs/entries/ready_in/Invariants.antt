use Rattle.std.proofs.Common.{◌≡◌, take}
use Rattle.core_rules.specs.Job.{ready_at}
use Rattle.core_reference.proofs.entries.ready_in.Given as goal

abbrev pub invariant-loop-e : goal.invariant-loop-e
invariant-loop-e l = l.moment ≡ ready_at l.job (take l.e-index l.entries)
