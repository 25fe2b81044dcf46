use Rattle.std.proofs.Common.{◌≡◌, take}
use Rattle.std.specs.List.{filter_map}
use Rattle.core_rules.specs.Log.{latest}
use Rattle.core_rules.specs.Job.{moves_by}
use Rattle.core_reference.proofs.jobs.state_from.Given as goal

abbrev pub invariant-loop-e : goal.invariant-loop-e
invariant-loop-e l = l.state ≡ latest l.fn.first (filter_map (λ e. moves_by e.kind l.job) (take l.e-index l.entries))
