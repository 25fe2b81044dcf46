use Rattle.std.proofs.Common.{◌≡◌, take}
use Rattle.core_rules.specs.Job.{place_of}
use Rattle.core_reference.proofs.entries.place_in.Given as goal

abbrev pub invariant-loop-e : goal.invariant-loop-e
invariant-loop-e l = l.place ≡ place_of l.job (take l.e-index l.entries)
