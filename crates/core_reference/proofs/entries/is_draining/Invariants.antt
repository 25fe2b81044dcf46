use Rattle.std.proofs.Common.{◌≡◌, take}
use Rattle.core_rules.specs.Standing.{drained_in}
use Rattle.core_reference.proofs.entries.is_draining.Given as goal

abbrev pub invariant-loop-e : goal.invariant-loop-e
invariant-loop-e l = l.draining ≡ drained_in (take l.e-index l.entries) l.reg
