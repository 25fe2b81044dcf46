use Rattle.std.proofs.Common.{◌≡◌, take}
use Rattle.core_rules.specs.Fault.{error_of}
use Rattle.core_reference.proofs.entries.error_in.Given as goal

abbrev pub invariant-loop-e : goal.invariant-loop-e
invariant-loop-e l = l.error ≡ error_of (take l.e-index l.log) l.reg
