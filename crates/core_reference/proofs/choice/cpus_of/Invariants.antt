use Rattle.std.proofs.Common.{◌≡◌, ◌-◌, ◌^◌, min, take}
use Rattle.std.specs.List.{sum_by}
use Rattle.core_reference.proofs.choice.cpus_of.Given as goal

abbrev pub invariant-loop-row : goal.invariant-loop-row
invariant-loop-row l = l.total ≡ min (2 ^ 64 - 1) (sum_by (λ r. r.cpus) (take l.row-index l.rows))
