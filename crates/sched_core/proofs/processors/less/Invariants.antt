use Rattle.std.proofs.Common.{◌≡◌, ◌-◌, take}
use Rattle.std.specs.List.{sum_by}
use Rattle.row_index.specs.Slots.{rows_in}
use Rattle.sched_core.specs.Registrations.{cpus_at}
use Rattle.sched_core.proofs.processors.less.Given as goal

abbrev pub invariant-loop-number : goal.invariant-loop-number
invariant-loop-number l = l.left ≡ l.sum
    - sum_by (cpus_at (rows_in l.ranks.places)) (take l.number-index l.numbers)
