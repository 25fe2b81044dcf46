use Rattle.std.proofs.Common.{◌≡◌, filter, not, take}
use Rattle.core_rules.specs.Log.{names}
use Rattle.sched_core.proofs.change.end_all.Given as goal

abbrev pub invariant-loop-number : goal.invariant-loop-number
invariant-loop-number g l = (l.rows.rows
    ≡ filter (λ r. not (names (take l.number-index l.numbers) r.reg)) l.initial.rows.rows)
    × (l.rows.places ≡ l.initial.rows.places)
