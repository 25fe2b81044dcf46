use Rattle.std.proofs.Common.{◌≡◌, ◌≤◌, ◌+◌, ◌*◌, ◌^◌, ℕ, map, take}
use Rattle.sched_core.specs.Changes.{row_forgiven}
use Rattle.sched_core.proofs.change.forgive.Given as goal

abbrev pub invariant-loop-number : goal.invariant-loop-number
invariant-loop-number g l = (l.rows.rows
    ≡ map (row_forgiven (take l.number-index l.numbers)) l.initial.rows.rows)
    × (l.rows.places ≡ l.initial.rows.places)
    × ((h : ℕ) → l.initial.rows.places.count ≤ 2 ^ h
    → l.steps ≤ l.initial.steps + 2 * l.number-index * (2 * h + 1))
