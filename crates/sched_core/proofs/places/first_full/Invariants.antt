use Rattle.std.proofs.Common.{◌≡◌, drop}
use Rattle.row_index.specs.Slots.{rows_in}
use Rattle.sched_core.proofs.places.first_full.Given as goal

abbrev pub invariant-loop-place : goal.invariant-loop-place
invariant-loop-place l = rows_in l.places ≡ rows_in (drop l.place l.places)
