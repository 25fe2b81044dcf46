-- The pairs so far are on the way to the trimmed ones, and what is measured is their sum.
use Rattle.std.proofs.Common.{◌≡◌, length}
use Rattle.lru_metered.specs.Metered.{gauge, total, trim}
use Rattle.lru_metered.proofs.cache.trim_table.Given as goal

abbrev pub invariant-loop-table : goal.invariant-loop-table
invariant-loop-table g l =
    let scale = gauge (record {
      measured = g.M.Meter.measured;
      number = g.M.CountableMeter.number;
      gives_size = g.M.CountableMeter.gives_size;
    }) l.meter in
    (trim scale l.capacity l.table ≡ trim scale l.capacity l.fn.table)
    × (g.M.CountableMeter.number l.meter l.current ≡ total scale l.table)

abbrev pub decreases-loop-table : goal.decreases-loop-table
decreases-loop-table g l = length l.table
