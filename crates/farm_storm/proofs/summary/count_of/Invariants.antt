use Rattle.std.proofs.Common.{◌≡◌, ◌≤◌, take}
use Rattle.std.specs.Prelude.{count_by}
use Rattle.farm_storm.specs.Summary.{counts}
use Rattle.farm_storm.proofs.summary.count_of.Given as goal

-- how many of those so far are counted, and that they are no more
abbrev pub invariant-loop-made : goal.invariant-loop-made
invariant-loop-made l = (l.count ≡ count_by (counts l.what) (take l.made-index l.entries))
    × (l.count ≤ l.made-index)
