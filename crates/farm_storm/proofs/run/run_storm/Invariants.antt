use Rattle.farm_storm.specs.Summary.{IsStormed}
use Rattle.farm_storm.proofs.run.run_storm.Given as goal

-- the farm ran the events so far
abbrev pub invariant-loop-number : goal.invariant-loop-number
invariant-loop-number l = IsStormed l.number l.farm
