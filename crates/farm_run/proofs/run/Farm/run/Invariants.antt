use Rattle.std.proofs.Common.{take}
use Rattle.farm_run.specs.Farm.{Runs}
use Rattle.farm_run.proofs.run.Farm.run.Given as goal

-- the events so far were run
abbrev pub invariant-loop-event : goal.invariant-loop-event
invariant-loop-event g l = Runs l.fn.self (take l.event-index l.events) l.farm
