use Rattle.std.proofs.Common.{◌∙◌, ap, map, sym}
use Rattle.sched_core.specs.declared.change.Change.TheVariants.{Lower, See}
use Rattle.sched_core.specs.Changes.{row_changed_if}
use Rattle.sched_core.proofs.ChangeLemmas.{not_changed}
use Rattle.sched_core.proofs.UpdateLemmas.{both_is}
use Rattle.sched_core.proofs.change.lower_and_see.Goals as goal

pub returns-then-is_number-clause-rows : goal.returns-then-is_number-clause-rows
returns-then-is_number-clause-rows g c = rw c.in-Some.is
    (c.change.ensures.rows ∙ both_is c.args.now c.in-Some.reg c.args.seen c.args.rows.now.rows
    (sym c.is_number.ensures ∙ c.if-is_number.true))

pub returns-in-None-clause-rows : goal.returns-in-None-clause-rows
returns-in-None-clause-rows g c = rw c.in-None.is
    (c.apply_if-in-None.ensures.rows
    ∙ ap (map (row_changed_if (See c.args.now) c.args.seen)) (not_changed Lower c.args.rows.now.rows))
