use Rattle.std.proofs.Common.{sym, ◌∙◌}
use Rattle.core_rules.specs.declared.call.Call.TheVariants as call
use Rattle.sched_core.proofs.SpendLemmas.{undo_same}
use Rattle.sched_core.proofs.state.SchedState.undo.Goals as goal

pub spend-requires-2-clause-rule : goal.spend-requires-2-clause-rule
spend-requires-2-clause-rule g c κs within =
    let a = c.args in (
      call.Undo a.now c.number-number.result c.job_id-job.result,
      sym c.owns.ensures ∙ c.if-not-owns.false,
      undo_same a.now c.job_id-job.result _ _ _ _ c.noted-noted.ensures c.holds-ended.ensures,
    )
