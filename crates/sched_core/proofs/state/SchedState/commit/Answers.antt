use Rattle.std.proofs.Common.{ap, sym, ◌∙◌}
use Rattle.core_rules.specs.declared.entry.CoreKind.TheVariants.{Commit}
use Rattle.core_rules.specs.declared.call.Call.TheVariants as call
use Rattle.sched_core.proofs.state.SchedState.commit.Goals as goal

pub spend-requires-clause-rule : goal.spend-requires-clause-rule
spend-requires-clause-rule g c κs within =
    let a = c.args in (
      call.Commit a.now c.number-number.result c.job_id-job.result a.state,
      (sym c.owns.ensures ∙ c.if-not-owns.false, c.requires.begins),
      ap (λ kept. record { now = a.now; kind = Commit c.job_id-job.result a.state kept }) c.holds-kept.ensures,
    )
