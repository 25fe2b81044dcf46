use Rattle.std.proofs.Common.{◌∙◌, ap}
use Rattle.std.specs.Prelude.{unwrap_or}
use Rattle.std.specs.List.{filter_map}
use Rattle.core_rules.specs.Log.{latest}
use Rattle.core_rules.specs.Job.{moves_by}
use Rattle.core_reference.proofs.PlainLemmas.{fold_step, latest_next}
use Rattle.core_reference.proofs.jobs.state_from.Goals as goal

pub loop-e-preserved : goal.loop-e-preserved
loop-e-preserved c =
    fold_step (λ l. latest c.args.first (filter_map (λ e. moves_by e.kind c.args.job) l))
    (λ e s. unwrap_or (moves_by e.kind c.args.job) s)
    (latest_next c.args.first (λ e. moves_by e.kind c.args.job)) c.args.entries.now c.loop-e.e-index
    c.e-item.result c.loop-e.state _ c.loop-e-test.true c.e-item.is c.loop-e.invariant
    (c.unwrap_or-state.ensures ∙ ap (λ o. unwrap_or o c.loop-e.state) c.moves.ensures)
