use Rattle.core_rules.specs.Log.{newer}
use Rattle.core_rules.specs.Job.{place_of, places_by}
use Rattle.core_rules.proofs.StepLemmas.{place_of-push}
use Rattle.core_reference.proofs.PlainLemmas.{fold_step}
use Rattle.core_reference.proofs.entries.place_in.Goals as goal

pub loop-e-preserved : goal.loop-e-preserved
loop-e-preserved c =
    fold_step (place_of c.args.job) (λ e o. newer (places_by e.kind c.args.job) o) (place_of-push c.args.job)
    c.args.entries.now c.loop-e.e-index c.e-item.result c.loop-e.place _ c.loop-e-test.true c.e-item.is
    c.loop-e.invariant c.place_now-place.ensures
