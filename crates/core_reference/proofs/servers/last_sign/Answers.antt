use Rattle.std.proofs.Common.{◌++◌, ◌∷◌, [], ◌∙◌, ◌||◌, refl}
use Rattle.core_rules.specs.Standing.{ended, ends_by}
use Rattle.core_rules.proofs.Lists.{list_any-push}
use Rattle.core_reference.proofs.PlainLemmas.{fold_step}
use Rattle.core_reference.proofs.SignLemmas.{jobs_begun, jobs_now, sign_step}
use Rattle.core_reference.proofs.servers.last_sign.Goals as goal

pub loop-e-init : goal.loop-e-init
loop-e-init c = record {
  jobs = jobs_begun c.args.row.now.reg c.args.before.now c.args.step.now c.in_ok-jobs.jobs.items _
      c.job_reserved.result c.in_ok-jobs.ensures c.job_reserved.ensures c.in_ok-push_if.ensures;
  over = refl;
  left = refl;
}

pub loop-e-preserved : goal.loop-e-preserved
loop-e-preserved c =
    let reg = c.args.row.now.reg in
    let earlier = c.args.before.now ++ c.args.step.now ∷ [] in
    let later = c.args.later.now in
    let i = c.loop-e.e-index in
    let x = c.e-item.result in
    record {
      jobs = jobs_now reg earlier later i x c.loop-e.jobs.items _ c.job_reserved-in-loop-e.result
          c.loop-e-test.true c.e-item.is c.loop-e.invariant.jobs c.job_reserved-in-loop-e.ensures
          c.in_ok-push_if-2.ensures;
      over = fold_step (λ l. ended l reg) (λ e b. b || ends_by e.kind reg)
          (list_any-push (λ e. ends_by e.kind reg)) later i x c.loop-e.over _ c.loop-e-test.true c.e-item.is
          c.loop-e.invariant.over c.is_over-over.ensures;
      left = sign_step c.args.row.now.server reg earlier later i x c.loop-e.over c.deref.result.now c.loop-e.seen
          _ _ c.loop-e-test.true c.e-item.is c.loop-e.invariant.over
          (c.deref.ensures.value ∙ c.loop-e.invariant.jobs) c.sign_now-seen.ensures c.loop-e.invariant.left;
    }
