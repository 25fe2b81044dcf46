use Rattle.std.proofs.Common.{◌∙◌, ap, sym, subst}
use Rattle.sched.specs.View.{told_by}
use Rattle.sched.specs.Hand.{MayEnd}
use Rattle.sched.proofs.HandLemmas.{may_enter, new_pass, is_split, ends_idle, is_counted}
use Rattle.sched.proofs.scheduler.Scheduler.split.Goals as goal

pub enter-requires-in-Ok-clause-may : goal.enter-requires-in-Ok-clause-may
enter-requires-in-Ok-clause-may g c =
    let p = c.pass.invariant in
    let b = c.begin-turn.ensures.begins _
    (c.part-badge.ensures.new p.view (ap (λ x. x.views) c.replace-badge.ensures.value ∙ p.is)) in
    λ κs lives. may_enter p.view _ _ _ b c.in-Ok.ensures.ok

pub invariant_of-result : goal.invariant_of-result
invariant_of-result g c =
    let p = c.pass.invariant in
    let b = c.begin-turn.ensures.begins _
    (c.part-badge.ensures.new p.view (ap (λ x. x.views) c.replace-badge.ensures.value ∙ p.is)) in
    new_pass p.view _ _ _ p.live b c.enter-in-Ok.ensures.views

pub end-requires-clause-may : goal.end-requires-clause-may
end-requires-clause-may g c =
    let p = c.pass.invariant in
    let b = c.begin-turn.ensures.begins _
    (c.part-badge.ensures.new p.view (ap (λ x. x.views) c.replace-badge.ensures.value ∙ p.is)) in
    λ κs lives. subst (λ d. MayEnd c.begin-turn.result.0.seat.me.0 d) (sym c.in-Err.ensures.err)
    (ends_idle _ _ _ b)

pub returns-in-Ok-clause-split : goal.returns-in-Ok-clause-split
returns-in-Ok-clause-split g c =
    let p = c.pass.invariant in
    let b = c.begin-turn.ensures.begins _
    (c.part-badge.ensures.new p.view (ap (λ x. x.views) c.replace-badge.ensures.value ∙ p.is)) in
    is_split p.view _ _ _ _ _ _ _ (ap (λ x. x.views) c.replace-badge.ensures.value ∙ p.is)
    (c.enter-in-Ok.ensures.of ∙ (c.begin-turn.ensures.of ∙ c.part-badge.ensures.new_of))
    (ap (λ x. told_by x.table_id x.views) c.replace-badge.ensures.value ∙ c.pass.view_is) b c.enter-in-Ok.ensures.views

pub returns-in-Ok-clause-counted : goal.returns-in-Ok-clause-counted
returns-in-Ok-clause-counted g c =
    let p = c.pass.invariant in
    let views = ap (λ x. x.views) c.replace-badge.ensures.value ∙ p.is in
    is_counted p.view _ _ _ _ _ views (c.count_split.ensures.of ∙ c.part-badge.ensures.of)
    (ap (λ x. told_by x.table_id x.views) c.replace-badge.ensures.value ∙ c.pass.view_is)
    (c.count_split.ensures.counted p.view (c.part-badge.ensures.same ∙ views))
