use Rattle.std.proofs.Common.{ap, refl, vec_len, ◌∙◌}
use Rattle.core_rules.specs.Rule.{rule}
use Rattle.core_rules.specs.declared.call.Call.TheVariants as call
use Rattle.sched.proofs.PassLemmas.{ends_step, pass_step, turn_step, spends_nothing}
use Rattle.sched.proofs.PassLemmas.{own_low}
use Rattle.sched.proofs.UnspentLemmas.{picked_if}
use Rattle.sched.proofs.scheduler.Scheduler.reserve.Goals as goal

pub end-requires-clause-may : goal.end-requires-clause-may
end-requires-clause-may g c κs lives =
    let p = c.pass.invariant in
    let b = c.begin-turn.ensures.begins p.view (ap (λ x. x.views) c.replace.ensures.value ∙ p.is) in
    ends_step (call.Reserve c.now.result) _ _ _ p.view _ c.desk.inside.state c.reserve-answer.new.state
    (vec_len c.desk.inside.passes) c.begin-turn.result.1 c.desk.view_is b p.holds
    c.reserve-answer.ensures.step
    (λ log begins. spends_nothing log p.view.own
    (rule (record { start = p.view.start; log = log }) (call.Reserve c.now.result)) (λ job. refl))

pub invariant_of-pass : goal.invariant_of-pass
invariant_of-pass g c =
    let p = c.pass.invariant in
    let b = c.begin-turn.ensures.begins p.view (ap (λ x. x.views) c.replace.ensures.value ∙ p.is) in
    pass_step (call.Reserve c.now.result) _ _ _ _ _ _ _ _ _ c.desk.inside.state c.reserve-answer.new.state
    (vec_len c.desk.inside.passes) c.begin-turn.result.1 p c.desk.view_is b c.reserve-answer.ensures.step
    c.end.ensures.views c.end.ensures.few c.end.ensures.counted

pub returns-clause-turn : goal.returns-clause-turn
returns-clause-turn g c =
    let p = c.pass.invariant in
    let b = c.begin-turn.ensures.begins p.view (ap (λ x. x.views) c.replace.ensures.value ∙ p.is) in
    turn_step (λ now. call.Reserve now) _ _ _ _ _ c.now.result _ _ _ _ _ _ _ c.desk.inside.state
    c.reserve-answer.new.state
    (vec_len c.desk.inside.passes) c.begin-turn.result.1 _ p c.desk.view_is b
    c.reserve-answer.ensures.step
    c.end.ensures.views
    (c.end.ensures.of ∙ (c.begin-turn.ensures.of ∙ ap (λ x. x.table_id) c.replace.ensures.value))
    c.pass.view_is
    (record { given = c.now.ensures.given; left = c.now.ensures.left; last = c.now.ensures.last })

pub returns-clause-own : goal.returns-clause-own
returns-clause-own g c =
    let p = c.pass.invariant in
    let b = c.begin-turn.ensures.begins p.view (ap (λ x. x.views) c.replace.ensures.value ∙ p.is) in
    picked_if _ _ _ _ _ _ _
    (turn_step (λ now. call.Reserve now) _ _ _ _ _ c.now.result _ _ _ _ _ _ _ c.desk.inside.state
    c.reserve-answer.new.state
    (vec_len c.desk.inside.passes) c.begin-turn.result.1 _ p c.desk.view_is b
    c.reserve-answer.ensures.step
    c.end.ensures.views
    (c.end.ensures.of ∙ (c.begin-turn.ensures.of ∙ ap (λ x. x.table_id) c.replace.ensures.value))
    c.pass.view_is
    (record { given = c.now.ensures.given; left = c.now.ensures.left; last = c.now.ensures.last }))
    (own_low _ _ _ _ _ p c.pass.view_is)
