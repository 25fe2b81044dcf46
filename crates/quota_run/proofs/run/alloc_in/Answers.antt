use Rattle.std.proofs.Common.{ap, ◌∙◌}
use Rattle.quota_run.specs.Answers.{answer_of, refused_of}
use Rattle.quota_run.proofs.AllocLemmas.{picked_made, picked_hand, refused_step, refused_kept}
use Rattle.quota_run.proofs.run.alloc_in.Goals as goal

pub returns-in-Ok-clause-step : goal.returns-in-Ok-clause-step
returns-in-Ok-clause-step g c =
    let a = c.args in
    picked_made g.A.JobAuthorizer.key_of g.A.JobAuthorizer.token_for a.now a.client.now a.quota.now
    c.reserve_for.new.self c.in-Ok.picked c.take_in.result c.in-Ok.ensures.reserved
    (c.take_in.ensures.answer ∙ ap (λ n. answer_of n c.in-Ok.picked) c.next_number-number.ensures)

pub returns-in-Ok-clause-kept : goal.returns-in-Ok-clause-kept
returns-in-Ok-clause-kept g c =
    let a = c.args in
    picked_hand g.A.JobAuthorizer.key_of g.A.JobAuthorizer.token_for a.now a.client.now a.quota.now
    c.reserve_for.new.self c.in-Ok.picked a.hand.now c.take_in.new.hand c.in-Ok.ensures.reserved
    c.history-log.ensures.lawful c.requires.kept c.take_in.ensures.added

pub returns-in-Err-clause-step : goal.returns-in-Err-clause-step
returns-in-Err-clause-step g c =
    let a = c.args in
    refused_step g.A.JobAuthorizer.key_of g.A.JobAuthorizer.token_for a.now a.client.now a.quota.now
    c.reserve_for.new.self c.in-Err.fault c.refused.result c.in-Err.ensures.reserved
    (c.refused.ensures ∙ ap (λ n. refused_of n c.in-Err.fault) c.next_number-number.ensures)

pub returns-in-Err-clause-kept : goal.returns-in-Err-clause-kept
returns-in-Err-clause-kept g c =
    let a = c.args in
    refused_kept g.A.JobAuthorizer.key_of g.A.JobAuthorizer.token_for a.now a.client.now a.quota.now
    c.reserve_for.new.self c.in-Err.fault a.hand.now c.in-Err.ensures.reserved c.requires.kept
