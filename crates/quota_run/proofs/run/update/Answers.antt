use Rattle.std.proofs.Common.{ap, ◌∙◌}
use Rattle.quota_run.specs.Answers.{updated_of}
use Rattle.quota_run.proofs.CallLemmas.{update_step, update_kept}
use Rattle.quota_run.proofs.run.update.Goals as goal

pub returns-clause-step : goal.returns-clause-step
returns-clause-step g c =
    let a = c.args in
    update_step a.quota.now c.update-answer.new.self a.now a.server a.job a.state c.update-answer.result
    c.updated.result c.update-answer.ensures.logged c.update-answer.ensures.err
    (c.updated.ensures ∙ ap (λ n. updated_of n c.update-answer.result) c.next_number-number.ensures)

pub returns-clause-kept : goal.returns-clause-kept
returns-clause-kept g c = λ hand are.
    let a = c.args in
    update_kept a.quota.now c.update-answer.new.self a.now a.server a.job a.state c.update-answer.result hand
    c.update-answer.ensures.logged c.update-answer.ensures.err are
