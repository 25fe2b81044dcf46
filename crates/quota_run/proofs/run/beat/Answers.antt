use Rattle.std.proofs.Common.{ap, ◌∙◌}
use Rattle.quota_run.specs.Answers.{heard_of}
use Rattle.quota_run.proofs.CallLemmas.{beat_step, beat_kept}
use Rattle.quota_run.proofs.run.beat.Goals as goal

pub returns-clause-step : goal.returns-clause-step
returns-clause-step g c =
    let a = c.args in
    beat_step a.quota.now c.beat-answer.new.self a.now a.server a.nonce a.cpus a.key
    (g.A.JobAuthorizer.key_of c.of_key-key.result) c.beat-answer.result c.heard.result
    (c.of_key-key.ensures.key ∙ c.into_inner.ensures.bytes) c.beat-answer.ensures.logged c.beat-answer.ensures.err
    c.beat-answer.ensures.errors c.beat-answer.ensures.bad_cpus
    (c.heard.ensures ∙ ap (λ n. heard_of n c.beat-answer.result) c.next_number-number.ensures)

pub returns-clause-kept : goal.returns-clause-kept
returns-clause-kept g c = λ hand are.
    let a = c.args in
    beat_kept a.quota.now c.beat-answer.new.self a.now a.server a.nonce a.cpus
    (g.A.JobAuthorizer.key_of c.of_key-key.result) c.beat-answer.result hand c.beat-answer.ensures.logged
    c.beat-answer.ensures.err are
