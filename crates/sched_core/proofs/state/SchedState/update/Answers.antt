use Rattle.std.proofs.Common.{ap, ◌∙◌}
use Rattle.core_rules.specs.declared.entry.CoreKind.TheVariants.{Update}
use Rattle.core_rules.specs.Log.{logged}
use Rattle.core_rules.specs.Answers.{verdict}
use Rattle.core_rules.specs.declared.call.Call.TheVariants as call
use Rattle.core_rules.proofs.LegalLemmas.{core_of}
use Rattle.core_rules.proofs.StateLemmas.{on_ok, verdict_leaves}
use Rattle.sched_core.proofs.BookLemmas.{update_answered}
use Rattle.sched_core.proofs.state.SchedState.update.Goals as goal

pub enter-requires-clause-rule : goal.enter-requires-clause-rule
enter-requires-clause-rule g c κs within =
    let a = c.args in
    let answer = c.answer_by-answer.ensures ∙ update_answered c.self.inside.journal.books.lists _ _
    a.server a.job a.state _ c.self.invariant.books c.open_job-found.ensures in
    rw (← c.self.view_is) (
      call.Update a.now a.server a.job a.state,
      tt,
      ap (λ r. record { now = a.now; kind = Update a.server a.job a.state r }) answer,
    )

pub returns-clause-logged : goal.returns-clause-logged
returns-clause-logged g c =
    let s = c.self.inside in
    let a = c.args in
    let answer = c.answer_by-answer.ensures ∙ update_answered s.journal.books.lists _ _
    a.server a.job a.state _ c.self.invariant.books c.open_job-found.ensures in
    rw (c.in_ok-enter.ensures.entered, ← c.self.view_is) (on_ok c.answer_update.result _
    (ap (λ r. logged (core_of s.start s.journal.log.items)
    (record { now = a.now; kind = Update a.server a.job a.state r })) answer))

pub returns-clause-answer : goal.returns-clause-answer
returns-clause-answer g c = λ refused.
    let a = c.args in
    let answer = c.answer_by-answer.ensures ∙ update_answered c.self.inside.journal.books.lists _ _
    a.server a.job a.state _ c.self.invariant.books c.open_job-found.ensures in
    rw (← c.self.view_is) (c.answer_update.ensures ∙ ap (λ r. verdict r a.state) answer)

pub returns-clause-err : goal.returns-clause-err
returns-clause-err g c =
    let s = c.self.inside in
    let a = c.args in
    let answer = c.answer_by-answer.ensures ∙ update_answered s.journal.books.lists _ _
    a.server a.job a.state _ c.self.invariant.books c.open_job-found.ensures in
    rw (c.answer_update.ensures, c.in_ok-enter.ensures.entered, ← c.self.view_is)
    (verdict_leaves c.answer_by-answer.result a.state (core_of s.start s.journal.log.items) _ _
    (ap (λ r. logged (core_of s.start s.journal.log.items)
    (record { now = a.now; kind = Update a.server a.job a.state r })) answer))
