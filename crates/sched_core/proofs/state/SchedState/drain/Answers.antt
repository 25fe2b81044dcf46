use Rattle.std.proofs.Common.{ap, ◌∙◌}
use Rattle.core_rules.specs.declared.call.Call.TheVariants as call
use Rattle.core_rules.proofs.LegalLemmas.{core_of}
use Rattle.core_rules.specs.Log.{logged}
use Rattle.core_rules.specs.Rule.{knows_of}
use Rattle.sched_core.proofs.state.SchedState.drain.Goals as goal

pub enter-requires-clause-rule : goal.enter-requires-clause-rule
enter-requires-clause-rule g c κs within =
    let a = c.args in
    let entry = rw c.self.invariant.books.rows at c.drain-entry.ensures in
    let two = rw (← c.self.view_is) at c.requires.version in
    rw (← c.self.view_is) (call.Drain a.now a.server a.nonce a.on, two, entry)

pub enter-requires-clause-nothing : goal.enter-requires-clause-nothing
enter-requires-clause-nothing g c κs within = rw c.drain-entry.ensures tt

pub returns-clause-logged : goal.returns-clause-logged
returns-clause-logged g c =
    let s = c.self.inside in
    let entry = rw c.self.invariant.books.rows at c.drain-entry.ensures in
    rw (c.in_ok-enter.ensures.entered, ← c.self.view_is) (ap (logged (core_of s.start s.journal.log.items)) entry)

pub returns-clause-answer : goal.returns-clause-answer
returns-clause-answer g c =
    let entry = rw c.self.invariant.books.rows at c.drain-entry.ensures in
    rw (← c.self.view_is) (c.is_known-known.ensures ∙ ap knows_of entry)
