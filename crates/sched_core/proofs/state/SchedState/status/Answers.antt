use Rattle.std.proofs.Common.{◌≡◌, ap, ◌∙◌}
use Rattle.core_rules.specs.declared.call.Call.TheVariants as call
use Rattle.core_rules.proofs.LegalLemmas.{core_of}
use Rattle.core_rules.specs.Log.{logged}
use Rattle.core_rules.specs.Rows.{servers_of, open_rows}
use Rattle.core_rules.specs.Rule.{counts_over}
use Rattle.sched_core.proofs.BookLemmas.{counts_are}
use Rattle.core_rules.specs.Prune.{is_expired}
use Rattle.sched_core.proofs.ChangeLemmas.{sound_rows}
use Rattle.core_rules.proofs.RisingLemmas.{rising-filter}
use Rattle.sched_core.proofs.state.SchedState.status.Goals as goal

pub counts-answer-requires-clause-rising : goal.counts-answer-requires-clause-rising
counts-answer-requires-clause-rising g c =
    let s = c.self.inside in
    let sound = sound_rows s.start s.journal.log.items c.self.invariant.fits c.self.invariant.legal in
    rw (c.deref.ensures.value, c.in_ok-pruned.ensures, c.self.invariant.books.rows) (rising-filter (λ r.
    r.reg) (is_expired c.args.now)
    (servers_of s.journal.log.items) sound.rising)

pub enter-requires-clause-rule : goal.enter-requires-clause-rule
enter-requires-clause-rule g c κs within =
    let s = c.self.inside in
    let counts : c.counts-answer.result
    ≡ counts_over (servers_of s.journal.log.items) (open_rows s.journal.log.items) c.args.now =
    c.counts-answer.ensures ∙ counts_are s.journal.books.lists _ s.journal.log.items
    c.args.now c.self.invariant.books in
    let entry = rw (c.in_ok-pruned.ensures, counts, c.self.invariant.books.rows) at
    c.status_entry-entry.ensures in
    rw (← c.self.view_is) (call.Status c.args.now, tt, entry)

pub enter-requires-clause-nothing : goal.enter-requires-clause-nothing
enter-requires-clause-nothing g c κs within = rw c.status_entry-entry.ensures tt

pub returns-clause-logged : goal.returns-clause-logged
returns-clause-logged g c =
    let s = c.self.inside in
    let counts = c.counts-answer.ensures ∙ counts_are s.journal.books.lists _ s.journal.log.items
    c.args.now c.self.invariant.books in
    let entry = rw (c.in_ok-pruned.ensures, counts, c.self.invariant.books.rows) at
    c.status_entry-entry.ensures in
    rw (c.in_ok-enter.ensures.entered, ← c.self.view_is) (ap (logged (core_of s.start s.journal.log.items)) entry)

pub returns-clause-answer : goal.returns-clause-answer
returns-clause-answer g c =
    let s = c.self.inside in
    rw (← c.self.view_is) (c.counts-answer.ensures
    ∙ counts_are s.journal.books.lists _ s.journal.log.items c.args.now
    c.self.invariant.books)
