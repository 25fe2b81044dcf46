use Rattle.std.proofs.Common.{◌≤◌, length, sym, subst, arith, ◌∙◌}
use Rattle.core_rules.specs.Laws.{IsRule}
use Rattle.core_rules.specs.declared.call.Call.TheVariants as call
use Rattle.core_rules.proofs.LegalLemmas.{core_of}
use Rattle.sched_core.proofs.BookLemmas.{log_room-one}
use Rattle.sched_core.proofs.KeyLemmas.{registers_new}
use Rattle.sched_core.proofs.MostLemmas.{still_state}
use Rattle.sched_core.proofs.state.SchedState.beat.Goals as goal

pub take_uncounted-requires-clause-rule : goal.take_uncounted-requires-clause-rule
take_uncounted-requires-clause-rule g c κs within =
    let s = c.self.inside in
    let a = c.args in
    let entry = rw (c.key.ensures.key, c.self.invariant.books.rows, c.self.invariant.books.held) at
    c.in_ok-entry.ensures in
    let some : 1 ≤ a.cpus = omega arith in
    let few : a.cpus ≤ 4294967295 = omega arith in
    subst (λ l. IsRule (core_of s.start l) c.in_ok-entry.entry)
    (sym c.in_ok-make_beat_room.ensures.log)
    (call.Beat a.now a.server a.nonce a.cpus (g.A.JobAuthorizer.key_of a.key), (some, few), entry)

pub take_uncounted-requires-clause-row_room : goal.take_uncounted-requires-clause-row_room
take_uncounted-requires-clause-row_room g c κs within = λ may.
    c.in_ok-make_beat_room.ensures.room (c.is_new_beat-is_new.ensures ∙ registers_new c.in_ok-entry.entry.kind may)

pub take_uncounted-requires-clause-keys_room : goal.take_uncounted-requires-clause-keys_room
take_uncounted-requires-clause-keys_room g c κs within = λ may.
    c.in_ok-make_beat_room.ensures.keys_room (c.is_new_beat-is_new.ensures
    ∙ registers_new c.in_ok-entry.entry.kind may)

pub take_uncounted-requires-clause-job_room : goal.take_uncounted-requires-clause-job_room
take_uncounted-requires-clause-job_room g c κs within = rw c.in_ok-entry.ensures tt

pub take_uncounted-requires-clause-log_room : goal.take_uncounted-requires-clause-log_room
take_uncounted-requires-clause-log_room g c κs within = rw c.in_ok-make_beat_room.ensures.lists
    (log_room-one c.self.inside.journal.books.lists c.in_ok-entry.entry (length c.make_beat_room.new.journal.log.items)
    c.make_beat_room.new.journal.log.len c.make_beat_room.new.journal.log.capacity
    c.in_ok-make_beat_room.ensures.spare)

pub take_uncounted-requires-clause-state : goal.take_uncounted-requires-clause-state
take_uncounted-requires-clause-state g c κs within =
    let j = c.self.inside.journal in
    let new = c.make_beat_room.new.journal in
    let roomy = c.in_ok-make_beat_room.ensures in
    still_state c.self.inside.start j.books new.books _ _ j.log.items new.log.items
    j.log.len j.log.capacity new.log.len new.log.capacity c.self.invariant roomy.lists
    roomy.keys roomy.log roomy.log_room roomy.first roomy.top roomy.places

pub invariant_of-self : goal.invariant_of-self
invariant_of-self g c =
    let j = c.self.inside.journal in
    let new = c.make_beat_room.new.journal in
    let roomy = c.make_beat_room.ensures in
    still_state c.self.inside.start j.books new.books _ _ j.log.items new.log.items
    j.log.len j.log.capacity new.log.len new.log.capacity c.self.invariant roomy.lists
    roomy.keys roomy.log roomy.log_room roomy.first roomy.top roomy.places
