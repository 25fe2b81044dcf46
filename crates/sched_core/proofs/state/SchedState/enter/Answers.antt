use Rattle.std.proofs.Common.{length, sym, subst}
use Rattle.core_rules.specs.Laws.{IsRule}
use Rattle.core_rules.proofs.LegalLemmas.{core_of}
use Rattle.sched_core.proofs.BookLemmas.{log_room-one}
use Rattle.sched_core.proofs.MostLemmas.{roomy_log}
use Rattle.sched_core.proofs.SpendLemmas.{quiet}
use Rattle.sched_core.proofs.state.SchedState.enter.Goals as goal

pub take_uncounted-requires-clause-rule : goal.take_uncounted-requires-clause-rule
take_uncounted-requires-clause-rule g c κs within =
    let rule = rw (← c.self.view_is) at c.requires.rule in
    subst (λ l. IsRule (core_of c.self.inside.start l) c.args.entry)
    (sym c.in_ok-make_log_room.ensures.log) rule

pub take_uncounted-requires-clause-key : goal.take_uncounted-requires-clause-key
take_uncounted-requires-clause-key g c κs within =
    (quiet c.args.entry.kind c.requires.nothing).key (length c.make_log_room.new.log.items)

pub take_uncounted-requires-clause-row_room : goal.take_uncounted-requires-clause-row_room
take_uncounted-requires-clause-row_room g c κs within =
    λ may. absurd ((quiet c.args.entry.kind c.requires.nothing).row may)

pub take_uncounted-requires-clause-job_room : goal.take_uncounted-requires-clause-job_room
take_uncounted-requires-clause-job_room g c κs within =
    (quiet c.args.entry.kind c.requires.nothing).job c.self.inside.journal.books.job_room

pub take_uncounted-requires-clause-keys_room : goal.take_uncounted-requires-clause-keys_room
take_uncounted-requires-clause-keys_room g c κs within =
    λ may. absurd ((quiet c.args.entry.kind c.requires.nothing).row may)

pub take_uncounted-requires-clause-log_room : goal.take_uncounted-requires-clause-log_room
take_uncounted-requires-clause-log_room g c κs within =
    log_room-one c.self.inside.journal.books.lists c.args.entry
    (length c.make_log_room.new.log.items) c.make_log_room.new.log.len
    c.make_log_room.new.log.capacity c.in_ok-make_log_room.ensures.spare

pub take_uncounted-requires-clause-state : goal.take_uncounted-requires-clause-state
take_uncounted-requires-clause-state g c κs within =
    let j = c.self.inside.journal in
    roomy_log c.self.inside.start j.books _ j.log.items c.make_log_room.new.log.items
    j.log.len j.log.capacity c.make_log_room.new.log.len
    c.make_log_room.new.log.capacity c.self.invariant c.in_ok-make_log_room.ensures.log
    c.in_ok-make_log_room.ensures.log_room
