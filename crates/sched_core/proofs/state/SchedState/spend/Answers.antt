use Rattle.std.proofs.Common.{◌≡◌, true, length, ◌∙◌, sym, subst}
use Rattle.reservations.specs.Booked.{unspent_view}
use Rattle.core_rules.specs.Reservation.{unspent}
use Rattle.core_rules.specs.Rule.{is_among}
use Rattle.sched_core.proofs.BookLemmas.{log_room-spent}
use Rattle.sched_core.proofs.SpendLemmas.{spends_quietly, spends_one}
use Rattle.core_rules.proofs.StateLemmas.{spent_among}
use Rattle.sched_core.proofs.state.SchedState.spend.Goals as goal

pub take_uncounted-requires-clause-rule : goal.take_uncounted-requires-clause-rule
take_uncounted-requires-clause-rule g c κs within = rw c.self.view_is c.requires.rule

pub take_uncounted-requires-clause-key : goal.take_uncounted-requires-clause-key
take_uncounted-requires-clause-key g c κs within =
    (spends_quietly c.args.job c.args.entry.kind c.requires.spends).key (length c.self.inside.journal.log.items)

pub take_uncounted-requires-clause-row_room : goal.take_uncounted-requires-clause-row_room
take_uncounted-requires-clause-row_room g c κs within =
    λ may. absurd ((spends_quietly c.args.job c.args.entry.kind c.requires.spends).row may)

pub take_uncounted-requires-clause-job_room : goal.take_uncounted-requires-clause-job_room
take_uncounted-requires-clause-job_room g c κs within =
    (spends_quietly c.args.job c.args.entry.kind c.requires.spends).job c.self.inside.journal.books.job_room

pub take_uncounted-requires-clause-keys_room : goal.take_uncounted-requires-clause-keys_room
take_uncounted-requires-clause-keys_room g c κs within =
    λ may. absurd ((spends_quietly c.args.job c.args.entry.kind c.requires.spends).row may)

pub take_uncounted-requires-clause-log_room : goal.take_uncounted-requires-clause-log_room
take_uncounted-requires-clause-log_room g c κs within =
    let s = c.self.inside in
    let us = unspent_view s.journal.books.lists.booked in
    let owned : is_among (unspent s.journal.log.items) c.args.number c.args.job ≡ true =
    subst (λ v. is_among (unspent v.log) c.args.number c.args.job ≡ true) (sym c.self.view_is) c.requires.owned in
    log_room-spent s.journal.books.lists c.args.entry.now (length s.journal.log.items) c.args.entry.kind
    s.journal.log.len s.journal.log.capacity
    (spends_one c.args.job c.args.entry.kind c.requires.spends us c.args.number
    (spent_among us s.journal.log.items c.args.number c.args.job c.self.invariant.books.unspent ∙ owned))
    c.self.invariant.log_room
