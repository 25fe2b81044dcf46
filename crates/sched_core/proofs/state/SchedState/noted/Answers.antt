use Rattle.std.proofs.Common.{◌≡◌, true, ap, ◌∙◌, sym, subst}
use Rattle.core_rules.specs.Rows.{servers_of}
use Rattle.core_rules.specs.Reservation.{unspent}
use Rattle.core_rules.specs.Rule.{noted_over, is_among}
use Rattle.reservations.specs.Booked.{unspent_view}
use Rattle.sched_core.proofs.BookLemmas.{unspent_addressed}
use Rattle.core_rules.proofs.StateLemmas.{spent_among, spent_address}
use Rattle.sched_core.proofs.state.SchedState.noted.Goals as goal

pub returns : goal.returns
returns g c =
    let s = c.self.inside in
    let log = s.journal.log.items in
    let us = unspent_view s.journal.books.lists.booked in
    let owned : is_among (unspent log) c.args.number c.args.job ≡ true =
    subst (λ v. is_among (unspent v.log) c.args.number c.args.job ≡ true) (sym c.self.view_is) c.requires in
    rw (← c.self.view_is) (c.noted.ensures
    ∙ ap (λ rows. noted_over rows c.unspent_address-server.result) c.self.invariant.books.rows
    ∙ ap (noted_over (servers_of log)) (c.unspent_address-server.ensures
    ∙ spent_address us log c.args.number c.args.job
    (unspent_addressed log s.journal.books.lists.booked c.self.invariant.books.placed)
    (spent_among us log c.args.number c.args.job c.self.invariant.books.unspent ∙ owned)))
