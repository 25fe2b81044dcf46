use Rattle.std.proofs.Common.{◌∙◌}
use Rattle.reservations.specs.Booked.{unspent_view}
use Rattle.core_rules.proofs.StateLemmas.{spent_among}
use Rattle.sched_core.proofs.state.SchedState.owns.Goals as goal

pub returns : goal.returns
returns g c =
    let s = c.self.inside in
    rw (← c.self.view_is) (c.is_unspent.ensures
    ∙ spent_among (unspent_view s.journal.books.lists.booked) s.journal.log.items c.args.number c.args.job
    c.self.invariant.books.unspent)
