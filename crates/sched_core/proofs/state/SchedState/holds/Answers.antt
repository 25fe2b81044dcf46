use Rattle.std.proofs.Common.{◌∙◌}
use Rattle.reservations.specs.Booked.{held_view}
use Rattle.core_rules.proofs.StateLemmas.{held_among}
use Rattle.sched_core.proofs.state.SchedState.holds.Goals as goal

pub returns : goal.returns
returns g c =
    let s = c.self.inside in
    rw (← c.self.view_is) (c.is_held.ensures
    ∙ held_among (held_view s.journal.books.lists.booked) s.journal.log.items c.args.number c.args.job
    c.self.invariant.books.held)
