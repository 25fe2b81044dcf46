use Rattle.std.proofs.Common.{◌∙◌}
use Rattle.std.proofs.lemmas.List.{length-map}
use Rattle.core_rules.specs.Job.{open_jobs}
use Rattle.core_rules.specs.Rows.{open_of, open_rows}
use Rattle.reservations.specs.Booked.{open_view}
use Rattle.sched_core.proofs.OpenLemmas.{reorder-length}
use Rattle.sched_core.proofs.state.SchedState.open_count.Goals as goal

pub returns : goal.returns
returns g c =
    let s = c.self.inside in
    rw (← c.self.view_is) (c.open_count.ensures
    ∙ reorder-length (open_view s.journal.books.lists.booked) (open_rows s.journal.log.items)
    c.self.invariant.books.open_ones
    ∙ length-map (open_jobs s.journal.log.items) (open_of s.journal.log.items))
