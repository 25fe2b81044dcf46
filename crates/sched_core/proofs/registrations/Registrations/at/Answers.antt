use Rattle.std.proofs.Common.{◌∙◌, sym}
use Rattle.row_index.specs.Slots.{rows_in}
use Rattle.sched_core.proofs.IndexLemmas.{by_number, none_at}
use Rattle.sched_core.proofs.registrations.Registrations.at.Goals as goal

pub returns-in-Some-clause-row : goal.returns-in-Some-clause-row
returns-in-Some-clause-row c = rw (← c.self.view_is, c.row.ensures.row)
    (by_number (rows_in c.self.inside.ranks.places) c.args.server c.in-Some.number
    c.self.invariant.0.sound.rising
    (sym (c.self.invariant.0.at c.args.server) ∙ sym c.number_at.ensures ∙ c.in-Some.is))

pub returns-in-None-clause-row : goal.returns-in-None-clause-row
returns-in-None-clause-row c = rw (← c.self.view_is)
    (none_at (rows_in c.self.inside.ranks.places) c.args.server
    (sym (c.self.invariant.0.at c.args.server) ∙ sym c.number_at.ensures ∙ c.in-None.is))
