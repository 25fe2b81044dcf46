use Rattle.std.proofs.Common.{sym}
use Rattle.row_index.specs.Slots.{rows_in}
use Rattle.sched_core.proofs.RankedLemmas.{light_is, second_is}
use Rattle.sched_core.proofs.registrations.Registrations.pick.Goals as goal

pub returns-in-Some-clause-pick : goal.returns-in-Some-clause-pick
returns-in-Some-clause-pick g c =
    rw (← c.self.view_is) (sym (light_is (rows_in c.self.inside.ranks.places) c.in-Some.row
    c.self.invariant.0.sound.cpus c.self.invariant.0.sound.rising c.in-Some.ensures.first))

pub returns-in-None-clause-pick : goal.returns-in-None-clause-pick
returns-in-None-clause-pick g c =
    rw (← c.self.view_is) (second_is (rows_in c.self.inside.ranks.places) c.oldest.result
    c.self.invariant.0.sound c.in-None.ensures.first c.oldest.ensures.first)
