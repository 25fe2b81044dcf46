use Rattle.std.proofs.Common.{◌∙◌}
use Rattle.reservations.proofs.OwnRowLemmas.{ended_this, ended_nothing}
use Rattle.reservations.proofs.own.end_if.Goals as goal

pub returns-in-Some-clause-rows : goal.returns-in-Some-clause-rows
returns-in-Some-clause-rows c =
    rw c.in-Some.is (c.end_own.ensures.rows ∙ ended_this c.in-Some.number c.args.bookings.now.rows)

pub returns-in-None-clause-rows : goal.returns-in-None-clause-rows
returns-in-None-clause-rows c = rw c.in-None.is (ended_nothing c.args.bookings.now.rows)
