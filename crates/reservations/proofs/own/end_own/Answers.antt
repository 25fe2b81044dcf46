use Rattle.reservations.proofs.OwnRowLemmas.{ended_each, own_forgotten}
use Rattle.reservations.proofs.own.end_own.Goals as goal

pub returns-clause-rows : goal.returns-clause-rows
returns-clause-rows c = let a = c.args in
    rw (c.end_each.ensures.rows, c.of.ensures)
    (ended_each a.reg _ a.bookings.now.rows (c.requires a.reg).1)

pub returns-clause-own : goal.returns-clause-own
returns-clause-own c = let a = c.args in
    rw (c.end_each.ensures.rows, c.of.ensures, ended_each a.reg _ a.bookings.now.rows (c.requires a.reg).1)
    (own_forgotten a.reg a.bookings.now.rows a.own.now.lists c.forget.new.self.lists c.requires
    c.forget.ensures.lists)
