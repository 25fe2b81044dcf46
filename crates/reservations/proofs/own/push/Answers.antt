use Rattle.reservations.proofs.OwnRowLemmas.{own_push}
use Rattle.reservations.proofs.own.push.Goals as goal

pub returns-clause-own : goal.returns-clause-own
returns-clause-own c = let a = c.args in
    rw c.push-2.ensures.rows (own_push a.bookings.now.rows a.row a.own.now.lists c.push.new.self.lists
    c.requires.own (rw c.made.ensures at c.push.ensures.lists))
