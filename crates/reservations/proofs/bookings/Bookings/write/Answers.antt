use Rattle.std.proofs.Common.{sym, ◌∙◌}
use Rattle.reservations.proofs.BookingLemmas.{few_open, few_unspent_rows, some_open, some_unspent}
use Rattle.reservations.proofs.BookingLemmas.{counted_change}
use Rattle.reservations.proofs.bookings.Bookings.write.Goals as goal

pub recounted-self-inside-requires-clause-some : goal.recounted-self-inside-requires-clause-some
recounted-self-inside-requires-clause-some c = let s = c.self.inside in λ was.
    some_open s.rows.rows s.open_ones s.unspent c.args.place c.args.old.now c.self.invariant
    (rw (← c.self.view_is) at c.requires.within) ((rw (← c.self.view_is) at c.requires.was) c.args.old.now)
    (sym c.is_open-was_open.ensures ∙ was)

pub recounted-self-inside-requires-clause-few : goal.recounted-self-inside-requires-clause-few
recounted-self-inside-requires-clause-few c = let s = c.self.inside in
    few_open s.rows.rows s.open_ones s.unspent c.self.invariant

pub recounted-self-inside-requires-2-clause-some : goal.recounted-self-inside-requires-2-clause-some
recounted-self-inside-requires-2-clause-some c = let s = c.self.inside in λ was.
    some_unspent s.rows.rows s.open_ones s.unspent c.args.place c.args.old.now c.self.invariant
    (rw (← c.self.view_is) at c.requires.within) ((rw (← c.self.view_is) at c.requires.was)
    c.args.old.now) was

pub recounted-self-inside-requires-2-clause-few : goal.recounted-self-inside-requires-2-clause-few
recounted-self-inside-requires-2-clause-few c = let s = c.self.inside in
    few_unspent_rows s.rows.rows s.open_ones s.unspent c.self.invariant

pub invariant_of-self : goal.invariant_of-self
invariant_of-self c = let s = c.self.inside in
    rw c.put.ensures.rows
    (counted_change s.rows.rows s.open_ones s.unspent c.args.place
    c.args.old.now c.args.new c.recounted-self-inside.result c.recounted-self-inside-2.result
    c.self.invariant (rw (← c.self.view_is) at c.requires.within)
    ((rw (← c.self.view_is) at c.requires.was) c.args.old.now)
    (rw (c.is_open-was_open.ensures, c.is_open-opens.ensures) at c.recounted-self-inside.ensures)
    c.recounted-self-inside-2.ensures)
