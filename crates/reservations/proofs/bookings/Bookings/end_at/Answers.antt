use Rattle.std.proofs.Common.{◌∙◌, sym}
use Rattle.reservations.proofs.OwnRowLemmas.{place_done, place_kept}
use Rattle.reservations.proofs.bookings.Bookings.end_at.Goals as goal

pub returns-then-is_own_at-clause-rows : goal.returns-then-is_own_at-clause-rows
returns-then-is_own_at-clause-rows c = let s = c.self.inside in
    let there = rw c.rows.ensures.rows at (sym c.is_own_at.ensures ∙ c.if-is_own_at.true) in
    rw (← c.self.view_is) (place_done c.args.reg s.rows.rows c.args.place c.end.new.self.rows there
    (rw (← c.self.view_is) at c.end.ensures.rows))

pub returns-else-is_own_at-clause-rows : goal.returns-else-is_own_at-clause-rows
returns-else-is_own_at-clause-rows c = let s = c.self.inside in
    let gone = rw c.rows.ensures.rows at (sym c.is_own_at.ensures ∙ c.if-is_own_at.false) in
    rw (← c.self.view_is) (place_kept c.args.reg s.rows.rows c.args.place gone)
