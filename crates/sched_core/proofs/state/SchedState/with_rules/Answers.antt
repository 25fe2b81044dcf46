use Rattle.std.proofs.Common.{arith}
use Rattle.sched_core.proofs.BookLemmas.{no_books}
use Rattle.sched_core.proofs.state.SchedState.with_rules.Goals as goal

pub invariant_of-result : goal.invariant_of-result
invariant_of-result g c = record {
  books = rw (c.new.ensures.lists, c.new-2.ensures, c.new-3.ensures.items) no_books;
  fits = c.ranges.count.fits;
  legal = rw c.new-3.ensures.items tt;
  log_room = rw (c.new.ensures.lists, c.new-3.ensures.len) (omega arith);
  first = c.new.ensures.first;
  top = rw (c.new.ensures.top, c.new-3.ensures.items) (omega arith);
  places = rw c.new.ensures.places (omega arith);
}
