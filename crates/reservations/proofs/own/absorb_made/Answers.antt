use Rattle.std.proofs.Common.{◌++◌, ap, ◌∙◌}
use Rattle.std.specs.Prelude.{option_to_list}
use Rattle.reservations.proofs.BookingLemmas.{booked_leaves}
use Rattle.reservations.proofs.own.absorb_made.Goals as goal

pub returns-clause-rows : goal.returns-clause-rows
returns-clause-rows c = c.push_if.ensures.rows ∙ ap (λ l. l ++ option_to_list c.args.made)
    (booked_leaves c.args.step.now.now c.args.step.now.kind c.args.bookings.now.rows c.requires.booked)
