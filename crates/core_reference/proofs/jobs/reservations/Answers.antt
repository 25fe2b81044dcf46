use Rattle.std.proofs.Common.{◌∙◌, sym, ◌≤◌, length, arith}
use Rattle.core_rules.specs.Cuts.{cuts}
use Rattle.core_rules.specs.Reservation.{booked_at}
use Rattle.core_rules.specs.Rows.{held_of}
use Rattle.core_reference.specs.Plain.{shown, lasts_as}
use Rattle.core_reference.proofs.PlainLemmas.{cut_end, shown_all}
use Rattle.core_reference.proofs.jobs.reservations.Goals as goal

pub returns : goal.returns
returns c =
    let le : length c.args.log.now ≤ c.loop-place.place = omega arith in
    cut_end (shown booked_at (λ b. lasts_as c.args.which b.job b.reg b.later) held_of) c.args.log.now
    c.loop-place.place c.loop-place.rows.items _ le c.loop-place.invariant
    ∙ sym (shown_all booked_at (λ b. lasts_as c.args.which b.job b.reg b.later) held_of (cuts c.args.log.now))
