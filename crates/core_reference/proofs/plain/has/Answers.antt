use Rattle.std.proofs.Common.{◌∙◌, ap, ◌&&◌}
use Rattle.std.specs.Prelude.{◌==◌}
use Rattle.std.specs.List.{list_any}
use Rattle.core_rules.specs.Cuts.{lasting}
use Rattle.core_rules.specs.Log.{same_job}
use Rattle.core_rules.specs.Reservation.{booked_at}
use Rattle.core_rules.specs.Rows.{held_of}
use Rattle.core_rules.proofs.Lists.{list_any-map}
use Rattle.core_reference.specs.Plain.{lasts_as}
use Rattle.core_reference.proofs.plain.has.Goals as goal

pub returns : goal.returns
returns c =
    c.is_among.ensures
    ∙ ap (list_any (λ h. (h.number == c.args.number) && same_job h.job c.args.job))
    (c.deref.ensures.value ∙ c.in_ok-rows.ensures)
    ∙ list_any-map (λ h. (h.number == c.args.number) && same_job h.job c.args.job) held_of
    (lasting booked_at (λ b. lasts_as c.args.which b.job b.reg b.later) c.args.log.now)
