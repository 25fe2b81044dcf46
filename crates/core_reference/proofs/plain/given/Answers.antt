use Rattle.std.proofs.Common.{◌∙◌, ◌+◌, ap₂}
use Rattle.core_rules.proofs.StepLemmas.{bookings-count}
use Rattle.core_reference.proofs.plain.given.Goals as goal

pub returns-clause-given : goal.returns-clause-given
returns-clause-given c = ap₂ (λ m n. m + n) c.from.ensures (c.made_in.ensures ∙ bookings-count c.args.log.now)
