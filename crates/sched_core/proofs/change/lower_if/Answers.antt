use Rattle.std.proofs.Common.{◌∙◌}
use Rattle.sched_core.proofs.RegistrationLemmas.{lowered_is}
use Rattle.sched_core.proofs.change.lower_if.Goals as goal

pub returns-then-freed-clause-freed : goal.returns-then-freed-clause-freed
returns-then-freed-clause-freed g c = λ t. c.change.ensures.rows ∙ lowered_is c.args.reg c.args.rows.now.rows
