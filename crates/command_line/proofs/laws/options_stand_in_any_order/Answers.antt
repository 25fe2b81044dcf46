use Rattle.command_line.proofs.SpelledLemmas.{says, was_spelled, any_order}
use Rattle.command_line.proofs.laws.options_stand_in_any_order.Goals as goal

pub returns-clause-said : goal.returns-clause-said
returns-clause-said c = says

pub returns-clause-spelled : goal.returns-clause-spelled
returns-clause-spelled c = was_spelled

pub returns-clause-order : goal.returns-clause-order
returns-clause-order c = any_order
