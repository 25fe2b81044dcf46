use Rattle.std.proofs.Common.{arith}
use Rattle.row_index.proofs.TreeLemmas.{no_more}
use Rattle.row_index.proofs.winner_tree.leaves_for.Goals as goal

pub returns-clause-least : goal.returns-clause-least
returns-clause-least c = no_more c.args.slots c.next_power_of_two.result c.next_power_of_two.ensures.power
    c.next_power_of_two.ensures.upper_bound

pub returns-clause-fits : goal.returns-clause-fits
returns-clause-fits c = no_more c.args.slots c.next_power_of_two.result c.next_power_of_two.ensures.power
    c.next_power_of_two.ensures.upper_bound 62 (omega arith)
