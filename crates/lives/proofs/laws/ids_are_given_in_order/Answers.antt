use Rattle.lives.proofs.SpentLemmas.{all_give}
use Rattle.lives.proofs.laws.ids_are_given_in_order.Goals as goal

pub returns : goal.returns
returns c = all_give
