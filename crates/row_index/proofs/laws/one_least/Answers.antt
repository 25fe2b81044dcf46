use Rattle.row_index.proofs.TreeLemmas.{least_same}
use Rattle.row_index.proofs.laws.one_least.Goals as goal

pub returns : goal.returns
returns g c = least_same g.K.Key.before g.met.K.Key.apart
