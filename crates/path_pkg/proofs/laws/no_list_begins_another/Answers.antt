use Rattle.path_pkg.proofs.FramedLemmas.{lists_same}
use Rattle.path_pkg.proofs.laws.no_list_begins_another.Goals as goal

pub returns : goal.returns
returns c = record { one = lists_same }
