use Rattle.path_pkg.proofs.LastLemmas.{last_given}
use Rattle.path_pkg.proofs.laws.the_last_path_is_given.Goals as goal

pub returns : goal.returns
returns c = record { last = last_given }
