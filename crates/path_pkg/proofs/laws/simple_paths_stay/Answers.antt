use Rattle.path_pkg.proofs.SimpleLemmas.{stays}
use Rattle.path_pkg.proofs.laws.simple_paths_stay.Goals as goal

pub returns : goal.returns
returns c = record { same = stays }
