use Rattle.path_pkg.proofs.SimpleLemmas.{free_of_links}
use Rattle.path_pkg.proofs.laws.recorded_paths_have_no_link.Goals as goal

pub returns : goal.returns
returns c = record { free = free_of_links }
