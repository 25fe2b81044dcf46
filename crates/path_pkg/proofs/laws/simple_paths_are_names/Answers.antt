use Rattle.path_pkg.proofs.SimpleLemmas.{simple}
use Rattle.path_pkg.proofs.laws.simple_paths_are_names.Goals as goal

pub returns : goal.returns
returns c = record { simple = simple }
