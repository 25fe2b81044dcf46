use Rattle.path_pkg.proofs.SimpleLemmas.{at_most_forty}
use Rattle.path_pkg.proofs.laws.at_most_forty_links_are_noted.Goals as goal

pub returns : goal.returns
returns c = record { noted = at_most_forty }
