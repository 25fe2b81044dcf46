use Rattle.path_pkg.proofs.OrderLemmas.{package_is_framed}
use Rattle.path_pkg.proofs.laws.packages_are_framed_lists.Goals as goal

pub returns : goal.returns
returns c = record { list = package_is_framed }
