use Rattle.http_routes.proofs.ToldLemmas.{allocations_read_as}
use Rattle.http_routes.proofs.laws.allocations_read_as.Goals as goal

pub returns : goal.returns
returns c = λ host token tc. allocations_read_as host token tc
