use Rattle.http_routes.proofs.RouteLemmas.{allocations_asked}
use Rattle.http_routes.proofs.laws.allocations_asked.Goals as goal

pub returns : goal.returns
returns c = λ rules lets serves bytes peer tc json. allocations_asked rules lets serves bytes peer json tc
