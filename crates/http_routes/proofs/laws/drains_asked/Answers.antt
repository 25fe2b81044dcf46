use Rattle.http_routes.proofs.RouteLemmas.{drains_asked}
use Rattle.http_routes.proofs.laws.drains_asked.Goals as goal

pub returns : goal.returns
returns c = λ rules lets serves bytes peer server m json.
    drains_asked rules lets serves bytes peer json server m
