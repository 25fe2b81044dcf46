use Rattle.http_routes.proofs.RouteLemmas.{updates_asked}
use Rattle.http_routes.proofs.laws.updates_asked.Goals as goal

pub returns : goal.returns
returns c = λ rules lets serves bytes peer server job state json. updates_asked rules lets serves bytes peer
    json server job state
