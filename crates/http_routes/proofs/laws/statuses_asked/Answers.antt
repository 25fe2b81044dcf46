use Rattle.http_routes.proofs.RouteLemmas.{statuses_asked}
use Rattle.http_routes.proofs.laws.statuses_asked.Goals as goal

pub returns : goal.returns
returns c = statuses_asked
