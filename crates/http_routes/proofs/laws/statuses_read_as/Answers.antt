use Rattle.http_routes.proofs.ToldLemmas.{statuses_read_as}
use Rattle.http_routes.proofs.laws.statuses_read_as.Goals as goal

pub returns : goal.returns
returns c = λ host. statuses_read_as host
