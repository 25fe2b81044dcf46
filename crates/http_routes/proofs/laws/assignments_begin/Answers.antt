use Rattle.http_routes.proofs.CallLemmas.{begins_assigned}
use Rattle.http_routes.proofs.laws.assignments_begin.Goals as goal

pub returns : goal.returns
returns c = begins_assigned
