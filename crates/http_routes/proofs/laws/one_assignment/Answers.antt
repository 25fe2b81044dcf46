use Rattle.http_routes.proofs.CallLemmas.{one_assignment}
use Rattle.http_routes.proofs.laws.one_assignment.Goals as goal

pub returns : goal.returns
returns c = one_assignment
