use Rattle.http_routes.proofs.ServerLemmas.{assignments_asked}
use Rattle.http_routes.proofs.laws.assignments_asked.Goals as goal

pub returns : goal.returns
returns c = λ verdict bytes job tc json body. assignments_asked verdict bytes json body job tc
