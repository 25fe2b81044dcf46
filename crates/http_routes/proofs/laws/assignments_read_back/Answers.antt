use Rattle.http_routes.proofs.ToldLemmas.{assignments_read_back}
use Rattle.http_routes.proofs.laws.assignments_read_back.Goals as goal

pub returns : goal.returns
returns c = λ server token tc job verdict. assignments_read_back verdict server token tc job
