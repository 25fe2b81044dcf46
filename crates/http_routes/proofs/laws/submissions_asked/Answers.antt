use Rattle.http_routes.proofs.ServerLemmas.{submissions_asked}
use Rattle.http_routes.proofs.laws.submissions_asked.Goals as goal

pub returns : goal.returns
returns c = λ verdict bytes job json body. submissions_asked verdict bytes json body job
