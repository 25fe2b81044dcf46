use Rattle.http_routes.proofs.ServerLemmas.{runs_asked}
use Rattle.http_routes.proofs.laws.runs_asked.Goals as goal

pub returns : goal.returns
returns c = λ verdict bytes job run at json body. runs_asked verdict bytes json body job run at
