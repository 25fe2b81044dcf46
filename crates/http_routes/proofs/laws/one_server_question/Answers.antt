use Rattle.http_routes.proofs.ServerLemmas.{one_question}
use Rattle.http_routes.proofs.laws.one_server_question.Goals as goal

pub returns : goal.returns
returns c = one_question
