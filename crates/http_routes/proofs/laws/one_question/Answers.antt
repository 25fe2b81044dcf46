use Rattle.http_routes.proofs.AskLemmas.{one_question}
use Rattle.http_routes.proofs.laws.one_question.Goals as goal

pub returns : goal.returns
returns c = one_question
