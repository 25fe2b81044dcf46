use Rattle.http_routes.proofs.CallLemmas.{one_answer}
use Rattle.http_routes.proofs.laws.one_answer.Goals as goal

pub returns : goal.returns
returns g c = one_answer g.M.Codec.at
