use Rattle.http_routes.proofs.ToldLemmas.{runs_read_back}
use Rattle.http_routes.proofs.laws.runs_read_back.Goals as goal

pub returns : goal.returns
returns c = λ host token inputs job run verdict. runs_read_back verdict host token inputs job run
