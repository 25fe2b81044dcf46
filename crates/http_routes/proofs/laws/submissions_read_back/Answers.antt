use Rattle.http_routes.proofs.ToldLemmas.{submissions_read_back}
use Rattle.http_routes.proofs.laws.submissions_read_back.Goals as goal

pub returns : goal.returns
returns c = λ host token archive job verdict. submissions_read_back verdict host token archive job
