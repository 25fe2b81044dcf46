use Rattle.http_routes.proofs.BackLemmas.{read_back}
use Rattle.http_routes.proofs.laws.replies_read_back.Goals as goal

pub returns : goal.returns
returns c = read_back
