use Rattle.http_routes.proofs.ToldLemmas.{statuses_read_back}
use Rattle.http_routes.proofs.laws.statuses_read_back.Goals as goal

pub returns : goal.returns
returns c = λ rules host lets serves peer. statuses_read_back rules lets serves peer host
