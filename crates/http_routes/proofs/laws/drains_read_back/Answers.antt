use Rattle.http_routes.proofs.ToldLemmas.{drains_read_back}
use Rattle.http_routes.proofs.laws.drains_read_back.Goals as goal

pub returns : goal.returns
returns c = λ host token drain lets serves peer server. drains_read_back lets serves peer host token drain
    server
