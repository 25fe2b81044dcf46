use Rattle.http_routes.proofs.ToldLemmas.{states_read_back}
use Rattle.http_routes.proofs.laws.states_read_back.Goals as goal

pub returns : goal.returns
returns c = λ rules host token job state lets serves peer server.
    states_read_back rules lets serves peer host token job state server
