use Rattle.http_routes.proofs.ToldLemmas.{heartbeats_read_back}
use Rattle.http_routes.proofs.laws.heartbeats_read_back.Goals as goal

pub returns : goal.returns
returns c = λ rules host token beat lets serves peer server. heartbeats_read_back rules lets serves peer host
    token beat server
