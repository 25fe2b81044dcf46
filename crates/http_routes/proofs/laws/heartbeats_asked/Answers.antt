use Rattle.http_routes.proofs.RouteLemmas.{heartbeats_asked}
use Rattle.http_routes.proofs.laws.heartbeats_asked.Goals as goal

pub returns : goal.returns
returns c = λ rules lets serves bytes peer server m json. heartbeats_asked rules lets serves bytes peer json
    server m
