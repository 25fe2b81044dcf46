use Rattle.http_routes.proofs.ServerLemmas.{replies_at_once}
use Rattle.http_routes.proofs.laws.server_replies_at_once.Goals as goal

pub returns : goal.returns
returns c = λ verdict bytes reply json body. replies_at_once verdict bytes json body reply
