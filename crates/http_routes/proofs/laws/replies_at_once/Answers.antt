use Rattle.http_routes.proofs.AtOnceLemmas.{replies_at_once}
use Rattle.http_routes.proofs.laws.replies_at_once.Goals as goal

pub returns : goal.returns
returns c = replies_at_once
