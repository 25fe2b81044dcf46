use Rattle.http_routes.proofs.ToldLemmas.{addr_visible}
use Rattle.http_routes.proofs.laws.addresses_are_visible.Goals as goal

pub returns : goal.returns
returns c = addr_visible
