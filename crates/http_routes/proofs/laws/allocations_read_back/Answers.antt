use Rattle.http_routes.proofs.ToldLemmas.{allocations_read_back}
use Rattle.http_routes.proofs.laws.allocations_read_back.Goals as goal

pub returns : goal.returns
returns c = λ rules host token tc lets serves peer.
    allocations_read_back rules lets serves peer host token tc
