use Rattle.http_head.proofs.CutLemmas.{shortest}
use Rattle.http_head.proofs.laws.shortest_stop.Goals as goal

pub returns : goal.returns
returns c = shortest
