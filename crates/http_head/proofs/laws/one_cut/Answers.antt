use Rattle.http_head.proofs.CutLemmas.{one_cut}
use Rattle.http_head.proofs.laws.one_cut.Goals as goal

pub returns : goal.returns
returns c = one_cut
