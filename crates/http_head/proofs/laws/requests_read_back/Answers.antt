use Rattle.http_head.proofs.WrittenRequestLemmas.{requests_read_back}
use Rattle.http_head.proofs.laws.requests_read_back.Goals as goal

pub returns : goal.returns
returns c = requests_read_back
