use Rattle.dist_token.proofs.Answering.{one_code}
use Rattle.dist_token.proofs.laws.one_code.Goals as goal

pub returns : goal.returns
returns c = one_code
