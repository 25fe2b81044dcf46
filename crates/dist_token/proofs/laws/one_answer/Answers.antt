use Rattle.dist_token.proofs.Answering as answering
use Rattle.dist_token.proofs.laws.one_answer.Goals as goal

pub returns : goal.returns
returns c = answering.one_answer
