use Rattle.dist_token.proofs.MadeTokens.{accepted}
use Rattle.dist_token.proofs.laws.tokens_are_accepted.Goals as goal

pub returns : goal.returns
returns c = accepted
