use Rattle.dist_token.proofs.MadeTokens.{accepts}
use Rattle.dist_token.proofs.rounds.made_and_verified.Goals as goal

pub returns : goal.returns
returns g c = accepts _ _ c.verify_token.ensures
    (rw (c.as_str.ensures.value, c.in_ok-token.ensures.text) c.in_ok-token.ensures.accepted)
