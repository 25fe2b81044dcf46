use Rattle.std.proofs.lemmas.Result.{IfOk-weaker}
use Rattle.dist_token.proofs.MadeTokens.{accepted}
use Rattle.dist_token.proofs.job_token.job_token.Goals as goal

pub returns-clause-accepted : goal.returns-clause-accepted
returns-clause-accepted c = IfOk-weaker c.token_under.result _ _
    (λ token e. accepted c.args.key.now c.args.id c.ranges.id.fits) c.token_under.ensures
