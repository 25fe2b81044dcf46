use Rattle.std.proofs.Common.{subst}
use Rattle.std.proofs.lemmas.Result.{IfOk-weaker}
use Rattle.dist_types.specs.Addr.{IsAddr}
use Rattle.dist_token.proofs.ServerTokens.{server_accepted}
use Rattle.dist_token.proofs.server_token.create_jwt_server_token.Goals as goal

pub returns-clause-accepted : goal.returns-clause-accepted
returns-clause-accepted c = IfOk-weaker c.token_under.result _ _
    (λ token e. server_accepted c.args.key.now c.args.server_id
    (subst IsAddr c.addr.ensures.addr c.fits.ensures)) c.token_under.ensures
