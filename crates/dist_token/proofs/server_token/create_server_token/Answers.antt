use Rattle.std.proofs.Common.{subst}
use Rattle.dist_types.specs.Addr.{IsAddr}
use Rattle.dist_token.proofs.ServerTokens.{plain_accepted}
use Rattle.dist_token.proofs.server_token.create_server_token.Goals as goal

pub returns-clause-accepted : goal.returns-clause-accepted
returns-clause-accepted c = plain_accepted c.args.server_id c.args.auth_token.now
    (subst IsAddr c.addr.ensures.addr c.fits.ensures)
