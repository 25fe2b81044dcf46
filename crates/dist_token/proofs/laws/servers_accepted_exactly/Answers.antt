use Rattle.dist_token.proofs.Exact.{verdict-to_server, server-to_verdict}
use Rattle.dist_token.proofs.laws.servers_accepted_exactly.Goals as goal

pub returns : goal.returns
returns c key server token bytes =
    (verdict-to_server key server token bytes, server-to_verdict key server token bytes)
