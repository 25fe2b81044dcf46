use Rattle.std.proofs.Common.{rules}
use Rattle.farm_storm.proofs.RequestLemmas.{submit_is}
use Rattle.farm_storm.proofs.requests.submit_at.Goals as goal

pub returns : goal.returns
returns c =
    submit_is c.args.server c.args.token.now c.args.job c.args.archive.now c.in_ok-bytes.bytes _ _ _
    c.in_ok-bytes.ensures (search rules) (search rules) (search rules)
