use Rattle.std.proofs.Common.{rules}
use Rattle.farm_storm.proofs.RequestLemmas.{status_is}
use Rattle.farm_storm.proofs.requests.status_at.Goals as goal

pub returns : goal.returns
returns c =
    status_is c.args.scheduler c.in_ok-bytes.bytes _ _ c.in_ok-bytes.ensures.text (search rules)
    (search rules)
