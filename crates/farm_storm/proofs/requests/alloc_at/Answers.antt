use Rattle.std.proofs.Common.{rules}
use Rattle.farm_storm.proofs.RequestLemmas.{alloc_is}
use Rattle.farm_storm.proofs.requests.alloc_at.Goals as goal

pub returns : goal.returns
returns c =
    alloc_is c.args.scheduler c.args.token.now c.args.tc.now c.in_ok-bytes.bytes _ _ _ c.in_ok-bytes.ensures
    (search rules) (search rules) (search rules)
