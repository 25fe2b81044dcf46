use Rattle.std.proofs.Common.{◌∙◌}
use Rattle.quota.proofs.EndLemmas.{if_some, if_none}
use Rattle.quota.proofs.holdings.Holdings.end_if.Goals as goal

pub returns-in-Some-clause-owned : goal.returns-in-Some-clause-owned
returns-in-Some-clause-owned c =
    rw c.in-Some.is (c.end_at.ensures.owned ∙ if_some c.in-Some.reg c.args.self.now.owned)

pub returns-in-None-clause-owned : goal.returns-in-None-clause-owned
returns-in-None-clause-owned c = rw c.in-None.is (if_none c.args.self.now.owned)
