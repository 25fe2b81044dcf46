use Rattle.std.proofs.Common.{ap}
use Rattle.quota_run.proofs.UnspentLemmas.{no_log}
use Rattle.quota_run.proofs.run.Run.new.Goals as goal

pub invariant_of-result : goal.invariant_of-result
invariant_of-result g c = no_log c.in_ok-quota.quota.core.log c.new-2.result
    (ap (λ q. q.core.log) c.in_ok-quota.ensures.empty) c.new-2.ensures.none
