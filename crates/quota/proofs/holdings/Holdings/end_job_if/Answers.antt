use Rattle.quota.proofs.EndLemmas.{job_no}
use Rattle.quota.proofs.holdings.Holdings.end_job_if.Goals as goal

pub returns-else-ends-clause-owned : goal.returns-else-ends-clause-owned
returns-else-ends-clause-owned c = job_no c.args.ends c.args.job c.args.self.now.owned c.if-ends.false
