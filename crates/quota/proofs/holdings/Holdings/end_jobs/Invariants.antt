-- what is left to end, of what is left, ends what all of it ends of what there was
use Rattle.std.proofs.Common.{◌≡◌, drop, map}
use Rattle.quota.specs.Holdings.{ended_jobs}
use Rattle.quota.proofs.holdings.Holdings.end_jobs.Given as goal

abbrev pub invariant-loop-job : goal.invariant-loop-job
invariant-loop-job l = (map (ended_jobs (drop l.job-index l.jobs)) l.self.owned
    ≡ map (ended_jobs l.jobs) l.initial.self.owned)
    × (l.self.first ≡ l.initial.self.first) × (l.self.clients ≡ l.initial.self.clients)
