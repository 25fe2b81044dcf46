use Rattle.http_routes.proofs.KindLemmas.{allocation_waits, submission_waits, run_waits}
use Rattle.http_routes.proofs.laws.waiting_kinds.Goals as goal

pub returns-clause-allocations : goal.returns-clause-allocations
returns-clause-allocations c = allocation_waits

pub returns-clause-submissions : goal.returns-clause-submissions
returns-clause-submissions c = submission_waits

pub returns-clause-runs : goal.returns-clause-runs
returns-clause-runs c = run_waits
