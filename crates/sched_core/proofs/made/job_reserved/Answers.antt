use Rattle.std.proofs.Common.{refl}
use Rattle.sched_core.proofs.made.job_reserved.Goals as goal

pub returns-in-Job : goal.returns-in-Job
returns-in-Job c = rw (c.job_at.ensures, c.in-Job.is) refl
