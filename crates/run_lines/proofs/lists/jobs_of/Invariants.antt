use Rattle.std.proofs.Common.{◌≡◌, map}
use Rattle.run_lines.specs.Fields.{job_of}
use Rattle.run_lines.proofs.lists.jobs_of.Given as goal

abbrev pub invariant-loop-n : goal.invariant-loop-n
invariant-loop-n l = l.jobs.items ≡ map job_of l.yielded
