use Rattle.std.proofs.Common.{take}
use Rattle.run_lines.specs.Grammar.{Each}
use Rattle.run_lines.specs.Grammar.{JobFits}
use Rattle.farm_audit.proofs.fit.jobs_fit.Given as goal

-- those so far
abbrev pub invariant-loop-job : goal.invariant-loop-job
invariant-loop-job l = Each JobFits (take l.job-index l.jobs)
