use Rattle.std.proofs.Common.{◌≡◌, ◌++◌, take, drop}
use Rattle.std.specs.List.{filter_map}
use Rattle.core_rules.specs.Cuts.{cuts, cuts_behind}
use Rattle.core_rules.specs.Job.{committed_at, is_open}
use Rattle.core_rules.specs.Rows.{open_of}
use Rattle.core_reference.specs.Plain.{shown}
use Rattle.core_reference.proofs.jobs.open_jobs.Given as goal

abbrev pub invariant-loop-place : goal.invariant-loop-place
invariant-loop-place l = l.rows.items ++ filter_map (shown committed_at is_open (open_of l.log))
    (cuts_behind (take l.place l.log) (drop l.place l.log))
    ≡ filter_map (shown committed_at is_open (open_of l.log)) (cuts l.log)
