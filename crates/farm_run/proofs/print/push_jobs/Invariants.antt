use Rattle.std.proofs.Common.{◌≡◌, ◌++◌, string_bytes}
use Rattle.std.specs.List.{flat_map}
use Rattle.core_rules.specs.Rows.{unended_by_id}
use Rattle.farm_entries.specs.Seen.{core_log}
use Rattle.farm_entries.specs.Printed.{job_text}
use Rattle.farm_run.proofs.LineLemmas.{row_line}
use Rattle.farm_run.proofs.print.push_jobs.Given as goal

-- the lines so far and those of what is left
abbrev pub invariant-loop-row : goal.invariant-loop-row
invariant-loop-row g l = string_bytes l.out ++ flat_map row_line l.row-iterator ≡ string_bytes l.initial.out
    ++ flat_map job_text (unended_by_id (core_log l.farm.entries))
