use Rattle.std.proofs.Common.{ap, ◌∙◌, ◌++◌, string_bytes}
use Rattle.std.specs.List.{flat_map}
use Rattle.core_rules.specs.Rows.{unended_by_id}
use Rattle.farm_entries.specs.Seen.{core_log}
use Rattle.farm_run.proofs.LineLemmas.{row_line, lines_are}
use Rattle.farm_run.proofs.print.push_jobs.Goals as goal

pub loop-row-init : goal.loop-row-init
loop-row-init g c = ap (λ t. string_bytes c.args.out.now ++ t)
    (ap (flat_map row_line) c.into_iter-row-iterator.ensures.into_iter_gives
    ∙ lines_are (core_log c.args.farm.now.entries) c.jobs-row-items.result
    (unended_by_id (core_log c.args.farm.now.entries)) c.jobs-row-items.ensures.all)
