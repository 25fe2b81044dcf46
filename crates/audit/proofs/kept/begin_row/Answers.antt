use Rattle.std.proofs.Common.{sym}
use Rattle.audit.specs.Kept.{row_begun}
use Rattle.audit.proofs.KeptLemmas.{rows_unlike, begun_other}
use Rattle.audit.proofs.kept.begin_row.Goals as goal

pub returns-in-None-clause-rows : goal.returns-in-None-clause-rows
returns-in-None-clause-rows c =
    sym (rows_unlike (row_begun c.args.job) c.args.job (begun_other c.args.job) c.args.rows.now.rows c.in-None.ensures)
