use Rattle.std.proofs.Common.{sym, ◌∙◌, ap}
use Rattle.audit.proofs.KeptLemmas.{place_within, row_is, id_is, built_put}
use Rattle.audit.proofs.kept.build_at.Goals as goal

pub at-row-requires : goal.at-row-requires
at-row-requires c = place_within c.args.rows.now.rows c.args.job.0 c.args.place c.requires

pub put-requires-clause-within : goal.put-requires-clause-within
put-requires-clause-within c = place_within c.args.rows.now.rows c.args.job.0 c.args.place c.requires

pub put-requires-clause-same : goal.put-requires-clause-same
put-requires-clause-same c = λ d. id_is c.args.rows.now.rows c.args.job.0 c.args.place c.requires d

pub returns-clause-rows : goal.returns-clause-rows
returns-clause-rows c = c.put.ensures.rows
    ∙ built_put c.args.job c.args.rows.now.rows c.args.place c.at-row.result c.requires
    (row_is c.args.rows.now.rows c.args.job.0 c.args.place c.at-row.result c.requires c.at-row.ensures)
