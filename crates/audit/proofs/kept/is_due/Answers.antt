use Rattle.std.proofs.Common.{Bool, ◌&&◌, not, ◌∙◌, ap}
use Rattle.audit.specs.declared.progress.Progress.{Progress}
use Rattle.audit.proofs.KeptLemmas.{place_within, row_is}
use Rattle.audit.proofs.kept.is_due.Goals as goal

pub at-row-requires : goal.at-row-requires
at-row-requires c = place_within c.args.rows.now.rows c.args.job.0 c.args.place c.requires

pub returns : goal.returns
returns c = λ is. c.is_first.ensures ∙ ap (λ (r : Progress). r.is_begun && not r.is_built)
    (row_is c.args.rows.now.rows c.args.job.0 c.args.place c.at-row.result is c.at-row.ensures)
