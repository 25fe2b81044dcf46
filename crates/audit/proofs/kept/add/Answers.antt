use Rattle.std.proofs.Common.{false, [], ◌∷◌, ◌++◌, ap, ◌∙◌}
use Rattle.dist_types.specs.declared.ids.JobId.{JobId}
use Rattle.audit.proofs.KeptLemmas.{added}
use Rattle.audit.proofs.kept.add.Goals as goal

pub returns-in-Ok-clause-kept : goal.returns-in-Ok-clause-kept
returns-in-Ok-clause-kept c = λ s e is reserves number fresh.
    let k = c.args.kept.now in
    added k.rows.first c.push-in-Ok.new.self.first k.rows.rows c.push-in-Ok.new.self.rows k.held.items
    c.push.new.self.items k.built.items s e c.args.t c.push-in-Ok.ensures.first
    (c.push-in-Ok.ensures.rows ∙ ap (λ (j : JobId). k.rows.rows ++ record {
      job = j;
      is_begun = false;
      is_built = false;
    } ∷ []) c.job_id-job.ensures.job) c.in-Ok.ensures.items reserves number fresh is
