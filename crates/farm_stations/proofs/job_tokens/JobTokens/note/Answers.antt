use Rattle.std.proofs.Common.{◌∙◌}
use Rattle.dist_token.specs.Verdict.{job_verdict}
use Rattle.farm_stations.proofs.AcceptedLemmas.{assign_accepted}
use Rattle.farm_stations.proofs.job_tokens.JobTokens.note.Goals as goal

pub keep-requires : goal.keep-requires
keep-requires c =
    assign_accepted (job_verdict c.args.self.now) c.args.request.now c.in-Some.token.now c.in-Assign.job
    c.in-Assign.field-1 c.in-Some.ensures (c.requires ∙ c.in-Assign.is)
