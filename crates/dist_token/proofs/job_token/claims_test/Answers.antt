use Rattle.std.proofs.Common.{◌≡◌, ◌∙◌, subst}
use Rattle.dist_token.specs.Token.{job_claims_text}
use Rattle.dist_token.specs.Verdict.{IsWritten}
use Rattle.dist_token.specs.Views.{parts_view}
use Rattle.dist_token.proofs.MadeTokens.{job_said-written}
use Rattle.dist_token.proofs.job_token.claims_test.Goals as goal

pub returns-then-branch : goal.returns-then-branch
returns-then-branch c =
    let text : c.as_bytes.result.now ≡ job_claims_text c.args.id =
    c.as_bytes.ensures.value ∙ c.in_ok-claims.ensures in
    job_said-written c.args.id (parts_view c.args.parts.now) c.ranges.id.fits
    (subst (λ claims. IsWritten claims (parts_view c.args.parts.now)) text
    (c.in_ok-is_written.ensures c.if-branch.true))
