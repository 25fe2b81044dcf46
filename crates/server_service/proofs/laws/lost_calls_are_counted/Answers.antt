use Rattle.dist_token.specs.Verdict.{job_verdict}
use Rattle.server_service.specs.Told.{peer_of}
use Rattle.server_service.proofs.LimitLemmas.{lost}
use Rattle.server_service.proofs.laws.lost_calls_are_counted.Goals as goal

pub returns : goal.returns
returns c = λ key scheduler auth. lost (job_verdict key) (peer_of scheduler auth)
