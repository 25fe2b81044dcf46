use Rattle.dist_token.specs.Verdict.{job_verdict}
use Rattle.server_service.specs.Told.{peer_of}
use Rattle.server_service.proofs.OneAnswerLemmas.{settled}
use Rattle.server_service.proofs.laws.routes_settle.Goals as goal

pub returns : goal.returns
returns c = λ key scheduler auth. settled (job_verdict key) (peer_of scheduler auth)
