use Rattle.dist_token.specs.Verdict.{job_verdict}
use Rattle.server_service.specs.Told.{peer_of}
use Rattle.server_service.proofs.LimitLemmas.{has_one}
use Rattle.server_service.proofs.laws.one_answer.Goals as goal

pub returns : goal.returns
returns c = λ key scheduler auth. has_one (job_verdict key) (peer_of scheduler auth)
