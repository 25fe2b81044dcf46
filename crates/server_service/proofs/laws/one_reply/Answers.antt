use Rattle.dist_token.specs.Verdict.{job_verdict}
use Rattle.server_service.specs.Told.{peer_of}
use Rattle.server_service.proofs.OneAnswerLemmas.{one_done}
use Rattle.server_service.proofs.laws.one_reply.Goals as goal

pub returns : goal.returns
returns c = λ key scheduler auth. one_done (job_verdict key) (peer_of scheduler auth)
