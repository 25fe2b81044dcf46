use Rattle.scheduler_service.proofs.OneAnswerLemmas.{one_reply}
use Rattle.scheduler_service.proofs.laws.one_reply.Goals as goal

pub returns : goal.returns
returns g c = one_reply g.K.ClientAuthCheck.may_answer g.K.ClientAuthCheck.shown
