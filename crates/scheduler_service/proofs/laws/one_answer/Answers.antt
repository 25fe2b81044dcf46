use Rattle.scheduler_service.proofs.LimitLemmas.{has_one}
use Rattle.scheduler_service.proofs.laws.one_answer.Goals as goal

pub returns : goal.returns
returns g c = has_one g.K.ClientAuthCheck.may_answer g.K.ClientAuthCheck.shown
