use Rattle.scheduler_service.proofs.LimitLemmas.{limited}
use Rattle.scheduler_service.proofs.laws.limits_change_no_answer.Goals as goal

pub returns : goal.returns
returns g c = limited g.K.ClientAuthCheck.may_answer g.K.ClientAuthCheck.shown
