use Rattle.scheduler_service.proofs.LimitLemmas.{lost}
use Rattle.scheduler_service.proofs.laws.lost_calls_are_counted.Goals as goal

pub returns : goal.returns
returns g c = lost g.K.ClientAuthCheck.may_answer g.K.ClientAuthCheck.shown
