use Rattle.scheduler_service.proofs.LimitLemmas.{has_one}
use Rattle.scheduler_service.proofs.connection.serve_scheduler_connection.Goals as goal

pub returns-clause-one : goal.returns-clause-one
returns-clause-one g c = has_one _ _ _ _ _ _ _ _ _ c.serve.ensures.served
