use Rattle.server_service.proofs.LimitLemmas.{has_one}
use Rattle.server_service.proofs.connection.serve_server_connection.Goals as goal

pub returns : goal.returns
returns g c = record {
  served = c.serve.ensures.served;
  one = has_one _ _ _ _ _ _ _ c.serve.ensures.served;
}
