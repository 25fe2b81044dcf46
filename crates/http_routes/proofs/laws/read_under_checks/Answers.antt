use Rattle.http_routes.proofs.ReadAsLemmas.{read_under_checks}
use Rattle.http_routes.proofs.laws.read_under_checks.Goals as goal

pub returns : goal.returns
returns g c = read_under_checks g.K.ClientAuthCheck.may_answer g.K.ClientAuthCheck.shown
