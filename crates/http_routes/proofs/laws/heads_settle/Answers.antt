use Rattle.http_routes.proofs.SettledLemmas.{settled_for, settled_at}
use Rattle.http_routes.proofs.laws.heads_settle.Goals as goal

pub returns-clause-servers : goal.returns-clause-servers
returns-clause-servers c = settled_for

pub returns-clause-schedulers : goal.returns-clause-schedulers
returns-clause-schedulers c = settled_at
