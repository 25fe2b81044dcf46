use Rattle.build_server.proofs.LawLemmas.{runs_told}
use Rattle.build_server.proofs.laws.runs_are_told.Goals as goal

pub returns : goal.returns
returns g c = runs_told g.O.ServerOutgoing.says
