use Rattle.build_server.proofs.LawLemmas.{submissions_told}
use Rattle.build_server.proofs.laws.submissions_are_told.Goals as goal

pub returns : goal.returns
returns g c = submissions_told g.O.ServerOutgoing.says
