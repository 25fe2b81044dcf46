use Rattle.http_routes.proofs.CallLemmas.{replies_told}
use Rattle.http_routes.proofs.laws.replies_told.Goals as goal

pub returns : goal.returns
returns g c = replies_told g.M.Codec.spells g.M.Codec.at g.met.M.Codec.codec
