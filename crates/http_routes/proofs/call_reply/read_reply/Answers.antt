use Rattle.http_routes.proofs.CallLemmas.{lent_reads}
use Rattle.http_routes.proofs.call_reply.read_reply.Goals as goal

pub returns-in-Some : goal.returns-in-Some
returns-in-Some g c =
    lent_reads g.M.Codec.at c.args.bytes.now c.in-Some.reply c.told_by.result
    (rw c.in-Some.is at c.lent_reply.ensures) c.told_by.ensures
