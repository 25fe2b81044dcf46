use Rattle.std.proofs.Common.{arith}
use Rattle.http_calls.proofs.CallLemmas.{submit_asks}
use Rattle.http_calls.proofs.server_calls.submit_request.Goals as goal

pub returns-clause-asks : goal.returns-clause-asks
returns-clause-asks c =
    rw c.in_ok-bytes.ensures.text
    (submit_asks c.args.server (rw c.addr.ensures.addr at c.fits.ensures) c.args.token.now c.args.job
    (omega arith) c.args.archive.now)
