use Rattle.std.proofs.Common.{arith}
use Rattle.http_calls.proofs.CallLemmas.{run_asks}
use Rattle.http_calls.proofs.server_calls.run_request.Goals as goal

pub returns-clause-asks : goal.returns-clause-asks
returns-clause-asks c =
    rw c.in_ok-bytes.ensures.text
    (run_asks c.args.server (rw c.addr.ensures.addr at c.fits.ensures) c.args.token.now c.args.job
    (omega arith) c.args.run.now c.args.inputs.now c.in_ok-bytes.ensures.spelled
    c.in_ok-bytes.ensures.low)
