use Rattle.std.proofs.Common.{arith}
use Rattle.http_calls.proofs.CallLemmas.{state_asks}
use Rattle.http_calls.proofs.reports.state_report_to_http.Goals as goal

pub returns-clause-asks : goal.returns-clause-asks
returns-clause-asks c =
    rw c.in_ok-bytes.ensures.text
    (state_asks c.args.base.now c.in_ok-bytes.ensures.valid c.requires.http c.args.token.now
    c.args.job c.args.state (omega arith))
