use Rattle.http_calls.proofs.CallLemmas.{heartbeat_asks}
use Rattle.http_calls.proofs.reports.heartbeat_to_http.Goals as goal

pub returns-clause-asks : goal.returns-clause-asks
returns-clause-asks c =
    rw c.in_ok-bytes.ensures.text
    (heartbeat_asks c.args.base.now c.in_ok-bytes.ensures.valid c.requires.http
    c.args.token.now c.args.beat.now c.in_ok-bytes.ensures.spelled)
