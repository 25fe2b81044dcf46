use Rattle.http_calls.proofs.CallLemmas.{status_asks, status_reads}
use Rattle.http_calls.proofs.status_call.StatusCall.start.Goals as goal

pub returns-clause-asks : goal.returns-clause-asks
returns-clause-asks c =
    rw c.in_ok-request.ensures.text
    (status_asks c.args.base.now c.status_text.ensures.valid c.in_ok-request.ensures.http)

pub returns-clause-reads : goal.returns-clause-reads
returns-clause-reads c =
    rw c.in_ok-request.ensures.text
    (status_reads c.args.base.now c.status_text.ensures.valid c.in_ok-request.ensures.http)
