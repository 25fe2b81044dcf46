use Rattle.http_calls.proofs.CallLemmas.{alloc_asks, alloc_reads}
use Rattle.http_calls.proofs.alloc_call.AllocCall.start.Goals as goal

pub returns-clause-asks : goal.returns-clause-asks
returns-clause-asks c =
    rw c.in_ok-request.ensures.text
    (alloc_asks c.args.base.now c.alloc_text.ensures.valid c.in_ok-request.ensures.http c.args.token.now
    c.args.tc.now c.in_ok-request.ensures.spelled)

pub returns-clause-reads : goal.returns-clause-reads
returns-clause-reads c =
    rw c.in_ok-request.ensures.text
    (alloc_reads c.args.base.now c.alloc_text.ensures.valid c.in_ok-request.ensures.http c.args.token.now
    c.args.tc.now c.in_ok-request.ensures.spelled)
