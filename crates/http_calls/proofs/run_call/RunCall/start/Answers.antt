use Rattle.http_calls.proofs.run_call.RunCall.start.Goals as goal

pub returns-clause-asks : goal.returns-clause-asks
returns-clause-asks c = rw (c.in_ok-outputs.ensures.ok, c.get.ensures.text) at c.in_ok-request.ensures.asks
