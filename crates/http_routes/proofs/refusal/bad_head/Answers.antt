use Rattle.http_routes.proofs.refusal.bad_head.Goals as goal

pub returns-clause-ok : goal.returns-clause-ok
returns-clause-ok c = rw c.in_ok-fault.ensures.texts at c.bad_request.ensures.ok
