use Rattle.http_routes.proofs.refusal.no_message.Goals as goal

pub returns-clause-ok : goal.returns-clause-ok
returns-clause-ok c =
    rw (c.in_ok-fault.ensures.texts, c.in_ok-text.ensures.text, c.in_ok-cause.ensures.texts) at
    c.bad_request.ensures.ok
