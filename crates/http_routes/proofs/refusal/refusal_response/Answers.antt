use Rattle.http_routes.proofs.refusal.refusal_response.Goals as goal

pub returns-in-NoJobToken-clause-ok : goal.returns-in-NoJobToken-clause-ok
returns-in-NoJobToken-clause-ok c = rw c.in-NoJobToken.is c.invalid_jwt.ensures.ok
