use Rattle.command_line.proofs.line.auth_line.Goals as goal

pub returns-in-JwtHS256ServerToken-clause-ok : goal.returns-in-JwtHS256ServerToken-clause-ok
returns-in-JwtHS256ServerToken-clause-ok g c = rw c.in-JwtHS256ServerToken.is
    (rw c.get.ensures.text at c.token_line.ensures.ok)
