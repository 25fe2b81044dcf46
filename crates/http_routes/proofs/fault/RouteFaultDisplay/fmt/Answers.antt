use Rattle.http_routes.proofs.fault.RouteFaultDisplay.fmt.Goals as goal

pub returns-in-WrongServer-clause-writes : goal.returns-in-WrongServer-clause-writes
returns-in-WrongServer-clause-writes g c = rw c.in-WrongServer.is c.write-in-WrongServer.ensures.writes
