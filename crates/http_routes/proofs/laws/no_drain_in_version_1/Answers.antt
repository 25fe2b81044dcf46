use Rattle.http_routes.proofs.VersionLemmas.{no_request_drains, no_bytes_drain, no_route_there}
use Rattle.http_routes.proofs.laws.no_drain_in_version_1.Goals as goal

pub returns-clause-requests : goal.returns-clause-requests
returns-clause-requests c = no_request_drains

pub returns-clause-bytes : goal.returns-clause-bytes
returns-clause-bytes c = no_bytes_drain

pub returns-clause-refused : goal.returns-clause-refused
returns-clause-refused c = no_route_there
