-- What came of a request so far.
use Rattle.std.specs.Prelude.{ℕ, List}
use Rattle.http_connections.specs.declared.begun.Begun.{Begun}
use Rattle.http_routes.specs.declared.kind.Role.{Role}

-- the bytes that came
abbrev pub came : Begun → List ℕ
came b = b.bytes.items

-- whose listener they came to
abbrev pub role_of : Begun → Role
role_of b = b.role
