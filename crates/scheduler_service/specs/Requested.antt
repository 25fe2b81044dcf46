-- What a requester asks over a dialer that it was lent.
use Rattle.std.specs.Prelude.{◌≡◌, ℕ, List, [], ◌++◌, codes, Option}
use Rattle.std.specs.Net.Text.{ipv6_text}
use Rattle.dist_types.specs.Addr.{v4_text}
use Rattle.dist_types.specs.Outgoing.{Assigned, Lent}
use Rattle.dist_types.specs.declared.addr.Addr.{Addr}
use Rattle.dist_types.specs.declared.addr.Addr.TheVariants.{V4, V6}
use Rattle.dist_types.specs.declared.dialer.Asked.{Asked}
use Rattle.dist_wire.specs.Reading.{assign_at}
use Rattle.http_routes.specs.Requests.{assign_request_text}
use Rattle.http_connections.specs.Hearing.{Hears}

-- the text of an address without its port, eight groups in brackets
abbrev pub host_text : Addr → List ℕ
host_text (V4 octets port) = v4_text octets
host_text (V6 groups port) = codes "[" ++ ipv6_text groups ++ codes "]"

abbrev pub port_of : Addr → ℕ
port_of (V4 octets port) = port
port_of (V6 groups port) = port

-- a requester that was lent a dialer, and asks another server at each call
abbrev pub lent_of : ℕ → Option (List Asked) → Lent
lent_of name asked = record { name = name; peer = record { host = []; port = 0; token = [] }; asked = asked }

-- The dialer's row is the call of that row: its written request at its server, and its answer is what is
-- heard.
pub record IsAskedFor (row : Assigned) (a : Asked) : Type 0 where
  pub host : a.host ≡ host_text row.server
  pub port : a.port ≡ port_of row.server
  pub request : a.request ≡ assign_request_text row.server (record { 0 = row.job }) row.token row.toolchain
  pub answer : Hears assign_at a.answer row.answer
