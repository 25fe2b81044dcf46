-- What a build server tells its scheduler, over a dialer that it was lent.
use Rattle.std.specs.Prelude.{◌≡◌, ℕ, List, ◌∷◌, ◌++◌, Option, unwrap_or}
use Rattle.std.specs.Fmt.{decimal}
use Rattle.url.specs.Host.{host_text}
use Rattle.url.specs.Parts.{Parts, host_or_empty}
use Rattle.dist_types.specs.Outgoing.{Updated, Lent, Peer}
use Rattle.dist_types.specs.declared.dialer.Asked.{Asked}
use Rattle.dist_wire.specs.Reading.{update_at}
use Rattle.http_head.specs.WrittenRequest.{request_text}
use Rattle.http_routes.specs.Requests.{state_with}
use Rattle.http_connections.specs.Hearing.{Hears}

-- the scheduler at a base, under a server's token
abbrev pub peer_of : Parts → List ℕ → Peer
peer_of base token = record {
  host = host_text (host_or_empty base);
  port = unwrap_or base.port 80;
  token = token;
}

-- the host and the port, as a request names them
abbrev pub host_at : Peer → List ℕ
host_at peer = peer.host ++ (58 ∷ decimal peer.port)

-- a requester that was lent a dialer, and asks that peer at each call
abbrev pub lent_of : ℕ → Peer → Option (List Asked) → Lent
lent_of name peer asked = record { name = name; peer = peer; asked = asked }

-- The dialer's row is that report: the job's state, written to the peer under its token, and its answer is
-- what is heard.
pub record IsToldOf (peer : Peer) (row : Updated) (a : Asked) : Type 0 where
  pub host : a.host ≡ peer.host
  pub port : a.port ≡ peer.port
  pub request : a.request ≡ request_text
      (state_with (host_at peer) peer.token (record { 0 = row.job }) row.state)
  pub answer : Hears update_at a.answer row.answer
