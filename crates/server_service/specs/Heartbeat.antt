-- One heartbeat of a build server.
use Rattle.std.specs.Prelude.{◌≡◌, ◌≤◌, ℕ, Bool, true, false, List, Option, Result, Err, OnOk, is_ok}
use Rattle.dist_types.specs.Cause.{Rose}
use Rattle.dist_types.specs.Outgoing.{Peer, Calls}
use Rattle.dist_types.specs.declared.dialer.Asked.{Asked}
use Rattle.dist_types.specs.declared.outgoing.CallFault.{CallFault}
use Rattle.dist_types.specs.declared.outgoing.CallFault.TheVariants.{Lost, Memory}
use Rattle.dist_types.specs.declared.results.HeartbeatServerResult.{HeartbeatServerResult}
use Rattle.dist_wire.specs.Reading.{heard_at}
use Rattle.dist_wire.specs.declared.heartbeat.HeartbeatServerHttpRequest.{HeartbeatServerHttpRequest}
use Rattle.http_head.specs.WrittenRequest.{request_text}
use Rattle.http_routes.specs.Requests.{heartbeat_with}
use Rattle.http_connections.specs.Hearing.{Hears}
use Rattle.http_connections.specs.declared.start.Start.{Start}
use Rattle.server_service.specs.Replied.{Dialing}
use Rattle.server_service.specs.Told.{host_at, lent_of}

-- the heartbeat of one start: its key, its nonce, and how many processors there are
abbrev pub beat_of : Start → HeartbeatServerHttpRequest
beat_of start =
    record { jwt_key = start.key; num_cpus = start.cpus; server_nonce = start.word }

-- what the scheduler answers to a heartbeat, or why nothing was heard
abbrev pub Heard : Type 0
Heard = Result HeartbeatServerResult CallFault

-- The dialer's row is that heartbeat, written to the peer under its token, and its answer is what is heard.
pub record IsBeatOf (peer : Peer) (beat : HeartbeatServerHttpRequest) (heard : Heard)
    (a : Asked) : Type 0 where
  pub host : a.host ≡ peer.host
  pub port : a.port ≡ peer.port
  pub request : a.request ≡ request_text (heartbeat_with (host_at peer) peer.token beat)
  pub answer : Hears heard_at a.answer heard

-- The scheduler was told once: one row more of the dialer's, or where memory ran out none or one; the call
-- was lost only where the dialer's count rose.
pub record IsBeaten (peer : Peer) (beat : HeartbeatServerHttpRequest) (heard : Heard)
    (old new : Dialing) : Type 0 where
  pub calls : Calls (IsBeatOf peer beat) (λ (h : Heard). h) heard (lent_of 0 peer old.asked)
      (lent_of 0 peer new.asked)
  pub steady : OnOk heard (new.faults ≡ old.faults)
  pub uncounted : heard ≡ Err Memory → new.faults ≡ old.faults
  pub later : old.faults ≤ new.faults
  pub cause : heard ≡ Err Lost → Rose old.faults new.faults

-- how long a server waits behind a heartbeat, in milliseconds, by whether it was told
abbrev pub wait_after : Bool → ℕ
wait_after true = 30000
wait_after false = 10000

-- The scheduler was told once, and the server waits so many milliseconds, by whether it was told.
pub record BeatsAndWaits (peer : Peer) (beat : HeartbeatServerHttpRequest) (wait : ℕ)
    (old new : Dialing) : Type 0 where
  pub heard : Heard
  pub beaten : IsBeaten peer beat heard old new
  pub waits : wait ≡ wait_after (is_ok heard)
