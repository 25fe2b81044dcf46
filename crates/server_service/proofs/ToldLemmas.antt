-- A call of a dialer that was lent, and what is heard of it.
use Rattle.std.proofs.Common.{◌≡◌, ◌≢◌, ◌⊎◌, ℕ, List, [], ◌∷◌, ◌++◌, Option, Some, None, Result, Ok, Err}
use Rattle.std.proofs.Common.{refl, ◌∙◌, ap, inr, arith}
use Rattle.std.specs.Prelude.{IfSome}
use Rattle.dist_types.specs.Content.{Recorded}
use Rattle.dist_types.specs.Dialer.{asked_row}
use Rattle.dist_types.specs.Outgoing.{Peer, Calls, updated_row}
use Rattle.dist_types.specs.declared.dialer.Asked.{Asked}
use Rattle.dist_types.specs.declared.ids.JobId.{JobId}
use Rattle.dist_types.specs.declared.outgoing.CallFault.{CallFault}
use Rattle.dist_types.specs.declared.outgoing.CallFault.TheVariants.{Lost, Memory}
use Rattle.dist_types.specs.declared.results.JobState.{JobState}
use Rattle.dist_types.specs.declared.results.UpdateJobStateResult.{UpdateJobStateResult}
use Rattle.dist_wire.specs.Reading.{update_at, heard_at}
use Rattle.dist_wire.specs.declared.heartbeat.HeartbeatServerHttpRequest.{HeartbeatServerHttpRequest}
use Rattle.http_head.specs.WrittenRequest.{request_text}
use Rattle.http_routes.specs.CallReply.{IsAnswer}
use Rattle.http_routes.specs.Requests.{state_with, heartbeat_with}
use Rattle.http_connections.specs.Hearing.{Hears}
use Rattle.server_service.specs.Heartbeat.{Heard, IsBeatOf, IsBeaten}
use Rattle.server_service.specs.Replied.{Dialing}
use Rattle.server_service.specs.Told.{host_at, lent_of, IsToldOf}

one_more : (old new : Option (List Asked)) (a : Asked) (Is : Asked → Type 0) → Recorded a old new → Is a
    → IfSome old (λ rows. (b : Asked) × (new ≡ Some (rows ++ b ∷ [])) × Is b)
one_more None new a Is e is = tt
one_more (Some rows) new a Is e is = (a, e, is)

-- the dialer gave a reply, and its row says what the call's row says, whatever was heard of it
called : {Row M : Type 0} (says : Row → Asked → Type 0) (row : Result M CallFault → Row)
    (at : List ℕ → Option (M × List ℕ)) (name : ℕ) (peer : Peer) (old new : Option (List Asked))
    (host request reply : List ℕ) (port : ℕ) (heard : Result M CallFault)
    → Recorded (asked_row host port request (Ok reply)) old new
    → Hears at (Ok reply) heard
    → ((answer : Result M CallFault) → Hears at (Ok reply) answer
    → says (row answer) (asked_row host port request (Ok reply)))
    → Calls says row heard (lent_of name peer old) (lent_of name peer new)
called says row at name peer old new host request reply port heard recorded means is = record {
  sent = λ some. record {
    same = refl;
    same_peer = refl;
    one = one_more old new _ _ recorded
        (is heard means);
  };
  unsent = λ none. inr (record {
    same = refl;
    same_peer = refl;
    one = one_more old new _ _ recorded
        (Err Memory, is (Err Memory) (λ other. absurd (other refl)));
  });
}

pub told : (name : ℕ) (peer : Peer) (old new : Option (List Asked)) (job : JobId) (state : JobState)
    (host request reply : List ℕ) (port : ℕ) (heard : Result UpdateJobStateResult CallFault)
    → Recorded (asked_row host port request (Ok reply)) old new
    → host ≡ peer.host → port ≡ peer.port
    → request ≡ request_text (state_with (host_at peer) peer.token job state)
    → (heard ≢ Err Memory → IsAnswer update_at reply heard)
    → Calls (IsToldOf peer) (updated_row job.0 state) heard (lent_of name peer old) (lent_of name peer new)
told name peer old new job state host request reply port heard recorded is_host is_port is_request means =
    called (IsToldOf peer) (updated_row job.0 state) update_at name peer old new host request reply port heard
    recorded means
    (λ answer says. record { host = is_host; port = is_port; request = is_request; answer = says })

pub beaten : (peer : Peer) (beat : HeartbeatServerHttpRequest) (old new : Option (List Asked))
    (host request reply : List ℕ) (port : ℕ) (heard : Heard)
    → Recorded (asked_row host port request (Ok reply)) old new
    → host ≡ peer.host → port ≡ peer.port
    → request ≡ request_text (heartbeat_with (host_at peer) peer.token beat)
    → (heard ≢ Err Memory → IsAnswer heard_at reply heard)
    → Calls (IsBeatOf peer beat) (λ (h : Heard). h) heard (lent_of 0 peer old) (lent_of 0 peer new)
beaten peer beat old new host request reply port heard recorded is_host is_port is_request means =
    called (IsBeatOf peer beat) (λ (h : Heard). h) heard_at 0 peer old new host request reply port heard
    recorded means
    (λ answer says. record { host = is_host; port = is_port; request = is_request; answer = says })

-- a reply was heard, so the dialer's count stays
pub heard_beat : (peer : Peer) (beat : HeartbeatServerHttpRequest) (heard : Heard) (old new : Dialing)
    → Calls (IsBeatOf peer beat) (λ (h : Heard). h) heard (lent_of 0 peer old.asked)
    (lent_of 0 peer new.asked)
    → new.faults ≡ old.faults → heard ≢ Err Lost → IsBeaten peer beat heard old new
heard_beat peer beat (Ok h) old new calls same came =
    record {
      calls = calls;
      steady = same;
      uncounted = λ e. same;
      later = omega (arith, same);
      cause = λ e.
          absurd (came e);
    }
heard_beat peer beat (Err f) old new calls same came =
    record {
      calls = calls;
      steady = tt;
      uncounted = λ e. same;
      later = omega (arith, same);
      cause = λ e.
          absurd (came e);
    }
