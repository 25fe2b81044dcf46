-- What a request asks of the scheduler, with the refusals in order.
use Rattle.std.specs.Prelude.{◌≡◌, ◌≢◌, ℕ, Bool, false, List, if◌then◌else◌, Option, Some, None, option_map}
use Rattle.std.specs.Prelude.{Result, Ok, Err, ⊤, codes, bytes_eq}
use Rattle.dist_types.specs.declared.addr.Addr.{Addr}
use Rattle.dist_types.specs.declared.ids.JobId.{JobId}
use Rattle.dist_types.specs.declared.rules.Rules.{Rules}
use Rattle.dist_types.specs.declared.token_error.TokenError.{TokenError}
use Rattle.dist_token.specs.Verdict.{plain_server}
use Rattle.dist_wire.specs.Reading.{toolchain_at, heartbeat_at, state_at, drain_at}
use Rattle.dist_wire.specs.declared.drain.DrainServerHttpRequest.{DrainServerHttpRequest}
use Rattle.http_head.specs.declared.request.Request.{Request}
use Rattle.http_head.specs.Fields.{header}
use Rattle.http_routes.specs.declared.admission.Admission.{Admission}
use Rattle.http_routes.specs.declared.refusal.Refusal.{Refusal}
use Rattle.http_routes.specs.declared.refusal.Refusal.TheVariants.{NoRoute}
use Rattle.http_routes.specs.declared.route.Asked.{Asked}
use Rattle.http_routes.specs.declared.route.SchedRouted.{SchedRouted}
use Rattle.http_routes.specs.declared.route.SchedRouted.TheVariants.{Alloc, Beat, Update, Status}
use Rattle.http_routes.specs.declared.route.SchedRouted.TheVariants.{Drain, Done}
use Rattle.http_routes.specs.Admission.{client_token, Admits, equal_admission}
use Rattle.http_routes.specs.Message.{message_in}
use Rattle.http_routes.specs.Place.{is_at, at_drain, state_job, of_job}
use Rattle.http_routes.specs.Refusal.{refusal_response}
use Rattle.http_routes.specs.Sender.{client_test, server_of}
use Rattle.http_routes.specs.Steps.{◌>>=◌}

-- ---- the form of the reply

-- whether a text stands there and is that one
abbrev pub is_text : List ℕ → Option (List ℕ) → Bool
is_text text None = false
is_text text (Some given) = bytes_eq given text

-- whether the request asks for a reply in JSON
unfoldable pub wants_json : Request → Bool
wants_json r = is_text (codes "application/json") (header (codes "accept") r.headers)

-- ---- what is asked

-- a request for a job, of whose token the check of clients says that
unfoldable pub alloc_of : Request → Option Admission → Result SchedRouted Refusal
alloc_of r said = do
  admitted ← client_test said
  tc ← message_in toolchain_at r
  Ok (Alloc tc)

-- a heartbeat
unfoldable pub beat_of : (List ℕ → Option Addr) → Request → Addr → Result SchedRouted Refusal
beat_of serves r peer = do
  server ← server_of serves r peer
  beat ← message_in heartbeat_at r
  Ok (Beat server beat)

-- a wish that a server drain, or drain no more
unfoldable pub drain_of : (List ℕ → Option Addr) → Request → Addr → Result SchedRouted Refusal
drain_of serves r peer = do
  server ← server_of serves r peer
  drain ← message_in drain_at r
  Ok (Drain server drain)

-- a state of that job
unfoldable pub update_of : (List ℕ → Option Addr) → Request → Addr → JobId → Result SchedRouted Refusal
update_of serves r peer job = do
  server ← server_of serves r peer
  state ← message_in state_at r
  Ok (Update server job state)

-- the report of a job's state, where the request names one
unfoldable pub report_of : (List ℕ → Option Addr) → Request → Addr → Result SchedRouted Refusal
report_of serves r peer = of_job (update_of serves r peer) (Err NoRoute) (state_job r)

-- what the request asks by those rules, or why it is refused
unfoldable pub asked_of : Rules → (List ℕ → Option Addr) → Request → Addr → Option Admission
    → Result SchedRouted Refusal
asked_of rules serves r peer said =
    if is_at (codes "POST") (codes "/api/v1/scheduler/alloc_job") r then alloc_of r said
    else if is_at (codes "POST") (codes "/api/v1/scheduler/heartbeat_server") r then beat_of serves r peer
    else if is_at (codes "GET") (codes "/api/v1/scheduler/status") r then Ok Status
    else if at_drain rules r then drain_of serves r peer
    else report_of serves r peer

-- what is asked, or the reply to the refusal
abbrev pub answered : Result SchedRouted Refusal → SchedRouted
answered (Ok asked) = asked
answered (Err refusal) = Done (refusal_response refusal)

-- what is asked is no drain
abbrev pub IsNoDrain : SchedRouted → Type 0
IsNoDrain asked = (server : Addr) (drain : DrainServerHttpRequest) → asked ≢ Drain server drain

-- what the check of clients says of a request, where that is a function of the token
abbrev pub said_by : (List ℕ → Admission) → Request → Option Admission
said_by lets r = option_map lets (client_token r)

-- what a request asks of a scheduler that goes by those rules, lets clients in by their tokens, and accepts
-- servers by theirs; and the form of the reply
abbrev pub question_under : Rules → (List ℕ → Admission) → (List ℕ → Option Addr) → Request → Addr → Asked
question_under rules lets serves r peer = record {
  what = answered (asked_of rules serves r peer (said_by lets r));
  json = wants_json r;
}

-- The request is routed so by a scheduler that goes by those rules, whose check of clients may give those
-- answers and shows those texts, and becomes `new`, and which accepts servers by their tokens.
pub record IsRouted {K : Type 0} (rules : Rules)
    (may_answer : K → ℕ → List ℕ → Result ⊤ TokenError → K → Type 0)
    (shown : K → TokenError → List ℕ) (serves : List ℕ → Option Addr) (r : Request) (peer : Addr) (now : ℕ)
    (old : K) (routed : SchedRouted) (new : K) : Type 0 where
  pub said : Option Admission
  pub admits : Admits may_answer shown (client_token r) now old said new
  pub routes : routed ≡ answered (asked_of rules serves r peer said)

-- what a request asks, under one token of all clients and one of all servers
abbrev pub question_of : Rules → Request → Addr → List ℕ → List ℕ → Asked
question_of rules r peer client expected =
    question_under rules (equal_admission client) (plain_server expected) r peer
