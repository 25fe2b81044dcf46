-- What a request asks of the scheduler, in the words of its parts.
use Rattle.std.proofs.Common.{◌≡◌, ◌↔◌, inl, inr, ℕ, ◌+◌, ◌<◌, get_or, Bool, true, false, cond, List}
use Rattle.std.proofs.Common.{length, Option, Some, None, Result, Ok, Err, refl, sym, ap, subst, ◌∙◌}
use Rattle.std.specs.Prelude.{codes, option_map}
use Rattle.std.proofs.lemmas.List.{get_or-append-add}
use Rattle.dist_types.specs.declared.addr.Addr.{Addr}
use Rattle.dist_types.specs.declared.ids.JobId.{JobId}
use Rattle.dist_types.specs.declared.results.JobState.{JobState}
use Rattle.dist_types.specs.declared.rules.Rules.{Rules}
use Rattle.dist_types.specs.declared.rules.Rules.TheVariants.{One, Two}
use Rattle.dist_wire.specs.Codec.{IsBytes}
use Rattle.dist_wire.specs.MessageLaws.{toolchain_codec, heartbeat_codec, state_codec, drain_codec}
use Rattle.dist_wire.specs.Reading.{toolchain_at, heartbeat_at, state_at, drain_at}
use Rattle.dist_wire.specs.Spelling.{SpellsToolchain, SpellsHeartbeat, SpellsState, SpellsDrain}
use Rattle.dist_wire.specs.declared.drain.DrainServerHttpRequest.{DrainServerHttpRequest}
use Rattle.dist_wire.specs.declared.heartbeat.HeartbeatServerHttpRequest.{HeartbeatServerHttpRequest}
use Rattle.httparse.specs.Grammar.{print_request}
use Rattle.http_head.specs.declared.request.Request.{Request}
use Rattle.http_head.specs.Bearer.{token_in}
use Rattle.http_head.specs.Fields.{header}
use Rattle.http_head.specs.Head.{IsRequest}
use Rattle.http_routes.specs.declared.admission.Admission.{Admission}
use Rattle.http_routes.specs.declared.refusal.Refusal.{Refusal}
use Rattle.http_routes.specs.declared.refusal.Refusal.TheVariants.{BadHead, NoRoute}
use Rattle.http_routes.specs.declared.reply.Response.{Response}
use Rattle.http_routes.specs.declared.route.Asked.{Asked}
use Rattle.http_routes.specs.declared.route.SchedRouted.{SchedRouted}
use Rattle.http_routes.specs.declared.route.SchedRouted.TheVariants.{Alloc, Beat, Update, Status}
use Rattle.http_routes.specs.declared.route.SchedRouted.TheVariants.{Drain, Done}
use Rattle.http_routes.specs.Admission.{client_token}
use Rattle.http_routes.specs.Asked.{IsAskedUnder}
use Rattle.http_routes.specs.InOrder.{IsAt, NamesJob, InForm, IsAllocation, IsHeartbeat, IsUpdate, IsStatus}
use Rattle.http_routes.specs.InOrder.{IsAtDrain, IsDrain}
use Rattle.http_routes.specs.Message.{message_in}
use Rattle.http_routes.specs.Place.{is_at, at_drain, state_job, of_job}
use Rattle.http_routes.specs.Refusal.{refusal_response}
use Rattle.http_routes.specs.Route.{alloc_of, beat_of, drain_of, update_of, report_of, asked_of, answered}
use Rattle.http_routes.specs.Route.{said_by}
use Rattle.http_routes.specs.Sender.{client_test, server_of}
use Rattle.http_routes.proofs.MessageLemmas.{message_held, held_message}
use Rattle.http_routes.proofs.PlaceLemmas.{at_place, place_at, in_form, form_in, job_named, named_job}
use Rattle.http_routes.proofs.SenderLemmas.{client_admitted, admitted_client, sender_shown, shown_sender}
use Rattle.http_routes.proofs.StepLemmas.{two_ok}

-- ---- places

-- a request that names a job behind a front is at no other place
pub state_no_alloc : (r : Request) (job : JobId) → NamesJob r (codes "/api/v1/scheduler/job_state/") job
    → is_at (codes "POST") (codes "/api/v1/scheduler/alloc_job") r ≡ false
unfolding is_at
state_no_alloc r job n = rw (n.at.sent_by, n.at.sent_to) refl

pub state_no_beat : (r : Request) (job : JobId) → NamesJob r (codes "/api/v1/scheduler/job_state/") job
    → is_at (codes "POST") (codes "/api/v1/scheduler/heartbeat_server") r ≡ false
unfolding is_at
state_no_beat r job n = rw (n.at.sent_by, n.at.sent_to) refl

pub state_no_status : (r : Request) (job : JobId) → NamesJob r (codes "/api/v1/scheduler/job_state/") job
    → is_at (codes "GET") (codes "/api/v1/scheduler/status") r ≡ false
unfolding is_at
state_no_status r job n = rw n.at.sent_by refl

pub state_no_drain : (rules : Rules) (r : Request) (job : JobId)
    → NamesJob r (codes "/api/v1/scheduler/job_state/") job → at_drain rules r ≡ false
unfolding at_drain is_at
state_no_drain One r job n = refl
state_no_drain Two r job n = rw (n.at.sent_by, n.at.sent_to) refl

pub beat_no_alloc : (r : Request) → IsAt r (codes "POST") (codes "/api/v1/scheduler/heartbeat_server")
    → is_at (codes "POST") (codes "/api/v1/scheduler/alloc_job") r ≡ false
unfolding is_at
beat_no_alloc r at = rw (at.sent_by, at.sent_to) refl

pub status_no_post : (r : Request) (path : List ℕ) → IsStatus r → is_at (codes "POST") path r ≡ false
unfolding is_at
status_no_post r path at = rw at.sent_by refl

-- a request at the route of drains is at no other place
pub drain_no_alloc : (rules : Rules) (r : Request) → IsAtDrain rules r
    → is_at (codes "POST") (codes "/api/v1/scheduler/alloc_job") r ≡ false
unfolding is_at
drain_no_alloc rules r d = rw (d.at.sent_by, d.at.sent_to) refl

pub drain_no_beat : (rules : Rules) (r : Request) → IsAtDrain rules r
    → is_at (codes "POST") (codes "/api/v1/scheduler/heartbeat_server") r ≡ false
unfolding is_at
drain_no_beat rules r d = rw (d.at.sent_by, d.at.sent_to) refl

pub drain_no_status : (rules : Rules) (r : Request) → IsAtDrain rules r
    → is_at (codes "GET") (codes "/api/v1/scheduler/status") r ≡ false
unfolding is_at
drain_no_status rules r d = rw d.at.sent_by refl

pub drain_there : (rules : Rules) (r : Request) → at_drain rules r ≡ true → IsAtDrain rules r
unfolding at_drain
drain_there One r e = absurd cc
drain_there Two r e = record {
  version = refl;
  at = at_place r (codes "POST") (codes "/api/v1/scheduler/drain_server") e;
}

pub there_drain : (rules : Rules) (r : Request) → IsAtDrain rules r → at_drain rules r ≡ true
unfolding at_drain
there_drain rules r d =
    rw d.version (place_at r (codes "POST") (codes "/api/v1/scheduler/drain_server") d.at)

pub state_named : (r : Request) (job : JobId) → state_job r ≡ Some job
    → NamesJob r (codes "/api/v1/scheduler/job_state/") job
unfolding state_job
state_named r job e = job_named (codes "/api/v1/scheduler/job_state/") r job e

pub named_state : (r : Request) (job : JobId) → NamesJob r (codes "/api/v1/scheduler/job_state/") job
    → state_job r ≡ Some job
unfolding state_job
named_state r job n = named_job (codes "/api/v1/scheduler/job_state/") r job n

-- at the place of requests for jobs the check of clients is asked about the token that is shown
pub said_there : (lets : List ℕ → Admission) (r : Request)
    → is_at (codes "POST") (codes "/api/v1/scheduler/alloc_job") r ≡ true
    → said_by lets r ≡ option_map lets (token_in (header (codes "authorization") r.headers))
unfolding client_token
said_there lets r at = rw at refl

-- ---- which route it is

abbrev pub post_alloc : Request → Bool
post_alloc r = is_at (codes "POST") (codes "/api/v1/scheduler/alloc_job") r

abbrev pub post_beat : Request → Bool
post_beat r = is_at (codes "POST") (codes "/api/v1/scheduler/heartbeat_server") r

abbrev pub get_status : Request → Bool
get_status r = is_at (codes "GET") (codes "/api/v1/scheduler/status") r

abbrev pub client_of : (List ℕ → Admission) → Request → Result (Unit {0}) Refusal
client_of lets r = client_test (option_map lets (token_in (header (codes "authorization") r.headers)))

-- what was asked, by its route
data Route (rules : Rules) (lets : List ℕ → Admission) (serves : List ℕ → Option Addr) (r : Request)
    (peer : Addr) (w : SchedRouted) : Type 0 where
  by_alloc : (tc : List ℕ) → IsAt r (codes "POST") (codes "/api/v1/scheduler/alloc_job")
      → client_of lets r ≡ Ok tt → message_in toolchain_at r ≡ Ok tc → Alloc tc ≡ w
      → Route rules lets serves r peer w
  by_beat : (server : Addr) (m : HeartbeatServerHttpRequest)
      → IsAt r (codes "POST") (codes "/api/v1/scheduler/heartbeat_server")
      → server_of serves r peer ≡ Ok server → message_in heartbeat_at r ≡ Ok m → Beat server m ≡ w
      → Route rules lets serves r peer w
  by_update : (server : Addr) (job : JobId) (state : JobState)
      → NamesJob r (codes "/api/v1/scheduler/job_state/") job → server_of serves r peer ≡ Ok server
      → message_in state_at r ≡ Ok state → Update server job state ≡ w → Route rules lets serves r peer w
  by_status : IsStatus r → Status ≡ w → Route rules lets serves r peer w
  by_drain : (server : Addr) (m : DrainServerHttpRequest) → IsAtDrain rules r
      → server_of serves r peer ≡ Ok server → message_in drain_at r ≡ Ok m → Drain server m ≡ w
      → Route rules lets serves r peer w

alloc_parts : (lets : List ℕ → Admission) (r : Request) (w : SchedRouted) → post_alloc r ≡ true
    → alloc_of r (said_by lets r) ≡ Ok w
    → (tc : List ℕ) × (client_of lets r ≡ Ok tt) × (message_in toolchain_at r ≡ Ok tc) × (Alloc tc ≡ w)
unfolding alloc_of
alloc_parts lets r w at e =
    let p = two_ok (client_test (said_by lets r)) (message_in toolchain_at r) (λ u tc. Alloc tc) w e in
    (p.1, ap client_test (sym (said_there lets r at)) ∙ p.2, p.3, p.4)

beat_parts : (serves : List ℕ → Option Addr) (r : Request) (peer : Addr) (w : SchedRouted)
    → beat_of serves r peer ≡ Ok w
    → (server : Addr) × (m : HeartbeatServerHttpRequest) × (server_of serves r peer ≡ Ok server)
    × (message_in heartbeat_at r ≡ Ok m) × (Beat server m ≡ w)
unfolding beat_of
beat_parts serves r peer w e = two_ok (server_of serves r peer) (message_in heartbeat_at r) Beat w e

drain_parts : (serves : List ℕ → Option Addr) (r : Request) (peer : Addr) (w : SchedRouted)
    → drain_of serves r peer ≡ Ok w
    → (server : Addr) × (m : DrainServerHttpRequest) × (server_of serves r peer ≡ Ok server)
    × (message_in drain_at r ≡ Ok m) × (Drain server m ≡ w)
unfolding drain_of
drain_parts serves r peer w e = two_ok (server_of serves r peer) (message_in drain_at r) Drain w e

update_parts : (serves : List ℕ → Option Addr) (r : Request) (peer : Addr) (job : JobId) (w : SchedRouted)
    → update_of serves r peer job ≡ Ok w
    → (server : Addr) × (state : JobState) × (server_of serves r peer ≡ Ok server)
    × (message_in state_at r ≡ Ok state) × (Update server job state ≡ w)
unfolding update_of
update_parts serves r peer job w e = two_ok (server_of serves r peer) (message_in state_at r)
    (λ s m. Update s job m) w e

route : (rules : Rules) (lets : List ℕ → Admission) (serves : List ℕ → Option Addr) (r : Request)
    (peer : Addr) (w : SchedRouted) → asked_of rules serves r peer (said_by lets r) ≡ Ok w
    → Route rules lets serves r peer w
unfolding asked_of report_of
route rules lets serves r peer w e = by_tests (post_alloc r) (post_beat r) (get_status r) (at_drain rules r)
    (state_job r) refl refl refl refl refl e
  where
    by_tests : (a b s d : Bool) (j : Option JobId) → post_alloc r ≡ a → post_beat r ≡ b → get_status r ≡ s
        → at_drain rules r ≡ d → state_job r ≡ j
        → cond a (alloc_of r (said_by lets r))
        (cond b (beat_of serves r peer)
        (cond s (Ok Status)
        (cond d (drain_of serves r peer) (of_job (update_of serves r peer) (Err NoRoute) j)))) ≡ Ok w
        → Route rules lets serves r peer w
    by_tests true b s d j at_a at_b at_s at_d at_j h =
        let p = alloc_parts lets r w at_a h in
        by_alloc p.0 (at_place r (codes "POST") (codes "/api/v1/scheduler/alloc_job") at_a) p.1 p.2 p.3
    by_tests false true s d j at_a at_b at_s at_d at_j h =
        let p = beat_parts serves r peer w h in
        by_beat p.0 p.1 (at_place r (codes "POST") (codes "/api/v1/scheduler/heartbeat_server") at_b) p.2 p.3
        p.4
    by_tests false false true d j at_a at_b at_s at_d at_j h =
        by_status (at_place r (codes "GET") (codes "/api/v1/scheduler/status") at_s) cc
    by_tests false false false true j at_a at_b at_s at_d at_j h =
        let p = drain_parts serves r peer w h in by_drain p.0 p.1 (drain_there rules r at_d) p.2 p.3 p.4
    by_tests false false false false None at_a at_b at_s at_d at_j h = absurd cc
    by_tests false false false false (Some job) at_a at_b at_s at_d at_j h =
        let p = update_parts serves r peer job w h in
        by_update p.0 job p.1 (state_named r job at_j) p.2 p.3 p.4

-- ---- the requests that ask each thing

module _ (rules : Rules) (lets : List ℕ → Admission) (serves : List ℕ → Option Addr) (r : Request)
    (peer : Addr) where
  is_allocation : (tc : List ℕ) → IsBytes r.body
      → asked_of rules serves r peer (said_by lets r) ≡ Ok (Alloc tc) → IsAllocation r lets tc
  is_allocation tc fits e = by_route (route rules lets serves r peer (Alloc tc) e)
    where
      by_route : Route rules lets serves r peer (Alloc tc) → IsAllocation r lets tc
      by_route (by_alloc t at test message is) =
          let same : t ≡ tc = cc in
          record {
            at = at;
            admitted = client_admitted lets r test;
            message = message_held SpellsToolchain toolchain_at toolchain_codec r tc fits
                (message ∙ ap Ok same);
          }
      by_route (by_beat s m at sender message is) = absurd cc
      by_route (by_update s j m at sender message is) = absurd cc
      by_route (by_status at is) = absurd cc
      by_route (by_drain s m at sender message is) = absurd cc

  pub allocation_is : (tc : List ℕ) → IsAllocation r lets tc
      → asked_of rules serves r peer (said_by lets r) ≡ Ok (Alloc tc)
  unfolding asked_of alloc_of
  allocation_is tc a =
      let at = place_at r (codes "POST") (codes "/api/v1/scheduler/alloc_job") a.at in
      rw (
        at,
        said_there lets r at,
        admitted_client lets r a.admitted,
        held_message SpellsToolchain toolchain_at toolchain_codec r tc a.message,
      ) refl

  is_heartbeat : (server : Addr) (m : HeartbeatServerHttpRequest) → IsBytes r.body
      → asked_of rules serves r peer (said_by lets r) ≡ Ok (Beat server m)
      → IsHeartbeat r peer serves server m
  is_heartbeat server m fits e = by_route (route rules lets serves r peer (Beat server m) e)
    where
      by_route : Route rules lets serves r peer (Beat server m) → IsHeartbeat r peer serves server m
      by_route (by_alloc t at test message is) = absurd cc
      by_route (by_beat s b at sender message is) =
          let same_server : s ≡ server = cc in
          let same : b ≡ m = cc in
          record {
            at = at;
            sender = sender_shown serves r peer server (sender ∙ ap Ok same_server);
            message = message_held SpellsHeartbeat heartbeat_at heartbeat_codec r m fits
                (message ∙ ap Ok same);
          }
      by_route (by_update s j b at sender message is) = absurd cc
      by_route (by_status at is) = absurd cc
      by_route (by_drain s m at sender message is) = absurd cc

  pub heartbeat_is : (server : Addr) (m : HeartbeatServerHttpRequest) → IsHeartbeat r peer serves server m
      → asked_of rules serves r peer (said_by lets r) ≡ Ok (Beat server m)
  unfolding asked_of beat_of
  heartbeat_is server m h =
      rw (
        beat_no_alloc r h.at,
        place_at r (codes "POST") (codes "/api/v1/scheduler/heartbeat_server") h.at,
        shown_sender serves r peer server h.sender,
        held_message SpellsHeartbeat heartbeat_at heartbeat_codec r m h.message,
      ) refl

  is_update : (server : Addr) (job : JobId) (state : JobState) → IsBytes r.body
      → asked_of rules serves r peer (said_by lets r) ≡ Ok (Update server job state)
      → IsUpdate r peer serves server job state
  is_update server job state fits e = by_route (route rules lets serves r peer (Update server job state) e)
    where
      by_route : Route rules lets serves r peer (Update server job state)
          → IsUpdate r peer serves server job state
      by_route (by_alloc t at test message is) = absurd cc
      by_route (by_beat s b at sender message is) = absurd cc
      by_route (by_update s j m named sender message is) =
          let same_server : s ≡ server = cc in
          let same_job : j ≡ job = cc in
          let same : m ≡ state = cc in
          record {
            names = subst (λ (x : JobId). NamesJob r (codes "/api/v1/scheduler/job_state/") x) same_job named;
            sender = sender_shown serves r peer server (sender ∙ ap Ok same_server);
            message = message_held SpellsState state_at state_codec r state fits (message ∙ ap Ok same);
          }
      by_route (by_status at is) = absurd cc
      by_route (by_drain s m at sender message is) = absurd cc

  pub update_is : (server : Addr) (job : JobId) (state : JobState) → IsUpdate r peer serves server job state
      → asked_of rules serves r peer (said_by lets r) ≡ Ok (Update server job state)
  unfolding asked_of report_of update_of
  update_is server job state u =
      rw (
        state_no_alloc r job u.names,
        state_no_beat r job u.names,
        state_no_status r job u.names,
        state_no_drain rules r job u.names,
        named_state r job u.names,
        shown_sender serves r peer server u.sender,
        held_message SpellsState state_at state_codec r state u.message,
      ) refl

  is_status : asked_of rules serves r peer (said_by lets r) ≡ Ok Status → IsStatus r
  is_status e = by_route (route rules lets serves r peer Status e)
    where
      by_route : Route rules lets serves r peer Status → IsStatus r
      by_route (by_alloc t at test message is) = absurd cc
      by_route (by_beat s b at sender message is) = absurd cc
      by_route (by_update s j m at sender message is) = absurd cc
      by_route (by_status at is) = at
      by_route (by_drain s m at sender message is) = absurd cc

  pub status_is : IsStatus r → asked_of rules serves r peer (said_by lets r) ≡ Ok Status
  unfolding asked_of
  status_is h =
      rw (
        status_no_post r (codes "/api/v1/scheduler/alloc_job") h,
        status_no_post r (codes "/api/v1/scheduler/heartbeat_server") h,
        place_at r (codes "GET") (codes "/api/v1/scheduler/status") h,
      ) refl

  is_drain : (server : Addr) (m : DrainServerHttpRequest) → IsBytes r.body
      → asked_of rules serves r peer (said_by lets r) ≡ Ok (Drain server m)
      → IsDrain rules r peer serves server m
  is_drain server m fits e = by_route (route rules lets serves r peer (Drain server m) e)
    where
      by_route : Route rules lets serves r peer (Drain server m) → IsDrain rules r peer serves server m
      by_route (by_alloc t at test message is) = absurd cc
      by_route (by_beat s b at sender message is) = absurd cc
      by_route (by_update s j b at sender message is) = absurd cc
      by_route (by_status at is) = absurd cc
      by_route (by_drain s d at sender message is) =
          let same_server : s ≡ server = cc in
          let same : d ≡ m = cc in
          record {
            at = at;
            sender = sender_shown serves r peer server (sender ∙ ap Ok same_server);
            message = message_held SpellsDrain drain_at drain_codec r m fits (message ∙ ap Ok same);
          }

  pub drain_is : (server : Addr) (m : DrainServerHttpRequest) → IsDrain rules r peer serves server m
      → asked_of rules serves r peer (said_by lets r) ≡ Ok (Drain server m)
  unfolding asked_of drain_of
  drain_is server m h =
      rw (
        drain_no_alloc rules r h.at,
        drain_no_beat rules r h.at,
        drain_no_status rules r h.at,
        there_drain rules r h.at,
        shown_sender serves r peer server h.sender,
        held_message SpellsDrain drain_at drain_codec r m h.message,
      ) refl

  pub never_done : (reply : Response) → asked_of rules serves r peer (said_by lets r) ≡ Ok (Done reply) → ⊥
  never_done reply e = by_route (route rules lets serves r peer (Done reply) e)
    where
      by_route : Route rules lets serves r peer (Done reply) → ⊥
      by_route (by_alloc t at test message is) = absurd cc
      by_route (by_beat s b at sender message is) = absurd cc
      by_route (by_update s j m at sender message is) = absurd cc
      by_route (by_status at is) = absurd cc
      by_route (by_drain s m at sender message is) = absurd cc

-- ---- the bytes

pub body_fits : (bytes : List ℕ) (r : Request) → IsBytes bytes → IsRequest bytes r → IsBytes r.body
body_fits bytes r fits (h, x) i =
    subst (λ n. n < 256) (ap (λ (t : List ℕ). get_or t (length (print_request h) + i) 0) x.opens.reads.1
    ∙ get_or-append-add (print_request h) r.body i 0) (fits (length (print_request h) + i))

module _ (rules : Rules) (lets : List ℕ → Admission) (serves : List ℕ → Option Addr) (bytes : List ℕ)
    (peer : Addr) (json : Bool) where
  -- what is asked and is no reply known at once was asked by a request
  asks : (w : SchedRouted) → ((reply : Response) → w ≡ Done reply → ⊥)
      → IsAskedUnder rules lets serves bytes peer (record { what = w; json = json })
      → (r : Request) × IsRequest bytes r × (asked_of rules serves r peer (said_by lets r) ≡ Ok w)
      × InForm r json
  asks w other (inr (none, e)) = absurd (other (refusal_response BadHead) (ap (λ (a : Asked). a.what) e))
  asks w other (inl (r, x, e)) = (
    r,
    x,
    by_result (asked_of rules serves r peer (said_by lets r)) (ap (λ (a : Asked). a.what) e),
    in_form r json (ap (λ (a : Asked). a.json) e),
  )
    where
      by_result : (y : Result SchedRouted Refusal) → w ≡ answered y → y ≡ Ok w
      by_result (Ok y) h = ap Ok (sym h)
      by_result (Err d) h = absurd (other (refusal_response d) h)

  pub asked_by : (w : SchedRouted) (r : Request) → IsRequest bytes r
      → asked_of rules serves r peer (said_by lets r) ≡ Ok w → InForm r json
      → IsAskedUnder rules lets serves bytes peer (record { what = w; json = json })
  asked_by w r x is form =
      inl (r, x, λ i. record { what = answered (sym is i); json = form_in r json form i })

  pub allocations_asked : (tc : List ℕ) → IsBytes bytes
      → IsAskedUnder rules lets serves bytes peer (record { what = Alloc tc; json = json })
      ↔ ((r : Request) × IsRequest bytes r × IsAllocation r lets tc × InForm r json)
  allocations_asked tc fits = (
    λ h. let (r, x, is, form) = asks (Alloc tc) (λ reply e. cc) h
        in (r, x, is_allocation rules lets serves r peer tc (body_fits bytes r fits x) is, form),
    λ (r, x, a, form). asked_by (Alloc tc) r x (allocation_is rules lets serves r peer tc a) form,
  )

  pub heartbeats_asked : (server : Addr) (m : HeartbeatServerHttpRequest) → IsBytes bytes
      → IsAskedUnder rules lets serves bytes peer (record { what = Beat server m; json = json })
      ↔ ((r : Request) × IsRequest bytes r × IsHeartbeat r peer serves server m × InForm r json)
  heartbeats_asked server m fits = (
    λ h. let (r, x, is, form) = asks (Beat server m) (λ reply e. cc) h
        in (r, x, is_heartbeat rules lets serves r peer server m (body_fits bytes r fits x) is, form),
    λ (r, x, a, form). asked_by (Beat server m) r x (heartbeat_is rules lets serves r peer server m a) form,
  )

  pub updates_asked : (server : Addr) (job : JobId) (state : JobState) → IsBytes bytes
      → IsAskedUnder rules lets serves bytes peer (record { what = Update server job state; json = json })
      ↔ ((r : Request) × IsRequest bytes r × IsUpdate r peer serves server job state × InForm r json)
  updates_asked server job state fits = (
    λ h. let (r, x, is, form) = asks (Update server job state) (λ reply e. cc) h
        in (r, x, is_update rules lets serves r peer server job state (body_fits bytes r fits x) is, form),
    λ (r, x, a, form). asked_by (Update server job state) r x
        (update_is rules lets serves r peer server job state a) form,
  )

  pub statuses_asked : IsAskedUnder rules lets serves bytes peer (record { what = Status; json = json })
      ↔ ((r : Request) × IsRequest bytes r × IsStatus r × InForm r json)
  statuses_asked = (
    λ h. let (r, x, is, form) = asks Status (λ reply e. cc) h
        in (r, x, is_status rules lets serves r peer is, form),
    λ (r, x, a, form). asked_by Status r x (status_is rules lets serves r peer a) form,
  )

  pub drains_asked : (server : Addr) (m : DrainServerHttpRequest) → IsBytes bytes
      → IsAskedUnder rules lets serves bytes peer (record { what = Drain server m; json = json })
      ↔ ((r : Request) × IsRequest bytes r × IsDrain rules r peer serves server m × InForm r json)
  drains_asked server m fits = (
    λ h. let (r, x, is, form) = asks (Drain server m) (λ reply e. cc) h
        in (r, x, is_drain rules lets serves r peer server m (body_fits bytes r fits x) is, form),
    λ (r, x, a, form). asked_by (Drain server m) r x (drain_is rules lets serves r peer server m a) form,
  )
