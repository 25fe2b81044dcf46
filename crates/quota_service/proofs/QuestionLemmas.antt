-- What a request asks under the check of listed names; and who asks for a job is listed.
use Rattle.std.proofs.Common.{◌≡◌, ◌≢◌, ℕ, Bool, true, false, cond, List, Option, Some, None, Result, Ok, Err}
use Rattle.std.proofs.Common.{refl, sym, ap, subst, ◌∙◌}
use Rattle.std.specs.Prelude.{⊤, codes, is_some, option_map}
use Rattle.dist_types.specs.declared.addr.Addr.{Addr}
use Rattle.dist_types.specs.declared.ids.JobId.{JobId}
use Rattle.dist_types.specs.declared.results.JobState.{JobState}
use Rattle.dist_types.specs.declared.rules.Rules.TheVariants.{One}
use Rattle.dist_types.specs.declared.token_error.TokenError.{TokenError}
use Rattle.dist_token.specs.Checks.{fixed_shown}
use Rattle.dist_wire.specs.Reading.{toolchain_at, heartbeat_at, state_at}
use Rattle.dist_wire.specs.declared.heartbeat.HeartbeatServerHttpRequest.{HeartbeatServerHttpRequest}
use Rattle.http_head.specs.declared.request.Request.{Request}
use Rattle.http_head.specs.Bearer.{token_in}
use Rattle.http_head.specs.Fields.{header}
use Rattle.http_routes.specs.Admission.{client_token, admission_by, Admits}
use Rattle.http_routes.specs.Message.{message_in}
use Rattle.http_routes.specs.Place.{is_at, at_drain, state_job, of_job}
use Rattle.http_routes.specs.Route.{alloc_of, beat_of, update_of, report_of, asked_of, answered, said_by}
use Rattle.http_routes.specs.Route.{IsRouted, IsNoDrain}
use Rattle.http_routes.specs.Sender.{client_test, server_of}
use Rattle.http_routes.specs.declared.admission.Admission.{Admission}
use Rattle.http_routes.specs.declared.admission.Admission.TheVariants as says
use Rattle.http_routes.specs.declared.refusal.Refusal.{Refusal}
use Rattle.http_routes.specs.declared.refusal.Refusal.TheVariants.{NoRoute}
use Rattle.http_routes.specs.declared.route.SchedRouted.{SchedRouted}
use Rattle.http_routes.specs.declared.route.SchedRouted.TheVariants.{Alloc, Beat, Update, Status}
use Rattle.http_routes.proofs.RouteLemmas.{post_alloc, post_beat, get_status, said_there}
use Rattle.http_routes.proofs.StepLemmas.{two_ok}
use Rattle.http_routes.proofs.VersionLemmas.{no_request_drains}
use Rattle.quota.specs.Clients.{Client, place_of}
use Rattle.quota_service.specs.Listed.{listed_verdict, verdict_at}
use Rattle.quota_service.specs.Question.{listed_admission, what_of, asker_of, is_listed}

-- ---- the route, where the check of clients is a function of the token

-- which answers the check of listed names may give, and what it shows
abbrev pub may_listed : List Client → ℕ → List ℕ → Result ⊤ TokenError → List Client → Type 0
may_listed old now token answer new = (new ≡ old) × (answer ≡ listed_verdict old token)

abbrev pub shows_fixed : List Client → TokenError → List ℕ
shows_fixed check e = fixed_shown

listed_admits : (o : Option (List ℕ)) (now : ℕ) (old new : List Client) (said : Option Admission)
    → Admits may_listed shows_fixed o now old said new → said ≡ option_map (listed_admission old) o
listed_admits None now old new said (none, same) = none
listed_admits (Some token) now old new said (says, is, a) =
    is ∙ ap (λ (s : Admission). Some s) (a.told ∙ ap (admission_by (λ e. fixed_shown)) a.answers.1)

pub routed_listed : (serves : List ℕ → Option Addr) (r : Request) (peer : Addr) (now : ℕ)
    (old new : List Client) (routed : SchedRouted)
    → IsRouted One may_listed shows_fixed serves r peer now old routed new
    → routed ≡ what_of old serves peer (Some r)
routed_listed serves r peer now old new routed is =
    is.routes ∙ ap (λ (s : Option Admission). answered (asked_of One serves r peer s))
    (listed_admits (client_token r) now old new is.said is.admits)

-- ---- who asks for a job

no_beat : (s : Addr) (m : HeartbeatServerHttpRequest) (tc : List ℕ) → Beat s m ≢ Alloc tc
no_beat s m tc = λ is. absurd cc

no_update : (s : Addr) (job : JobId) (state : JobState) (tc : List ℕ) → Update s job state ≢ Alloc tc
no_update s job state tc = λ is. absurd cc

alloc_admitted : (r : Request) (said : Option Admission) (tc : List ℕ) → alloc_of r said ≡ Ok (Alloc tc)
    → said ≡ Some says.Admitted
unfolding alloc_of
alloc_admitted r None tc is = absurd cc
alloc_admitted r (Some says.Admitted) tc is = refl
alloc_admitted r (Some (says.Refused word text)) tc is = absurd cc

beat_no_alloc : (serves : List ℕ → Option Addr) (r : Request) (peer : Addr) (tc : List ℕ)
    → beat_of serves r peer ≢ Ok (Alloc tc)
unfolding beat_of
beat_no_alloc serves r peer tc = λ is.
    let p = two_ok (server_of serves r peer) (message_in heartbeat_at r) Beat (Alloc tc) is in
    no_beat p.0 p.1 tc p.4

update_no_alloc : (serves : List ℕ → Option Addr) (r : Request) (peer : Addr) (job : JobId) (tc : List ℕ)
    → update_of serves r peer job ≢ Ok (Alloc tc)
unfolding update_of
update_no_alloc serves r peer job tc = λ is.
    let p = two_ok (server_of serves r peer) (message_in state_at r) (λ s m. Update s job m) (Alloc tc) is in
    no_update p.0 job p.1 tc p.4

-- a request for a job is at its place, and the check lets its client in
asks_admitted : (serves : List ℕ → Option Addr) (r : Request) (peer : Addr) (said : Option Admission)
    (tc : List ℕ) → asked_of One serves r peer said ≡ Ok (Alloc tc)
    → (post_alloc r ≡ true) × (said ≡ Some says.Admitted)
unfolding asked_of report_of at_drain
asks_admitted serves r peer said tc is = by_tests (post_alloc r) (post_beat r) (get_status r) (state_job r) refl is
  where
    by_tests : (a b s : Bool) (j : Option JobId) → post_alloc r ≡ a
        → cond a (alloc_of r said)
        (cond b (beat_of serves r peer)
        (cond s (Ok Status) (of_job (update_of serves r peer) (Err NoRoute) j))) ≡ Ok (Alloc tc)
        → (post_alloc r ≡ true) × (said ≡ Some says.Admitted)
    by_tests true b s j at h = (at, alloc_admitted r said tc h)
    by_tests false true s j at h = absurd (beat_no_alloc serves r peer tc h)
    by_tests false false true j at h = absurd cc
    by_tests false false false None at h = absurd cc
    by_tests false false false (Some job) at h = absurd (update_no_alloc serves r peer job tc h)

admitted_at : (o : Option ℕ) → admission_by (λ e. fixed_shown) (verdict_at o) ≡ says.Admitted
    → is_some o ≡ true
admitted_at None is = absurd cc
admitted_at (Some place) is = refl

pub same_some : (a b : Admission) → Some a ≡ Some b → a ≡ b
same_some a b is = cc

admitted_listed : (clients : List Client) (o : Option (List ℕ))
    → option_map (listed_admission clients) o ≡ Some says.Admitted → is_listed clients o ≡ true
admitted_listed clients None is = absurd cc
admitted_listed clients (Some name) is =
    admitted_at (place_of clients name) (same_some (listed_admission clients name) says.Admitted is)

asked_at_all : (asked : Result SchedRouted Refusal) (tc : List ℕ) → answered asked ≡ Alloc tc
    → asked ≡ Ok (Alloc tc)
asked_at_all (Ok w) tc is = ap Ok is
asked_at_all (Err e) tc is = absurd cc

-- who asks for a job shows the name of a client
pub asks_listed : (clients : List Client) (serves : List ℕ → Option Addr) (peer : Addr)
    (request : Option Request) (what : SchedRouted) → what ≡ what_of clients serves peer request
    → (tc : List ℕ) → what ≡ Alloc tc → is_listed clients (asker_of request) ≡ true
asks_listed clients serves peer None what asks tc is = absurd (let both = sym asks ∙ is in cc)
asks_listed clients serves peer (Some r) what asks tc is =
    let lets = listed_admission clients in
    let a = asks_admitted serves r peer (said_by lets r) tc
    (asked_at_all (asked_of One serves r peer (said_by lets r)) tc (sym asks ∙ is)) in
    admitted_listed clients (token_in (header (codes "authorization") r.headers))
    (sym (said_there lets r a.0) ∙ a.1)

-- and nobody asks for a drain
pub asks_no_drain : (clients : List Client) (serves : List ℕ → Option Addr) (peer : Addr)
    (request : Option Request) (what : SchedRouted) → what ≡ what_of clients serves peer request
    → IsNoDrain what
asks_no_drain clients serves peer None what asks = subst IsNoDrain (sym asks) (λ server drain is. absurd cc)
asks_no_drain clients serves peer (Some r) what asks = subst IsNoDrain (sym asks)
    (no_request_drains serves r peer (said_by (listed_admission clients) r))
