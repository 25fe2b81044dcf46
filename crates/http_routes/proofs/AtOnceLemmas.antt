-- A reply of the scheduler is known at once exactly where a request is refused, or the bytes are no request.
use Rattle.std.proofs.Common.{◌≡◌, ◌↔◌, ◌⊎◌, inl, inr, ℕ, Bool, true, false, cond, List, Option, Some, None}
use Rattle.std.proofs.Common.{Result, Ok, Err, refl, sym, ap, ◌∙◌}
use Rattle.std.specs.Prelude.{codes}
use Rattle.dist_types.specs.declared.addr.Addr.{Addr}
use Rattle.dist_types.specs.declared.ids.JobId.{JobId}
use Rattle.dist_types.specs.declared.rules.Rules.{Rules}
use Rattle.dist_wire.specs.Codec.{IsBytes, IsCodec}
use Rattle.dist_wire.specs.MessageLaws.{toolchain_codec, heartbeat_codec, state_codec, drain_codec}
use Rattle.dist_wire.specs.Reading.{toolchain_at, heartbeat_at, state_at, drain_at}
use Rattle.dist_wire.specs.Spelling.{SpellsToolchain, SpellsHeartbeat, SpellsState, SpellsDrain}
use Rattle.http_head.specs.declared.request.Request.{Request}
use Rattle.http_head.specs.Head.{IsRequest, IsNoRequest}
use Rattle.http_routes.specs.declared.admission.Admission.{Admission}
use Rattle.http_routes.specs.declared.refusal.Refusal.{Refusal}
use Rattle.http_routes.specs.declared.refusal.Refusal.TheVariants.{BadHead, NoRoute}
use Rattle.http_routes.specs.declared.reply.Response.{Response}
use Rattle.http_routes.specs.declared.route.Asked.{Asked}
use Rattle.http_routes.specs.declared.route.SchedRouted.{SchedRouted}
use Rattle.http_routes.specs.declared.route.SchedRouted.TheVariants.{Alloc, Beat, Update, Status}
use Rattle.http_routes.specs.declared.route.SchedRouted.TheVariants.{Drain, Done}
use Rattle.http_routes.specs.Asked.{IsAskedUnder}
use Rattle.http_routes.specs.InOrder.{IsAt, InForm, IsAtDrain}
use Rattle.http_routes.specs.Message.{message_in}
use Rattle.http_routes.specs.Place.{is_at, at_drain, state_job, of_job}
use Rattle.http_routes.specs.Refusal.{refusal_response}
use Rattle.http_routes.specs.Refused.{AllocRefused, TellingRefused, NamesSome, IsRefused}
use Rattle.http_routes.specs.Route.{alloc_of, beat_of, drain_of, update_of, report_of, asked_of, answered}
use Rattle.http_routes.specs.Route.{said_by}
use Rattle.http_routes.specs.Sender.{client_test, server_of}
use Rattle.http_routes.specs.Steps.{◌>>=◌}
use Rattle.http_routes.proofs.PlaceLemmas.{at_place, place_at, in_form, form_in, no_job_named}
use Rattle.http_routes.proofs.RefusedLemmas.{message_refused, refused_message}
use Rattle.http_routes.proofs.RouteLemmas.{beat_no_alloc, state_no_alloc, state_no_beat, state_no_status}
use Rattle.http_routes.proofs.RouteLemmas.{state_named, named_state, said_there, post_alloc, post_beat}
use Rattle.http_routes.proofs.RouteLemmas.{get_status, client_of, never_done, body_fits}
use Rattle.http_routes.proofs.RouteLemmas.{state_no_drain, drain_no_alloc, drain_no_beat, drain_no_status}
use Rattle.http_routes.proofs.RouteLemmas.{drain_there, there_drain}
use Rattle.http_routes.proofs.SenderLemmas.{client_admitted, admitted_client, client_refused, refused_client}
use Rattle.http_routes.proofs.SenderLemmas.{sender_shown, shown_sender, server_refused, refused_server}
use Rattle.http_routes.proofs.StepLemmas.{two, two_first, two_second}

-- ---- the routes, one by one

alloc_refused : (lets : List ℕ → Admission) (r : Request) (e : Refusal) → post_alloc r ≡ true
    → alloc_of r (said_by lets r) ≡ Err e → AllocRefused r lets e
unfolding alloc_of
alloc_refused lets r e at h =
    by_step (two (client_test (said_by lets r)) (message_in toolchain_at r) (λ u tc. Alloc tc) e h)
  where
    there : client_of lets r ≡ client_test (said_by lets r)
    there = ap client_test (sym (said_there lets r at))

    by_step : (client_test (said_by lets r) ≡ Err e) ⊎ ((u : Unit {0}) × (client_test (said_by lets r) ≡ Ok u)
        × (message_in toolchain_at r ≡ Err e)) → AllocRefused r lets e
    by_step (inl none) = inl (client_refused lets r e (there ∙ none))
    by_step (inr (u, is, k)) =
        inr (
          client_admitted lets r (there ∙ is),
          message_refused SpellsToolchain toolchain_at toolchain_codec
              r e k,
        )

refused_alloc : (lets : List ℕ → Admission) (r : Request) (e : Refusal) → post_alloc r ≡ true → IsBytes r.body
    → AllocRefused r lets e → alloc_of r (said_by lets r) ≡ Err e
unfolding alloc_of
refused_alloc lets r e at fits (inl none) = rw (said_there lets r at, refused_client lets r e none) refl
refused_alloc lets r e at fits (inr (admitted, none)) =
    rw (
      said_there lets r at,
      admitted_client lets r admitted,
      refused_message SpellsToolchain toolchain_at toolchain_codec r e fits none,
    ) refl

module _ {M : Type 0} (Spells : M → List ℕ → Type 0) (at : List ℕ → Option (M × List ℕ))
    (codec : IsCodec Spells at) (g : Addr → M → SchedRouted) (serves : List ℕ → Option Addr) (r : Request)
    (peer : Addr) (e : Refusal) where
  telling_refused : (server_of serves r peer >>= λ s. message_in at r >>= λ m. Ok (g s m)) ≡ Err e
      → TellingRefused Spells r peer serves e
  telling_refused h = by_step (two (server_of serves r peer) (message_in at r) g e h)
    where
      by_step : (server_of serves r peer ≡ Err e)
          ⊎ ((s : Addr) × (server_of serves r peer ≡ Ok s) × (message_in at r ≡ Err e))
          → TellingRefused Spells r peer serves e
      by_step (inl none) = inl (server_refused serves r peer e none)
      by_step (inr (s, is, k)) =
          inr (s, sender_shown serves r peer s is, message_refused Spells at codec r e k)

  refused_telling : IsBytes r.body → TellingRefused Spells r peer serves e
      → (server_of serves r peer >>= λ s. message_in at r >>= λ m. Ok (g s m)) ≡ Err e
  refused_telling fits (inl none) = two_first (server_of serves r peer) (message_in at r) g e
      (refused_server serves r peer e none)
  refused_telling fits (inr (s, from, none)) =
      two_second (server_of serves r peer) (message_in at r) g s e (shown_sender serves r peer s from)
      (refused_message Spells at codec r e fits none)

-- ---- the request

not_there : (r : Request) (method path : List ℕ) → is_at method path r ≡ false → ¬ (IsAt r method path)
not_there r method path none at = let yes = sym none ∙ place_at r method path at in absurd cc

elsewhere : (r : Request) (method path : List ℕ) → ¬ (IsAt r method path) → is_at method path r ≡ false
elsewhere r method path none = by_test (is_at method path r) refl
  where
    by_test : (b : Bool) → is_at method path r ≡ b → b ≡ false
    by_test true is = absurd (none (at_place r method path is))
    by_test false is = refl

no_state_named : (r : Request) → ¬ (NamesSome r (codes "/api/v1/scheduler/job_state/")) → state_job r ≡ None
unfolding state_job
no_state_named r none = no_job_named (codes "/api/v1/scheduler/job_state/") r (λ job n. none (job, n))

no_drain_there : (rules : Rules) (r : Request) → at_drain rules r ≡ false → ¬ (IsAtDrain rules r)
no_drain_there rules r none at = let yes = sym none ∙ there_drain rules r at in absurd cc

there_no_drain : (rules : Rules) (r : Request) → ¬ (IsAtDrain rules r) → at_drain rules r ≡ false
there_no_drain rules r none = by_test (at_drain rules r) refl
  where
    by_test : (b : Bool) → at_drain rules r ≡ b → b ≡ false
    by_test true is = absurd (none (drain_there rules r is))
    by_test false is = refl

module _ (rules : Rules) (lets : List ℕ → Admission) (serves : List ℕ → Option Addr) (r : Request)
    (peer : Addr) (e : Refusal) where
  pub is_refused : asked_of rules serves r peer (said_by lets r) ≡ Err e
      → IsRefused rules r peer lets serves e
  unfolding asked_of report_of beat_of update_of drain_of
  is_refused h = by_tests (post_alloc r) (post_beat r) (get_status r) (at_drain rules r) (state_job r)
      refl refl refl refl refl h
    where
      by_tests : (a b s d : Bool) (j : Option JobId) → post_alloc r ≡ a → post_beat r ≡ b → get_status r ≡ s
          → at_drain rules r ≡ d → state_job r ≡ j
          → cond a (alloc_of r (said_by lets r))
          (cond b (beat_of serves r peer)
          (cond s (Ok Status)
          (cond d (drain_of serves r peer) (of_job (update_of serves r peer) (Err NoRoute) j)))) ≡ Err e
          → IsRefused rules r peer lets serves e
      by_tests true b s d j at_a at_b at_s at_d at_j k =
          inl (
            at_place r (codes "POST") (codes "/api/v1/scheduler/alloc_job") at_a,
            alloc_refused lets r e at_a k,
          )
      by_tests false true s d j at_a at_b at_s at_d at_j k =
          inr (inl (
            at_place r (codes "POST") (codes "/api/v1/scheduler/heartbeat_server") at_b,
            telling_refused SpellsHeartbeat heartbeat_at heartbeat_codec Beat serves r peer e k,
          ))
      by_tests false false true d j at_a at_b at_s at_d at_j k = absurd cc
      by_tests false false false true j at_a at_b at_s at_d at_j k =
          inr (inr (inr (inl (
            drain_there rules r at_d,
            telling_refused SpellsDrain drain_at drain_codec Drain serves r peer e k,
          ))))
      by_tests false false false false (Some job) at_a at_b at_s at_d at_j k =
          inr (inr (inl (
            (job, state_named r job at_j),
            telling_refused SpellsState state_at state_codec
                (λ s m. Update s job m) serves r peer e k,
          )))
      by_tests false false false false None at_a at_b at_s at_d at_j k =
          inr (inr (inr (inr (
            record {
              no_job = not_there r (codes "POST") (codes "/api/v1/scheduler/alloc_job") at_a;
              no_beat = not_there r (codes "POST") (codes "/api/v1/scheduler/heartbeat_server") at_b;
              no_status = not_there r (codes "GET") (codes "/api/v1/scheduler/status") at_s;
              no_state = λ n. let yes = sym at_j ∙ named_state r n.0 n.1 in absurd cc;
              no_drain = no_drain_there rules r at_d;
            },
            (let same : e ≡ NoRoute = cc in same),
          ))))

  pub refused_is : IsBytes r.body → IsRefused rules r peer lets serves e
      → asked_of rules serves r peer (said_by lets r) ≡ Err e
  unfolding asked_of report_of beat_of update_of drain_of
  refused_is fits (inl (at, why)) =
      let there = place_at r (codes "POST") (codes "/api/v1/scheduler/alloc_job") at in
      rw there (refused_alloc lets r e there fits why)
  refused_is fits (inr (inl (at, why))) =
      rw (beat_no_alloc r at, place_at r (codes "POST") (codes "/api/v1/scheduler/heartbeat_server") at)
      (refused_telling SpellsHeartbeat heartbeat_at heartbeat_codec Beat serves r peer e fits why)
  refused_is fits (inr (inr (inl ((job, named), why)))) =
      rw (
        state_no_alloc r job named,
        state_no_beat r job named,
        state_no_status r job named,
        state_no_drain rules r job named,
        named_state r job named,
      )
      (refused_telling SpellsState state_at state_codec (λ s m. Update s job m) serves r peer e fits why)
  refused_is fits (inr (inr (inr (inl (at, why))))) =
      rw (
        drain_no_alloc rules r at,
        drain_no_beat rules r at,
        drain_no_status rules r at,
        there_drain rules r at,
      ) (refused_telling SpellsDrain drain_at drain_codec Drain serves r peer e fits why)
  refused_is fits (inr (inr (inr (inr (none, same))))) =
      rw (
        elsewhere r (codes "POST") (codes "/api/v1/scheduler/alloc_job") none.no_job,
        elsewhere r (codes "POST") (codes "/api/v1/scheduler/heartbeat_server") none.no_beat,
        elsewhere r (codes "GET") (codes "/api/v1/scheduler/status") none.no_status,
        there_no_drain rules r none.no_drain,
        no_state_named r none.no_state,
      ) (ap Err (sym same))

-- ---- the bytes

pub replies_at_once : (rules : Rules) (lets : List ℕ → Admission) (serves : List ℕ → Option Addr)
    (bytes : List ℕ) (peer : Addr) (reply : Response) (json : Bool) → IsBytes bytes
    → IsAskedUnder rules lets serves bytes peer (record { what = Done reply; json = json })
    ↔ (((r : Request) × (refusal : Refusal) × IsRequest bytes r × IsRefused rules r peer lets serves refusal
    × (reply ≡ refusal_response refusal) × InForm r json)
    ⊎ (IsNoRequest bytes × (reply ≡ refusal_response BadHead) × (json ≡ false)))
replies_at_once rules lets serves bytes peer reply json fits = (to, from)
  where
    Known : Type 0
    Known =
        ((r : Request) × (refusal : Refusal) × IsRequest bytes r × IsRefused rules r peer lets serves refusal
        × (reply ≡ refusal_response refusal) × InForm r json)
        ⊎ (IsNoRequest bytes × (reply ≡ refusal_response BadHead) × (json ≡ false))

    by_result : (r : Request) → IsRequest bytes r → InForm r json → (y : Result SchedRouted Refusal)
        → asked_of rules serves r peer (said_by lets r) ≡ y → Done reply ≡ answered y → Known
    by_result r x form (Ok y) is h = absurd (never_done rules lets serves r peer reply (is ∙ ap Ok (sym h)))
    by_result r x form (Err d) is h =
        inl (
          r,
          d,
          x,
          is_refused rules lets serves r peer d is,
          (let known : reply ≡ refusal_response d = cc in known),
          form,
        )

    to : IsAskedUnder rules lets serves bytes peer (record { what = Done reply; json = json }) → Known
    to (inr (none, e)) =
        let same : Done reply ≡ Done (refusal_response BadHead) = ap (λ (a : Asked). a.what) e in
        inr (none, (let known : reply ≡ refusal_response BadHead = cc in known), ap (λ (a : Asked). a.json) e)
    to (inl (r, x, e)) = by_result r x (in_form r json (ap (λ (a : Asked). a.json) e))
        (asked_of rules serves r peer (said_by lets r)) refl (ap (λ (a : Asked). a.what) e)

    from : Known → IsAskedUnder rules lets serves bytes peer (record { what = Done reply; json = json })
    from (inr (none, e, j)) = inr (none, λ i. record { what = Done (e i); json = j i })
    from (inl (r, d, x, why, e, form)) =
        let is = refused_is rules lets serves r peer d (body_fits bytes r fits x) why in
        inl (r, x, λ i. record { what = (ap Done e ∙ ap answered (sym is)) i; json = form_in r json form i })
