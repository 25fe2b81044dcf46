-- What a request asks of a build server, or why it is refused, in the words of its parts.
use Rattle.std.proofs.Common.{◌≡◌, ◌↔◌, ◌⊎◌, inl, inr, ℕ, Bool, false, List, length, drop}
use Rattle.std.proofs.Common.{Option, Some, None, Result, Ok, Err, refl, sym, ap, subst, ◌∙◌}
use Rattle.std.specs.Prelude.{codes, ⊤}
use Rattle.dist_types.specs.declared.ids.JobId.{JobId}
use Rattle.dist_types.specs.declared.token_error.TokenError.{TokenError}
use Rattle.dist_wire.specs.Codec.{IsBytes}
use Rattle.dist_wire.specs.MessageLaws.{toolchain_codec}
use Rattle.dist_wire.specs.Reading.{toolchain_at}
use Rattle.dist_wire.specs.Spelling.{SpellsToolchain}
use Rattle.dist_wire.specs.declared.run.RunJobHttpRequest.{RunJobHttpRequest}
use Rattle.http_head.specs.declared.request.Request.{Request}
use Rattle.http_head.specs.Head.{IsRequest, IsNoRequest}
use Rattle.http_head.proofs.HeadLemmas.{one_request}
use Rattle.http_routes.specs.declared.refusal.Refusal.{Refusal}
use Rattle.http_routes.specs.declared.refusal.Refusal.TheVariants.{BadHead, NoRoute}
use Rattle.http_routes.specs.declared.reply.Response.{Response}
use Rattle.http_routes.specs.declared.server_route.ServerAsked.{ServerAsked}
use Rattle.http_routes.specs.declared.server_route.ServerRouted.{ServerRouted}
use Rattle.http_routes.specs.declared.server_route.ServerRouted.TheVariants.{Assign, Submit, Run, Done}
use Rattle.http_routes.specs.InOrder.{NamesJob, InForm, IsAssignment, IsSubmission, IsRun}
use Rattle.http_routes.specs.Message.{message_in}
use Rattle.http_routes.specs.Place.{job_of, assign_job, submit_job, run_job, of_job}
use Rattle.http_routes.specs.Refusal.{refusal_response}
use Rattle.http_routes.specs.Refused.{NamesSome, IsServerRefused}
use Rattle.http_routes.specs.RunHead.{run_in}
use Rattle.http_routes.specs.Sender.{job_test, ShowsJob}
use Rattle.http_routes.specs.ServerRoute.{assign_of, submit_of, run_of, server_asked_of, server_answered}
use Rattle.http_routes.specs.ServerRoute.{body_at, server_question, IsServerAsked}
use Rattle.http_routes.proofs.MessageLemmas.{message_held, held_message}
use Rattle.http_routes.proofs.PlaceLemmas.{in_form, form_in, job_named, named_job, no_job_named}
use Rattle.http_routes.proofs.RefusedLemmas.{message_refused, refused_message}
use Rattle.http_routes.proofs.RouteLemmas.{body_fits}
use Rattle.http_routes.proofs.RunHeadLemmas.{run_held, held_run, run_refused, refused_run}
use Rattle.http_routes.proofs.SenderLemmas.{job_shown, shown_job, job_refused, refused_job}
use Rattle.http_routes.proofs.StepLemmas.{ok_step, err_step, two, two_ok}

-- ---- places

abbrev assign_front : List ℕ
assign_front = codes "/api/v1/distserver/assign_job/"

abbrev submit_front : List ℕ
submit_front = codes "/api/v1/distserver/submit_toolchain/"

abbrev run_front : List ℕ
run_front = codes "/api/v1/distserver/run_job/"

assign_named : (r : Request) (job : JobId) → assign_job r ≡ Some job → NamesJob r assign_front job
unfolding assign_job
assign_named r job e = job_named assign_front r job e

named_assign : (r : Request) (job : JobId) → NamesJob r assign_front job → assign_job r ≡ Some job
unfolding assign_job
named_assign r job n = named_job assign_front r job n

no_assign : (r : Request) → ¬ (NamesSome r assign_front) → assign_job r ≡ None
unfolding assign_job
no_assign r none = no_job_named assign_front r (λ job n. none (job, n))

submit_named : (r : Request) (job : JobId) → submit_job r ≡ Some job → NamesJob r submit_front job
unfolding submit_job
submit_named r job e = job_named submit_front r job e

named_submit : (r : Request) (job : JobId) → NamesJob r submit_front job → submit_job r ≡ Some job
unfolding submit_job
named_submit r job n = named_job submit_front r job n

no_submit : (r : Request) → ¬ (NamesSome r submit_front) → submit_job r ≡ None
unfolding submit_job
no_submit r none = no_job_named submit_front r (λ job n. none (job, n))

run_named : (r : Request) (job : JobId) → run_job r ≡ Some job → NamesJob r run_front job
unfolding run_job
run_named r job e = job_named run_front r job e

named_run : (r : Request) (job : JobId) → NamesJob r run_front job → run_job r ≡ Some job
unfolding run_job
named_run r job n = named_job run_front r job n

no_run : (r : Request) → ¬ (NamesSome r run_front) → run_job r ≡ None
unfolding run_job
no_run r none = no_job_named run_front r (λ job n. none (job, n))

-- a request at one route is at none before it
submit_no_assign : (r : Request) (job : JobId) → NamesJob r submit_front job → assign_job r ≡ None
unfolding assign_job job_of
submit_no_assign r job n = rw (n.at.sent_by, n.at.sent_to) refl

run_no_assign : (r : Request) (job : JobId) → NamesJob r run_front job → assign_job r ≡ None
unfolding assign_job job_of
run_no_assign r job n = rw (n.at.sent_by, n.at.sent_to) refl

run_no_submit : (r : Request) (job : JobId) → NamesJob r run_front job → submit_job r ≡ None
unfolding submit_job job_of
run_no_submit r job n = rw (n.at.sent_by, n.at.sent_to) refl

-- ---- which route it is

module _ (verdict : ℕ → List ℕ → Result ⊤ TokenError) (r : Request) where
  -- what was asked, by its route
  data Route (w : ServerRouted) : Type 0 where
    by_assign : (job : JobId) (tc : List ℕ) → NamesJob r assign_front job → job_test verdict r job ≡ Ok tt
        → message_in toolchain_at r ≡ Ok tc → Assign job tc ≡ w → Route w
    by_submit : (job : JobId) → NamesJob r submit_front job → job_test verdict r job ≡ Ok tt → Submit job ≡ w
        → Route w
    by_run : (job : JobId) (run : RunJobHttpRequest) (at : ℕ) → NamesJob r run_front job
        → job_test verdict r job ≡ Ok tt → run_in r.body ≡ Ok (run, at) → Run job run at ≡ w → Route w

  assign_parts : (job : JobId) (w : ServerRouted) → NamesJob r assign_front job
      → assign_of verdict r job ≡ Ok w → Route w
  unfolding assign_of
  assign_parts job w n e =
      let p = two_ok (job_test verdict r job) (message_in toolchain_at r) (λ u tc. Assign job tc) w e in
      by_assign job p.1 n p.2 p.3 p.4

  submit_parts : (job : JobId) (w : ServerRouted) → NamesJob r submit_front job
      → submit_of verdict r job ≡ Ok w → Route w
  unfolding submit_of
  submit_parts job w n e =
      let s = ok_step (job_test verdict r job) (λ u. Ok (Submit job)) w e in
      by_submit job n s.1 cc

  run_parts : (job : JobId) (w : ServerRouted) → NamesJob r run_front job → run_of verdict r job ≡ Ok w
      → Route w
  unfolding run_of
  run_parts job w n e =
      let p = two_ok (job_test verdict r job) (run_in r.body)
      (λ u (x : RunJobHttpRequest × ℕ). Run job x.0 x.1) w e in
      by_run job p.1.0 p.1.1 n p.2 p.3 p.4

  route : (w : ServerRouted) → server_asked_of verdict r ≡ Ok w → Route w
  unfolding server_asked_of
  route w e = by_jobs (assign_job r) (submit_job r) (run_job r) refl refl refl e
    where
      by_jobs : (a s u : Option JobId) → assign_job r ≡ a → submit_job r ≡ s → run_job r ≡ u
          → of_job (assign_of verdict r)
          (of_job (submit_of verdict r) (of_job (run_of verdict r) (Err NoRoute) u) s) a ≡ Ok w → Route w
      by_jobs (Some job) s u at_a at_s at_u h = assign_parts job w (assign_named r job at_a) h
      by_jobs None (Some job) u at_a at_s at_u h = submit_parts job w (submit_named r job at_s) h
      by_jobs None None (Some job) at_a at_s at_u h = run_parts job w (run_named r job at_u) h
      by_jobs None None None at_a at_s at_u h = absurd cc

  -- ---- the requests that ask each thing

  is_assignment : (job : JobId) (tc : List ℕ) → IsBytes r.body → server_asked_of verdict r ≡ Ok
      (Assign job tc) → IsAssignment r verdict job tc
  is_assignment job tc fits e = by_route (route (Assign job tc) e)
    where
      by_route : Route (Assign job tc) → IsAssignment r verdict job tc
      by_route (by_assign j t n test message is) =
          let same_job : j ≡ job = cc in
          let same : t ≡ tc = cc in
          record {
            names = subst (λ (x : JobId). NamesJob r assign_front x) same_job n;
            shows = subst (λ (x : JobId). ShowsJob r verdict x) same_job (job_shown verdict r j test);
            message = message_held SpellsToolchain toolchain_at toolchain_codec r tc fits
                (message ∙ ap Ok same);
          }
      by_route (by_submit j n test is) = absurd cc
      by_route (by_run j run at n test body is) = absurd cc

  pub assignment_is : (job : JobId) (tc : List ℕ) → IsAssignment r verdict job tc
      → server_asked_of verdict r ≡ Ok (Assign job tc)
  unfolding server_asked_of assign_of
  assignment_is job tc a =
      rw (
        named_assign r job a.names,
        shown_job verdict r job a.shows,
        held_message SpellsToolchain toolchain_at toolchain_codec r tc a.message,
      ) refl

  is_submission : (job : JobId) → server_asked_of verdict r ≡ Ok (Submit job) → IsSubmission r verdict job
  is_submission job e = by_route (route (Submit job) e)
    where
      by_route : Route (Submit job) → IsSubmission r verdict job
      by_route (by_assign j t n test message is) = absurd cc
      by_route (by_submit j n test is) =
          let same_job : j ≡ job = cc in
          record {
            names = subst (λ (x : JobId). NamesJob r submit_front x) same_job n;
            shows = subst (λ (x : JobId). ShowsJob r verdict x) same_job (job_shown verdict r j test);
          }
      by_route (by_run j run at n test body is) = absurd cc

  pub submission_is : (job : JobId) → IsSubmission r verdict job → server_asked_of verdict r ≡ Ok (Submit job)
  unfolding server_asked_of submit_of
  submission_is job s = rw (
    submit_no_assign r job s.names,
    named_submit r job s.names,
    shown_job verdict r job s.shows,
  ) refl

  is_run : (job : JobId) (run : RunJobHttpRequest) (at : ℕ) → IsBytes r.body → server_asked_of verdict r ≡ Ok
      (Run job run at) → IsRun r verdict job run at
  is_run job run at fits e = by_route (route (Run job run at) e)
    where
      by_route : Route (Run job run at) → IsRun r verdict job run at
      by_route (by_assign j t n test message is) = absurd cc
      by_route (by_submit j n test is) = absurd cc
      by_route (by_run j x place n test body is) =
          let same_job : j ≡ job = cc in
          let same : x ≡ run = cc in
          let same_place : place ≡ at = cc in
          record {
            names = subst (λ (x : JobId). NamesJob r run_front x) same_job n;
            shows = subst (λ (x : JobId). ShowsJob r verdict x) same_job (job_shown verdict r j test);
            inputs = drop at r.body;
            body = run_held r.body run at fits (body ∙ (λ i. Ok (same i, same_place i)));
          }

  pub run_is : (job : JobId) (run : RunJobHttpRequest) (at : ℕ) → IsRun r verdict job run at
      → server_asked_of verdict r ≡ Ok (Run job run at)
  unfolding server_asked_of run_of
  run_is job run at x =
      rw (
        run_no_assign r job x.names,
        run_no_submit r job x.names,
        named_run r job x.names,
        shown_job verdict r job x.shows,
        held_run r.body run at x.inputs x.body,
      ) refl

  never_done : (reply : Response) → server_asked_of verdict r ≡ Ok (Done reply) → ⊥
  never_done reply e = by_route (route (Done reply) e)
    where
      by_route : Route (Done reply) → ⊥
      by_route (by_assign j t n test message is) = absurd cc
      by_route (by_submit j n test is) = absurd cc
      by_route (by_run j run at n test body is) = absurd cc

  -- ---- refusals

  module _ (e : Refusal) where
    assign_refused : (job : JobId) → NamesJob r assign_front job → assign_of verdict r job ≡ Err e
        → IsServerRefused r verdict e
    unfolding assign_of
    assign_refused job n h =
        by_step (two (job_test verdict r job) (message_in toolchain_at r) (λ u tc. Assign job tc) e h)
      where
        by_step : (job_test verdict r job ≡ Err e)
            ⊎ ((u : Unit {0}) × (job_test verdict r job ≡ Ok u) × (message_in toolchain_at r ≡ Err e))
            → IsServerRefused r verdict e
        by_step (inl none) = inl (job, n, inl (job_refused verdict r job e none))
        by_step (inr (u, is, k)) =
            inl (
              job,
              n,
              inr (
                job_shown verdict r job is,
                message_refused SpellsToolchain toolchain_at toolchain_codec r e k,
              ),
            )

    submit_refused : (job : JobId) → NamesJob r submit_front job → submit_of verdict r job ≡ Err e
        → IsServerRefused r verdict e
    unfolding submit_of
    submit_refused job n h = by_step (err_step (job_test verdict r job) (λ u. Ok (Submit job)) e h)
      where
        by_step : (job_test verdict r job ≡ Err e)
            ⊎ ((u : Unit {0}) × (job_test verdict r job ≡ Ok u) × (Ok (Submit job) ≡ Err e))
            → IsServerRefused r verdict e
        by_step (inl none) = inr (inl (job, n, job_refused verdict r job e none))
        by_step (inr (u, is, k)) = absurd cc

    run_is_refused : (job : JobId) → NamesJob r run_front job → run_of verdict r job ≡ Err e
        → IsServerRefused r verdict e
    unfolding run_of
    run_is_refused job n h =
        by_step (two (job_test verdict r job) (run_in r.body)
        (λ u (x : RunJobHttpRequest × ℕ). Run job x.0 x.1) e h)
      where
        by_step : (job_test verdict r job ≡ Err e)
            ⊎ ((u : Unit {0}) × (job_test verdict r job ≡ Ok u) × (run_in r.body ≡ Err e))
            → IsServerRefused r verdict e
        by_step (inl none) = inr (inr (inl (job, n, inl (job_refused verdict r job e none))))
        by_step (inr (u, is, k)) =
            inr (inr (inl (job, n, inr (job_shown verdict r job is, run_refused r.body e k))))

    is_refused : server_asked_of verdict r ≡ Err e → IsServerRefused r verdict e
    unfolding server_asked_of
    is_refused h = by_jobs (assign_job r) (submit_job r) (run_job r) refl refl refl h
      where
        by_jobs : (a s u : Option JobId) → assign_job r ≡ a → submit_job r ≡ s → run_job r ≡ u
            → of_job (assign_of verdict r)
            (of_job (submit_of verdict r) (of_job (run_of verdict r) (Err NoRoute) u) s) a ≡ Err e
            → IsServerRefused r verdict e
        by_jobs (Some job) s u at_a at_s at_u k = assign_refused job (assign_named r job at_a) k
        by_jobs None (Some job) u at_a at_s at_u k = submit_refused job (submit_named r job at_s) k
        by_jobs None None (Some job) at_a at_s at_u k = run_is_refused job (run_named r job at_u) k
        by_jobs None None None at_a at_s at_u k =
            inr (inr (inr (
              record {
                no_assign = λ n. let yes = sym at_a ∙ named_assign r n.0 n.1 in absurd cc;
                no_submit = λ n. let yes = sym at_s ∙ named_submit r n.0 n.1 in absurd cc;
                no_run = λ n. let yes = sym at_u ∙ named_run r n.0 n.1 in absurd cc;
              },
              (let same : e ≡ NoRoute = cc in same),
            )))

    refused_is : IsBytes r.body → IsServerRefused r verdict e → server_asked_of verdict r ≡ Err e
    unfolding server_asked_of assign_of submit_of run_of
    refused_is fits (inl (job, n, inl none)) =
        rw (named_assign r job n, refused_job verdict r job e none) refl
    refused_is fits (inl (job, n, inr (shows, none))) =
        rw (
          named_assign r job n,
          shown_job verdict r job shows,
          refused_message SpellsToolchain toolchain_at toolchain_codec r e fits none,
        ) refl
    refused_is fits (inr (inl (job, n, none))) =
        rw (submit_no_assign r job n, named_submit r job n, refused_job verdict r job e none) refl
    refused_is fits (inr (inr (inl (job, n, inl none)))) =
        rw (run_no_assign r job n, run_no_submit r job n, named_run r job n, refused_job verdict r job e none)
        refl
    refused_is fits (inr (inr (inl (job, n, inr (shows, none))))) =
        rw (
          run_no_assign r job n,
          run_no_submit r job n,
          named_run r job n,
          shown_job verdict r job shows,
          refused_run r.body e fits none,
        ) refl
    refused_is fits (inr (inr (inr (none, same)))) =
        rw (no_assign r none.no_assign, no_submit r none.no_submit, no_run r none.no_run) (ap Err (sym same))

-- ---- the bytes

module _ (verdict : ℕ → List ℕ → Result ⊤ TokenError) (bytes : List ℕ) where
  pub one_question : (a b : ServerAsked) → IsServerAsked verdict bytes a → IsServerAsked verdict bytes b
      → a ≡ b
  one_question a b (inl (r, x, e)) (inl (q, y, f)) = e
      ∙ (ap (server_question verdict bytes) (one_request bytes r q x y) ∙ sym f)
  one_question a b (inl (r, x, e)) (inr (none, f)) = absurd (none r x)
  one_question a b (inr (none, e)) (inl (q, y, f)) = absurd (none q y)
  one_question a b (inr (none, e)) (inr (nothing, f)) = e ∙ sym f

  module _ (json : Bool) (body : ℕ) where
    asks : (w : ServerRouted) → ((reply : Response) → w ≡ Done reply → ⊥)
        → IsServerAsked verdict bytes (record { what = w; json = json; body = body })
        → (r : Request) × IsRequest bytes r × (server_asked_of verdict r ≡ Ok w) × InForm r json
        × (body ≡ body_at bytes r)
    asks w other (inr (none, e)) =
        absurd (other (refusal_response BadHead) (ap (λ (a : ServerAsked). a.what) e))
    asks w other (inl (r, x, e)) = (
      r,
      x,
      by_result (server_asked_of verdict r) (ap (λ (a : ServerAsked). a.what) e),
      in_form r json (ap (λ (a : ServerAsked). a.json) e),
      ap (λ (a : ServerAsked). a.body) e,
    )
      where
        by_result : (y : Result ServerRouted Refusal) → w ≡ server_answered y → y ≡ Ok w
        by_result (Ok y) h = ap Ok (sym h)
        by_result (Err d) h = absurd (other (refusal_response d) h)

    pub asked_by : (w : ServerRouted) (r : Request) → IsRequest bytes r → server_asked_of verdict r ≡ Ok w
        → InForm r json → body ≡ body_at bytes r
        → IsServerAsked verdict bytes (record { what = w; json = json; body = body })
    asked_by w r x is form place =
        inl (
          r,
          x,
          λ i. record {
            what = server_answered (sym is i);
            json = form_in r json form i;
            body = place i;
          },
        )

    pub assignments_asked : (job : JobId) (tc : List ℕ) → IsBytes bytes
        → IsServerAsked verdict bytes (record { what = Assign job tc; json = json; body = body })
        ↔ ((r : Request) × IsRequest bytes r × IsAssignment r verdict job tc × InForm r json
        × (body ≡ body_at bytes r))
    assignments_asked job tc fits = (
      λ h. let (r, x, is, form, place) = asks (Assign job tc) (λ reply e. cc) h
          in (r, x, is_assignment verdict r job tc (body_fits bytes r fits x) is, form, place),
      λ (r, x, a, form, place). asked_by (Assign job tc) r x (assignment_is verdict r job tc a) form place,
    )

    pub submissions_asked : (job : JobId)
        → IsServerAsked verdict bytes (record { what = Submit job; json = json; body = body })
        ↔ ((r : Request) × IsRequest bytes r × IsSubmission r verdict job × InForm r json
        × (body ≡ body_at bytes r))
    submissions_asked job = (
      λ h. let (r, x, is, form, place) = asks (Submit job) (λ reply e. cc) h
          in (r, x, is_submission verdict r job is, form, place),
      λ (r, x, a, form, place). asked_by (Submit job) r x (submission_is verdict r job a) form place,
    )

    pub runs_asked : (job : JobId) (run : RunJobHttpRequest) (at : ℕ) → IsBytes bytes
        → IsServerAsked verdict bytes (record { what = Run job run at; json = json; body = body })
        ↔ ((r : Request) × IsRequest bytes r × IsRun r verdict job run at × InForm r json
        × (body ≡ body_at bytes r))
    runs_asked job run at fits = (
      λ h. let (r, x, is, form, place) = asks (Run job run at) (λ reply e. cc) h
          in (r, x, is_run verdict r job run at (body_fits bytes r fits x) is, form, place),
      λ (r, x, a, form, place). asked_by (Run job run at) r x (run_is verdict r job run at a) form place,
    )

    pub replies_at_once : (reply : Response) → IsBytes bytes
        → IsServerAsked verdict bytes (record { what = Done reply; json = json; body = body })
        ↔ (((r : Request) × (refusal : Refusal) × IsRequest bytes r × IsServerRefused r verdict refusal
        × (reply ≡ refusal_response refusal) × InForm r json × (body ≡ body_at bytes r))
        ⊎ (IsNoRequest bytes × (reply ≡ refusal_response BadHead) × (json ≡ false) × (body ≡ length bytes)))
    replies_at_once reply fits = (to, from)
      where
        Known : Type 0
        Known =
            ((r : Request) × (refusal : Refusal) × IsRequest bytes r × IsServerRefused r verdict refusal
            × (reply ≡ refusal_response refusal) × InForm r json × (body ≡ body_at bytes r))
            ⊎ (IsNoRequest bytes × (reply ≡ refusal_response BadHead) × (json ≡ false)
            × (body ≡ length bytes))

        by_result : (r : Request) → IsRequest bytes r → InForm r json → body ≡ body_at bytes r
            → (y : Result ServerRouted Refusal) → server_asked_of verdict r ≡ y
            → Done reply ≡ server_answered y → Known
        by_result r x form place (Ok y) is h = absurd (never_done verdict r reply (is ∙ ap Ok (sym h)))
        by_result r x form place (Err d) is h =
            inl (
              r,
              d,
              x,
              is_refused verdict r d is,
              (let known : reply ≡ refusal_response d = cc in known),
              form,
              place,
            )

        to : IsServerAsked verdict bytes (record { what = Done reply; json = json; body = body }) → Known
        to (inr (none, e)) =
            let same : Done reply ≡ Done (refusal_response BadHead) = ap (λ (a : ServerAsked). a.what) e in
            inr (
              none,
              (let known : reply ≡ refusal_response BadHead = cc in known),
              ap (λ (a : ServerAsked). a.json) e,
              ap (λ (a : ServerAsked). a.body) e,
            )
        to (inl (r, x, e)) =
            by_result r x (in_form r json (ap (λ (a : ServerAsked). a.json) e))
            (ap (λ (a : ServerAsked). a.body) e) (server_asked_of verdict r) refl
            (ap (λ (a : ServerAsked). a.what) e)

        from : Known → IsServerAsked verdict bytes (record { what = Done reply; json = json; body = body })
        from (inr (none, e, j, place)) =
            inr (none, λ i. record { what = Done (e i); json = j i; body = place i })
        from (inl (r, d, x, why, e, form, place)) =
            let is = refused_is verdict r d (body_fits bytes r fits x) why in
            inl (
              r,
              x,
              λ i. record {
                what = (ap Done e ∙ ap server_answered (sym is)) i;
                json = form_in r json form i;
                body = place i;
              },
            )
