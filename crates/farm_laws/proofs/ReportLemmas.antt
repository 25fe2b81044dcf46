-- A report that a server of a farm writes is read as that server's update; a reply that takes one tells that
-- it was accepted; and a 200 to one begins with an answer.
use Rattle.std.proofs.Common.{◌≡◌, inl, inr, ℕ, ◌<◌, ◌≤◌, ◌^◌, Bool, false, List, [], ◌∷◌, ◌++◌, length}
use Rattle.std.proofs.Common.{codes, decimal, Option, Some, Ok, Err, refl, append-nil, ap, ◌∙◌, sym, arith}
use Rattle.std.proofs.Common.{length-append}
use Rattle.std.proofs.lemmas.Fmt.{length-decimal-le}
use Rattle.dist_types.specs.Addr.{IsAddr, addr_text}
use Rattle.dist_types.specs.Ids.{state_text}
use Rattle.dist_types.specs.declared.addr.Addr.{Addr}
use Rattle.dist_types.specs.declared.ids.JobId.{JobId}
use Rattle.dist_types.specs.declared.results.JobState.{JobState}
use Rattle.dist_types.specs.declared.results.JobState.TheVariants.{Pending, Ready, Started, Complete}
use Rattle.dist_types.specs.declared.results.UpdateJobStateResult.{UpdateJobStateResult}
use Rattle.dist_types.specs.declared.results.UpdateJobStateResult.TheVariants.{Success}
use Rattle.core_rules.specs.declared.entry.UpdateAnswer.{UpdateAnswer}
use Rattle.core_rules.specs.declared.entry.UpdateAnswer.TheVariants.{Accepted, Unknown, Wrong, Transition}
use Rattle.http_head.specs.declared.error.HttpError.TheVariants.{ParseError, Status as StatusFault}
use Rattle.http_head.specs.WrittenRequest.{IsWithinLimits}
use Rattle.http_head.specs.Head.{IsReply}
use Rattle.http_head.specs.declared.reply.Reply.{Reply}
use Rattle.http_head.proofs.ReplyLemmas.{one_reply}
use Rattle.http_routes.specs.declared.fault.RouteFault.TheVariants.{UnknownJob, WrongServer, BadTransition}
use Rattle.http_routes.specs.declared.reply.Response.TheVariants.{Binary, ServerError}
use Rattle.http_routes.specs.declared.route.SchedRouted.TheVariants.{Update}
use Rattle.http_routes.specs.Asked.{IsAskedUnder}
use Rattle.http_routes.specs.Admission.{equal_admission}
use Rattle.http_routes.specs.CallReply.{told_by, answer_by, IsAnswer}
use Rattle.http_routes.specs.ErrJson.{err_text}
use Rattle.http_routes.specs.Fault.{fault_text}
use Rattle.http_routes.specs.ReadBack.{seen}
use Rattle.http_routes.specs.Replies.{update_response, update_reply}
use Rattle.http_routes.specs.Reply.{reply_text}
use Rattle.http_routes.specs.Steps.{unless_none}
use Rattle.std.specs.Option.{option_map}
use Rattle.dist_wire.specs.CodecLaws.{wide32}
use Rattle.dist_wire.specs.MessageLaws.{update_codec}
use Rattle.dist_wire.specs.Reading.{update_at}
use Rattle.dist_wire.specs.Written.{state_bytes, update_text}
use Rattle.http_routes.specs.Requests.{post_with, state_with, state_request_text, CanGo}
use Rattle.http_routes.proofs.BackLemmas.{read_back}
use Rattle.http_routes.proofs.ToldLemmas.{addr_visible, states_read_back}
use Rattle.farm_entries.specs.declared.site.Site.{Site as Setup}
use Rattle.farm_entries.specs.Builds.{HasWords}
use Rattle.farm_entries.specs.Seen.{serves, server_token}
use Rattle.farm_laws.proofs.ShownLemmas.{shows}
use Rattle.farm_laws.proofs.TextLemmas.{addr_short, escape_short}

-- ---- a report of a job's state

state_small : (s : JobState) → length (state_bytes s) ≤ 1000
state_small Pending = omega (arith, wide32.len 0)
state_small Ready = omega (arith, wide32.len 1)
state_small Started = omega (arith, wide32.len 2)
state_small Complete = omega (arith, wide32.len 3)

pub posted_limits : (target host token body : List ℕ) → length target ≤ 100 → length host ≤ 400
    → length token ≤ 2000 → length body ≤ 1000 → IsWithinLimits (post_with target host token body)
posted_limits target host token body short_target short_host short_token short_body =
    let len : length (decimal (length body)) ≤ 20 = length-decimal-le 20 (length body) (omega arith)
    (omega (arith, short_body)) (omega (arith, short_body)) in
    record {
      head = simp length-append (omega (arith, len, short_target, short_host, short_token));
      body = omega (arith, short_body);
    }

limits : (host token : List ℕ) (job : JobId) (state : JobState) → job.0 < 2 ^ 64 → length host ≤ 400
    → length token ≤ 2000 → IsWithinLimits (state_with host token job state)
unfolding state_with
limits host token job state fits short_host short_token =
    let id : length (decimal job.0) ≤ 20 = length-decimal-le 20 job.0 (omega arith) (omega (arith, fits))
    (omega (arith, fits)) in
    let front = length-append (codes "/api/v1/scheduler/job_state/") (decimal job.0) in
    posted_limits (codes "/api/v1/scheduler/job_state/" ++ decimal job.0) host token (state_bytes state)
    (omega (arith, id, front)) short_host short_token (state_small state)

can_go : (setup : Setup) (server : Addr) (job : JobId) (state : JobState) → HasWords setup → IsAddr server
    → job.0 < 2 ^ 64
    → CanGo (addr_text setup.scheduler.addr) (server_token setup server)
    (state_with (addr_text setup.scheduler.addr) (server_token setup server) job state)
can_go setup server job state words is fits =
    let s = shows setup.scheduler.auth server words.token is in
    record {
      visible = addr_visible setup.scheduler.addr words.scheduler;
      carried = s.carried;
      limits = limits (addr_text setup.scheduler.addr) (server_token setup server) job state fits
          (addr_short setup.scheduler.addr words.scheduler) s.short;
    }

-- the scheduler reads it as that server's update of that job
pub state_asked : (setup : Setup) (server : Addr) (job : JobId) (state : JobState) → HasWords setup
    → IsAddr server → job.0 < 2 ^ 64
    → IsAskedUnder setup.rules (equal_admission setup.scheduler.client) (serves setup.scheduler.auth)
    (state_request_text setup.scheduler.addr (server_token setup server) job state) server
    (record { what = Update server job state; json = false })
state_asked setup server job state words is fits =
    states_read_back setup.rules (equal_admission setup.scheduler.client) (serves setup.scheduler.auth) server
    (addr_text setup.scheduler.addr) (server_token setup server) job state server
    (can_go setup server job state words is fits) fits
    (shows setup.scheduler.auth server words.token is).accepted refl

-- ---- its reply

pub one_text_short : (t : List ℕ) → length t ≤ 4000 → length (err_text (t ∷ [])) ≤ 1073741824
unfolding err_text
one_text_short t short =
    let q = escape_short t in
    simp length-append (omega (arith, q, short))

state_short : (s : JobState) → length (state_text s) ≤ 10
state_short Pending = omega arith
state_short Ready = omega arith
state_short Started = omega arith
state_short Complete = omega arith

wrong_short : (job : JobId) (server : Addr) → job.0 < 2 ^ 64 → IsAddr server
    → length (fault_text (WrongServer job server)) ≤ 4000
wrong_short job server fits is =
    let id : length (decimal job.0) ≤ 20 = length-decimal-le 20 job.0 (omega arith) (omega (arith, fits))
    (omega (arith, fits)) in
    let addr = addr_short server is in
    simp length-append (omega (arith, id, addr))

change_short : (from to : JobState) → length (fault_text (BadTransition from to)) ≤ 4000
change_short from to =
    let a = state_short from in
    let b = state_short to in
    simp length-append (omega (arith, a, b))

no_answer : {M : Type 0} (at : List ℕ → Option (M × List ℕ)) (body : List ℕ) (m : M)
    → length body ≤ 1073741824 → IsAnswer at (reply_text (ServerError body)) (Ok m) → ⊥
unfolding told_by
no_answer {M = M} at body m low (told, inr (none, is), e) = let no : Ok m ≡ answer_by (Err ParseError) = e
    ∙ ap answer_by is in cc
no_answer {M = M} at body m low (told, inl (r, x, is), e) =
    let same : r ≡ seen (ServerError body) = one_reply (reply_text (ServerError body)) r
    (seen (ServerError body)) x (read_back (ServerError body) low) in
    let no : Ok m ≡ answer_by (Err (StatusFault 500 body)) = e ∙ ap answer_by (is ∙ ap (told_by at) same) in
    cc

-- only a reply that says that the update was accepted tells an answer
pub told_accepted : {M : Type 0} (at : List ℕ → Option (M × List ℕ)) (json : Bool) (answer : UpdateAnswer)
    (server : Addr) (job : JobId) (to : JobState) (m : M) → job.0 < 2 ^ 64 → IsAddr server
    → IsAnswer at (reply_text (update_reply json answer server job to)) (Ok m) → answer ≡ Accepted
told_accepted at json Accepted server job to m fits is told = refl
told_accepted at json Unknown server job to m fits is told =
    absurd (no_answer at (err_text (fault_text UnknownJob ∷ [])) m
    (one_text_short (fault_text UnknownJob) (omega arith)) told)
told_accepted at json Wrong server job to m fits is told =
    absurd (no_answer at (err_text (fault_text (WrongServer job server) ∷ [])) m
    (one_text_short (fault_text (WrongServer job server)) (wrong_short job server fits is)) told)
told_accepted at json (Transition from) server job to m fits is told =
    absurd (no_answer at (err_text (fault_text (BadTransition from to) ∷ [])) m
    (one_text_short (fault_text (BadTransition from to)) (change_short from to)) told)

-- ---- a 200 to it

no_fault : (body : List ℕ) (r : Reply) → length body ≤ 1073741824 → IsReply (reply_text (ServerError body)) r
    → r.code ≡ 200 → ⊥
no_fault body r low is ok =
    let same : r ≡ seen (ServerError body) = one_reply (reply_text (ServerError body)) r
    (seen (ServerError body)) is (read_back (ServerError body) low) in
    let e : ◌≡◌ {A = ℕ} 500 200 = sym (ap (λ (q : Reply). q.code) same) ∙ ok in
    omega (arith, e)

success_told : IsAnswer update_at (reply_text (update_response false Success)) (Ok Success)
unfolding told_by update_response
success_told =
    let body = update_text Success in
    let codec : update_at body ≡ Some (Success, []) = ap update_at (sym (append-nil body))
    ∙ update_codec.again Success body [] (omega arith, refl) in
    let read : IsReply (reply_text (Binary body)) (seen (Binary body)) =
    read_back (Binary body) (omega (arith, wide32.len 0)) in
    let told : told_by update_at (seen (Binary body)) ≡ Ok Success =
    ap (λ (o : Option (UpdateJobStateResult × List ℕ)). unless_none ParseError (option_map (λ p. p.0) o))
    codec in
    (Ok Success, inl (seen (Binary body), read, sym told), refl)

-- a 200 to a report begins with an answer
pub ok_answers : (answer : UpdateAnswer) (server : Addr) (job : JobId) (to : JobState) (r : Reply)
    → job.0 < 2 ^ 64 → IsAddr server
    → IsReply (reply_text (update_reply false answer server job to)) r → r.code ≡ 200
    → IsAnswer update_at (reply_text (update_reply false answer server job to)) (Ok Success)
ok_answers Accepted server job to r fits is reply ok = success_told
ok_answers Unknown server job to r fits is reply ok =
    absurd (no_fault (err_text (fault_text UnknownJob ∷ [])) r
    (one_text_short (fault_text UnknownJob) (omega arith)) reply ok)
ok_answers Wrong server job to r fits is reply ok =
    absurd (no_fault (err_text (fault_text (WrongServer job server) ∷ [])) r
    (one_text_short (fault_text (WrongServer job server)) (wrong_short job server fits is)) reply ok)
ok_answers (Transition from) server job to r fits is reply ok =
    absurd (no_fault (err_text (fault_text (BadTransition from to) ∷ [])) r
    (one_text_short (fault_text (BadTransition from to)) (change_short from to)) reply ok)
