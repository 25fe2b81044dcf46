-- What a limit on a link or on a call can do to an answer.
use Rattle.std.proofs.Common.{◌≡◌, ◌≢◌, ◌⊎◌, ◌≤◌, ℕ, zero, suc, Bool, List, [], ◌∷◌, ◌++◌, drop, length}
use Rattle.std.proofs.Common.{append_assoc, append-nil, Option, Some, Result, Ok, Err, refl, sym, ap, ◌∙◌, subst}
use Rattle.std.proofs.Common.{inl, inr, arith}
use Rattle.std.specs.Prelude.{slice_get, ⊤}
use Rattle.dist_types.specs.Cause.{Rose}
use Rattle.dist_types.specs.Outgoing.{Peer}
use Rattle.dist_types.specs.declared.dialer.AskFault.{AskFault}
use Rattle.dist_types.specs.declared.dialer.AskFault.TheVariants as ask
use Rattle.dist_types.specs.declared.dialer.Asked.{Asked}
use Rattle.dist_types.specs.declared.fault.Memory as want
use Rattle.dist_types.specs.declared.ids.JobId.{JobId}
use Rattle.dist_types.specs.declared.outgoing.CallFault.TheVariants as call
use Rattle.dist_types.specs.declared.results.JobState.{JobState}
use Rattle.dist_types.specs.declared.results.JobState.TheVariants.{Ready, Started, Complete}
use Rattle.dist_types.specs.declared.results.RunJobResult.{RunJobResult}
use Rattle.dist_types.specs.declared.results.SubmitToolchainResult.{SubmitToolchainResult}
use Rattle.dist_types.specs.declared.token_error.TokenError.{TokenError}
use Rattle.dist_wire.specs.Reading.{update_at}
use Rattle.build_server.specs.Books.{Books}
use Rattle.build_server.specs.Builds.{Order, Builder, ended}
use Rattle.build_server.specs.Rows.{Reports, IsReported, Follows, Proceeds, Running, IsRunOn}
use Rattle.build_server.specs.Rules.{Update}
use Rattle.build_server.specs.declared.fault.ServerFault.{ServerFault}
use Rattle.build_server.specs.declared.fault.ServerFault.TheVariants as fault
use Rattle.build_server.specs.declared.run.Outcome.{Outcome}
use Rattle.build_server.specs.declared.run.Taken.{Taken}
use Rattle.http_head.specs.declared.request.Request.{Request}
use Rattle.http_routes.specs.Replies.{submit_response, run_response}
use Rattle.http_routes.specs.declared.reply.Response.{Response}
use Rattle.http_routes.specs.declared.server_route.ServerRouted.{ServerRouted}
use Rattle.http_routes.specs.declared.server_route.ServerRouted.TheVariants as asked
use Rattle.http_connections.specs.Form.{form_of}
use Rattle.http_connections.specs.Hearing.{Hears}
use Rattle.http_connections.specs.Served.{Shown, IsServedBy}
use Rattle.http_connections.specs.declared.served.Served.{Served}
use Rattle.http_connections.specs.declared.served.Served.TheVariants.{Answered, ReadFault, WriteFault, Memory}
use Rattle.http_connections.proofs.AlikeLemmas.{some_same, drop_front}
use Rattle.server_service.specs.OneAnswer.{MeetAlike, EndAlike, IsGivenUp, HasOneAnswer}
use Rattle.server_service.specs.Replied.{Means, Dialing, IsDone, IsReplied, IsRun, IsSubmitted, Does, Routing}
use Rattle.server_service.specs.Replied.{order_of, telling}
use Rattle.server_service.specs.Routed.{body_of}
use Rattle.server_service.specs.Told.{IsToldOf}
use Rattle.server_service.proofs.OneAnswerLemmas.{one_answer, one_route, told_some, ready_some}
use Rattle.server_service.proofs.OneRunLemmas.{told_row}

-- ---- links

pub limited : (verdict : ℕ → List ℕ → Result ⊤ TokenError) (peer : Peer) (bytes : List ℕ)
    (begun done begun_too done_too : Shown) (old new before after : Means) (served served_too : Served)
    → begun.left ≡ Some bytes → begun_too.left ≡ Some bytes
    → IsServedBy (IsReplied verdict peer) begun done old new served
    → IsServedBy (IsReplied verdict peer) begun_too done_too before after served_too
    → served ≢ Memory → served_too ≢ Memory → MeetAlike old new before after
    → IsGivenUp begun done ⊎ (IsGivenUp begun_too done_too
    ⊎ EndAlike (IsReplied verdict peer) begun done begun_too done_too old new before after)
limited verdict peer bytes begun done begun_too done_too old new before after Answered Answered is is_too a b
    room room_too meet =
    inr (inr (one_answer verdict peer bytes begun done begun_too done_too old new before after is is_too a b
    meet))
limited verdict peer bytes begun done begun_too done_too old new before after Answered ReadFault is is_too a b
    room room_too meet =
    inr (inl (inl b.serves.0))
limited verdict peer bytes begun done begun_too done_too old new before after Answered WriteFault is is_too a b
    room room_too meet =
    inr (inl (inr b.serves.0))
limited verdict peer bytes begun done begun_too done_too old new before after Answered Memory is is_too a b
    room room_too meet =
    absurd (room_too refl)
limited verdict peer bytes begun done begun_too done_too old new before after ReadFault served_too is is_too a b
    room room_too meet =
    inl (inl a.serves.0)
limited verdict peer bytes begun done begun_too done_too old new before after WriteFault served_too is is_too a b
    room room_too meet =
    inl (inr a.serves.0)
limited verdict peer bytes begun done begun_too done_too old new before after Memory served_too is is_too a b
    room room_too meet =
    absurd (room refl)

pub has_one : (verdict : ℕ → List ℕ → Result ⊤ TokenError) (peer : Peer) (begun done : Shown) (old new : Means)
    (served : Served) → IsServedBy (IsReplied verdict peer) begun done old new served
    → HasOneAnswer verdict peer begun done old new served
has_one verdict peer begun done old new served a = record {
  routed = λ bytes begun_too done_too before after is left left_too b.
      one_route verdict peer bytes begun done begun_too done_too old new before after left left_too
      (subst (λ v. IsServedBy (IsReplied verdict peer) begun done old new v) is a) b;
  alike = λ bytes begun_too done_too before after is left left_too b meet.
      one_answer verdict peer bytes begun done begun_too done_too old new before after left left_too
      (subst (λ v. IsServedBy (IsReplied verdict peer) begun done old new v) is a) b meet;
  limits = λ bytes begun_too done_too before after served_too left left_too b room room_too meet.
      limited verdict peer bytes begun done begun_too done_too old new before after served served_too left left_too a b
      room room_too meet;
}

-- ---- the new rows of a dialer

-- each of the rows that tells of a call that was given up is one of which the count rose
abbrev Counts : List Asked → ℕ → ℕ → Type 0
Counts rows before after = (row : Asked) (place : ℕ) → slice_get rows place ≡ Some row
    → row.answer ≡ Err ask.Failed → Rose before after

-- the record has so many rows more, and their calls are counted
record Adds (first : List Asked) (new : Option (List Asked)) (before after : ℕ) : Type 0 where
  more : List Asked
  now : new ≡ Some (first ++ more)
  counts : Counts more before after
  later : before ≤ after

adds_none : (first : List Asked) (old new : Option (List Asked)) (before after : ℕ) → old ≡ Some first → new ≡ old
    → after ≡ before → Adds first new before after
adds_none first old new before after is same count = record {
  more = [];
  now = same ∙ (is ∙ ap (λ (rows : List Asked). Some rows) (sym (append-nil first)));
  counts = λ row place at failed. absurd (cc at);
  later = omega (arith, count);
}

the_row : (x : Asked) (place : ℕ) (row : Asked) → slice_get (x ∷ []) place ≡ Some row → x ≡ row
the_row x zero row is = some_same x row is
the_row x (suc place) row is = absurd (cc is)

lost_heard : (heard : Update) (answer : Result (List ℕ) AskFault) → answer ≡ Err ask.Failed
    → Hears update_at answer heard → heard ≡ Err call.Lost
lost_heard heard answer is hears = subst (λ a. Hears update_at a heard) is hears

-- one report is one row
adds_one : (peer : Peer) (job : JobId) (state : JobState) (heard : Update) (old new : Reports) (rows : List Asked)
    → IsReported IsToldOf job state heard old new → heard ≢ Err call.Memory
    → old.lent.peer ≡ peer → old.lent.asked ≡ Some rows
    → Adds rows new.lent.asked old.faults new.faults × (new.lent.peer ≡ peer)
adds_one peer job state heard old new rows reported some is is_rows =
    let x = told_row peer job state heard old new rows reported some is is_rows in (
      record {
        more = x.0 ∷ [];
        now = x.1;
        counts = λ row place at failed.
            reported.cause (lost_heard heard x.0.answer
            (ap (λ (a : Asked). a.answer) (the_row x.0 place row at) ∙ failed) x.2.answer);
        later = reported.later;
      },
      x.3,
    )

-- a row stands among the first rows or among those behind them
abbrev Stands : List Asked → Asked → Type 0
Stands rows row = (place : ℕ) × (slice_get rows place ≡ Some row)

one_on : (x : Asked) (xs ys : List Asked) (row : Asked) → Stands xs row ⊎ Stands ys row
    → Stands (x ∷ xs) row ⊎ Stands ys row
one_on x xs ys row (inl at) = inl (suc at.0, at.1)
one_on x xs ys row (inr at) = inr at

in_either : (xs ys : List Asked) (place : ℕ) (row : Asked) → slice_get (xs ++ ys) place ≡ Some row
    → Stands xs row ⊎ Stands ys row
in_either [] ys place row is = inr (place, is)
in_either (x ∷ xs) ys zero row is = inl (zero, is)
in_either (x ∷ xs) ys (suc place) row is = one_on x xs ys row (in_either xs ys place row is)

rose_either : (xs ys : List Asked) (before between after : ℕ) → Counts xs before between → Counts ys between after
    → before ≤ between → between ≤ after → (row : Asked) → row.answer ≡ Err ask.Failed
    → Stands xs row ⊎ Stands ys row → Rose before after
rose_either xs ys before between after a b le later row failed (inl at) =
    omega (arith, a row at.0 at.1 failed, later)
rose_either xs ys before between after a b le later row failed (inr at) =
    omega (arith, b row at.0 at.1 failed, le)

adds_both : (first : List Asked) (mid new : Option (List Asked)) (before between after : ℕ)
    → (a : Adds first mid before between) → Adds (first ++ a.more) new between after
    → Adds first new before after
adds_both first mid new before between after a b = record {
  more = a.more ++ b.more;
  now = b.now ∙ ap (λ (rows : List Asked). Some rows) (append_assoc first a.more b.more);
  counts = λ row place at failed.
      rose_either a.more b.more before between after a.counts b.counts a.later b.later row failed
      (in_either a.more b.more place row at);
  later = omega (arith, a.later, b.later);
}

-- ---- submitting and running

adds_same : (old new : Reports) (rows : List Asked) → old.lent.asked ≡ Some rows → new ≡ old
    → Adds rows new.lent.asked old.faults new.faults
adds_same old new rows is same =
    adds_none rows old.lent.asked new.lent.asked old.faults new.faults is
    (ap (λ (r : Reports). r.lent.asked) same) (ap (λ (r : Reports). r.faults) same)

submit_adds : (peer : Peer) (job : JobId) (body : List ℕ) (kept turned : Option Books) (old new : Dialing)
    (answer : Result SubmitToolchainResult ServerFault) (rows : List Asked)
    → IsSubmitted peer job body kept turned old new answer → answer ≢ Err fault.Memory → old.asked ≡ Some rows
    → Adds rows new.asked old.faults new.faults
submit_adds peer job body kept turned old new answer rows a some is =
    let p = a.submitted in
    (adds_one peer job Ready p.ready (telling a.name peer old) (telling a.name peer new) rows p.reported
    (ready_some job p.ready kept turned (record { left = Some body; faults = 0 })
    (record { left = a.left; faults = 0 }) answer p.submitting some) refl is).0

follows_adds : (peer : Peer) (job : JobId) (went : Result Outcome (Taken × want.Memory)) (old new : Reports)
    (answer : Result RunJobResult ServerFault) (rows : List Asked)
    → Follows IsToldOf job went old new answer → answer ≢ Err fault.Memory
    → old.lent.peer ≡ peer → old.lent.asked ≡ Some rows
    → Adds rows new.lent.asked old.faults new.faults
follows_adds peer job (Ok outcome) old new answer rows f some is_peer is =
    (adds_one peer job Complete f.complete old new rows f.reported
    (λ off. some (f.gives ∙ ap (ended outcome) off)) is_peer is).0
follows_adds peer job (Err e) old new answer rows f some is_peer is = absurd (some f.0)

proceeds_adds : (peer : Peer) (job : JobId) (order : Order) (begun : Result Taken ServerFault) (old new : Reports)
    (builder built : Builder) (answer : Result RunJobResult ServerFault) (rows : List Asked)
    → Proceeds IsToldOf job order begun old new builder built answer → answer ≢ Err fault.Memory
    → old.lent.peer ≡ peer → old.lent.asked ≡ Some rows
    → Adds rows new.lent.asked old.faults new.faults
proceeds_adds peer job order (Ok taken) old new builder built answer rows p some is_peer is =
    follows_adds peer job p.went old new answer rows p.follows some is_peer is
proceeds_adds peer job order (Err e) old new builder built answer rows p some is_peer is =
    adds_same old new rows is p.1

running_adds : (peer : Peer) (job : JobId) (order : Order) (started : Update) (kept turned : Option Books)
    (old new : Reports) (builder built : Builder) (answer : Result RunJobResult ServerFault) (rows : List Asked)
    → Running IsToldOf job order started kept turned old new builder built answer → answer ≢ Err fault.Memory
    → old.lent.peer ≡ peer → old.lent.asked ≡ Some rows
    → Adds rows new.lent.asked old.faults new.faults
running_adds peer job order (Ok x) kept turned old new builder built answer rows r some is_peer is =
    proceeds_adds peer job order r.begun old new builder built answer rows r.proceeds some is_peer is
running_adds peer job order (Err e) kept turned old new builder built answer rows r some is_peer is =
    adds_same old new rows is r.2

run_adds : (peer : Peer) (job : JobId) (order : Order) (old new : Means)
    (answer : Result RunJobResult ServerFault) (rows : List Asked)
    → IsRun peer job order old new answer → answer ≢ Err fault.Memory → old.dialing.asked ≡ Some rows
    → Adds rows new.dialing.asked old.dialing.faults new.dialing.faults
run_adds peer job order old new answer rows a some is =
    let ran = a.ran in
    let before = telling a.name peer old.dialing in
    let after = telling a.name peer new.dialing in
    let heard : ran.started ≢ Err call.Memory = λ off. some (subst (λ u. Running IsToldOf job order u old.kept
    new.kept ran.between after old.builder new.builder answer) off ran.running).0 in
    let one = adds_one peer job Started ran.started before ran.between rows ran.reported heard refl is in
    adds_both rows ran.between.lent.asked after.lent.asked before.faults ran.between.faults after.faults one.0
    (running_adds peer job order ran.started old.kept new.kept ran.between after old.builder new.builder answer
    (rows ++ one.0.more) ran.running some one.1 one.0.now)

-- ---- what is asked

stays_adds : (old new : Dialing) (rows : List Asked) → old.asked ≡ Some rows → new ≡ old
    → Adds rows new.asked old.faults new.faults
stays_adds old new rows is same = adds_none rows old.asked new.asked old.faults new.faults is
    (ap (λ (d : Dialing). d.asked) same) (ap (λ (d : Dialing). d.faults) same)

done_adds : (peer : Peer) (json : Bool) (body : List ℕ) (what : ServerRouted) (old new : Means) (reply : Response)
    (rows : List Asked) → IsDone peer json body what old new (Ok reply) → old.dialing.asked ≡ Some rows
    → Adds rows new.dialing.asked old.dialing.faults new.dialing.faults
done_adds peer json body (asked.Assign job tc) old new reply rows done is =
    stays_adds old.dialing new.dialing rows is done.1
done_adds peer json body (asked.Submit job) old new reply rows done is =
    submit_adds peer job body old.kept new.kept old.dialing new.dialing done.0.answer rows done.0.submitted
    (told_some (submit_response json) done.0.answer reply done.0.told) is
done_adds peer json body (asked.Run job run at) old new reply rows done is =
    run_adds peer job (order_of run body at) old new done.answer rows done.ran
    (told_some (run_response json) done.answer reply done.told) is
done_adds peer json body (asked.Done response) old new reply rows done is =
    stays_adds old.dialing new.dialing rows is (ap (λ (m : Means). m.dialing) done.1)

does_adds : (peer : Peer) (json : Bool) (body : List ℕ) (routing : Routing) (old new : Means) (reply : Response)
    (rows : List Asked) → Does peer json body routing old new (Ok reply) → old.dialing.asked ≡ Some rows
    → Adds rows new.dialing.asked old.dialing.faults new.dialing.faults
does_adds peer json body (Ok what) old new reply rows done is = done_adds peer json body what old new reply rows
    done is
does_adds peer json body (Err e) old new reply rows done is = absurd (cc done.0)

pub lost : (verdict : ℕ → List ℕ → Result ⊤ TokenError) (peer : Peer) (request : Option Request)
    (reply : Response) (old new : Means) (first last : List Asked) (row : Asked) (place : ℕ)
    → IsReplied verdict peer request old new (Ok reply)
    → old.dialing.asked ≡ Some first → new.dialing.asked ≡ Some last
    → slice_get (drop (length first) last) place ≡ Some row → row.answer ≡ Err ask.Failed
    → Rose old.dialing.faults new.dialing.faults
lost verdict peer request reply old new first last row place replied is new_is at failed =
    let adds = does_adds peer (form_of request) (body_of request) replied.routing old new reply first replied.done
    is in
    let rows = ap (drop (length first)) (some_same last (first ++ adds.more) (sym new_is ∙ adds.now))
    ∙ drop_front first adds.more in
    adds.counts row place (subst (λ l. slice_get l place ≡ Some row) rows at) failed
