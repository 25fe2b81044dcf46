-- What is done and replied, by entries.
use Rattle.std.proofs.Common.{◌≡◌, ◌≢◌, ℕ, Bool, true, false, List, Option, Some, None, Result, Ok, Err, refl}
use Rattle.std.proofs.Common.{inl, inr, sym, ap, ◌∙◌}
use Rattle.std.specs.Prelude.{IfOk, IfSome, if◌then◌else◌}
use Rattle.dist_types.specs.declared.addr.Addr.{Addr}
use Rattle.dist_types.specs.declared.ids.JobId.{JobId}
use Rattle.dist_types.specs.declared.outgoing.CallFault.{CallFault}
use Rattle.dist_types.specs.declared.outgoing.CallFault.TheVariants as outgoing
use Rattle.dist_types.specs.declared.results.AllocJobResult.{AllocJobResult}
use Rattle.dist_types.specs.declared.results.AssignJobResult.{AssignJobResult}
use Rattle.dist_types.specs.declared.results.HeartbeatServerResult.{HeartbeatServerResult}
use Rattle.dist_types.specs.declared.results.JobState.{JobState}
use Rattle.dist_types.specs.declared.results.SchedulerStatusResult.{SchedulerStatusResult}
use Rattle.dist_types.specs.declared.results.UpdateJobStateResult.{UpdateJobStateResult}
use Rattle.dist_wire.specs.declared.drain.DrainServerHttpRequest.{DrainServerHttpRequest}
use Rattle.dist_wire.specs.declared.heartbeat.HeartbeatServerHttpRequest.{HeartbeatServerHttpRequest}
use Rattle.core_rules.specs.Answers.{undone_by}
use Rattle.core_rules.specs.Log.{Core}
use Rattle.core_rules.specs.Ticket.{Ticket}
use Rattle.core_rules.specs.declared.call.Call.{Call}
use Rattle.core_rules.specs.declared.call.Call.TheVariants as call
use Rattle.core_rules.specs.declared.entry.CoreEntry.{CoreEntry}
use Rattle.core_rules.specs.declared.entry.CoreKind.{CoreKind}
use Rattle.core_rules.specs.declared.entry.CoreKind.TheVariants as core
use Rattle.core_rules.specs.declared.entry.Reserved.TheVariants.{Job, NoRoom, Spent}
use Rattle.core_rules.specs.declared.error.SchedError.TheVariants as error
use Rattle.sched_core.specs.Picked.{IsPicked}
use Rattle.sched_core.specs.declared.answers.Picked.{Picked}
use Rattle.sched_core.specs.declared.answers.Picked.TheVariants as picked
use Rattle.scheduler_steps.specs.Settling.{judged, settled_by, Answers}
use Rattle.scheduler_steps.specs.Step.{Gives}
use Rattle.scheduler_steps.specs.Telling.{hears, TellsReserve, TellsHeard, RefusesHeard, TellsReported}
use Rattle.scheduler_steps.specs.Telling.{TellsCounted, TellsDrained, WantsMemory}
use Rattle.scheduler_steps.specs.declared.fault.SchedFault.{SchedFault}
use Rattle.scheduler_steps.specs.declared.fault.SchedFault.TheVariants as sched
use Rattle.scheduler_steps.specs.declared.settled.Settled.{Settled}
use Rattle.scheduler_steps.specs.declared.settled.Settled.TheVariants.{Failed}
use Rattle.scheduler_replies.specs.ByEntry.{reserve_reply, RepliesAt}
use Rattle.scheduler_replies.specs.Replies.{told_fault, Replies}
use Rattle.scheduler_replies.proofs.ReplyLemmas.{heard_at, reported_at, counted_at, drained_at, full_at}
use Rattle.scheduler_replies.proofs.ReplyLemmas.{spent_at, settled_at, told_err}
use Rattle.http_routes.specs.Replies.{alloc_response}
use Rattle.http_routes.specs.declared.reply.Response.{Response}
use Rattle.http_routes.specs.declared.route.SchedRouted.{SchedRouted}
use Rattle.http_routes.specs.declared.route.SchedRouted.TheVariants as asked
use Rattle.http_connections.specs.Served.{MadeReply}
use Rattle.sched.specs.Course.{GoesOn}
use Rattle.sched.specs.Outside.{Moments, Requests}
use Rattle.sched.specs.Pass.{Adds}
use Rattle.sched.specs.Turn.{IsTurn, IsCallAt, core_before}
use Rattle.scheduler_service.specs.ByEntries.{IsRuled, IsAnswered, IsDoneAt}
use Rattle.scheduler_service.specs.Replied.{Means, AsksNobody, requests_over, job_token, IsDone}
use Rattle.scheduler_service.specs.Requested.{IsAskedFor}

if_true : {X : Type 0} (b : Bool) (x y : X) → b ≡ true → (if b then x else y) ≡ x
if_true true x y is = refl
if_true false x y is = absurd cc

if_made : (made : MadeReply) (P Q : Response → Type 0) → ((r : Response) → P r → Q r) → IfOk made P → IfOk
    made Q
if_made (Ok r) P Q all p = all r p
if_made (Err e) P Q all p = tt

some_is_not_none : {X : Type 0} (x : X) → ◌≢◌ {A = Option X} (Some x) None
some_is_not_none x = λ is. absurd cc

-- ---- the entry of one turn

ruled_beat : (json : Bool) (server : Addr) (beat : HeartbeatServerHttpRequest) (now : ℕ) (s : Core)
    (made : Option CoreEntry) (answer : Result HeartbeatServerResult SchedFault)
    → Gives (call.Beat now server beat.server_nonce beat.num_cpus beat.jwt_key) (TellsHeard beat.num_cpus)
    (RefusesHeard beat.num_cpus) s made answer
    → IfSome made (IsRuled json (asked.Beat server beat) now s)
ruled_beat json server beat now s (Some e) answer gives = record {
  asked = call.Beat now server beat.server_nonce beat.num_cpus beat.jwt_key;
  asked_is = if_true (hears beat.num_cpus) _ _ gives.1.0;
  is = gives.0;
  replies = some_is_not_none _;
}
ruled_beat json server beat now s None answer gives = tt

ruled_report : (json : Bool) (server : Addr) (job : JobId) (state : JobState) (now : ℕ) (s : Core)
    (made : Option CoreEntry) (answer : Result UpdateJobStateResult SchedFault)
    → Gives (call.Update now server job state) TellsReported WantsMemory s made answer
    → IfSome made (IsRuled json (asked.Update server job state) now s)
ruled_report json server job state now s (Some e) answer gives = record {
  asked = call.Update now server job state;
  asked_is = refl;
  is = gives.0;
  replies = some_is_not_none _;
}
ruled_report json server job state now s None answer gives = tt

ruled_status : (json : Bool) (now : ℕ) (s : Core) (made : Option CoreEntry)
    (answer : Result SchedulerStatusResult SchedFault)
    → Gives (call.Status now) TellsCounted WantsMemory s made answer
    → IfSome made (IsRuled json asked.Status now s)
ruled_status json now s (Some e) answer gives = record {
  asked = call.Status now;
  asked_is = refl;
  is = gives.0;
  replies = some_is_not_none _;
}
ruled_status json now s None answer gives = tt

ruled_drain : (json : Bool) (server : Addr) (drain : DrainServerHttpRequest) (now : ℕ) (s : Core)
    (made : Option CoreEntry) (answer : Result Bool SchedFault)
    → Gives (call.Drain now server drain.server_nonce drain.draining) TellsDrained WantsMemory s made answer
    → IfSome made (IsRuled json (asked.Drain server drain) now s)
ruled_drain json server drain now s (Some e) answer gives = record {
  asked = call.Drain now server drain.server_nonce drain.draining;
  asked_is = refl;
  is = gives.0;
  replies = some_is_not_none _;
}
ruled_drain json server drain now s None answer gives = tt

-- a reserve's entry that says that none has room
full_replies : {A : Type 0} (key_of : A → List ℕ) (token_for : A → ℕ → List ℕ) (json : Bool)
    (log : List CoreEntry) (k : CoreKind) (standing : ℕ)
    → IsPicked key_of token_for log k (picked.NoRoom standing) → reserve_reply json k ≢ None
full_replies key_of token_for json log (core.Reserve (NoRoom n)) standing is = some_is_not_none _
full_replies key_of token_for json log (core.Reserve (Job job reg forgiven)) standing is = absurd is
full_replies key_of token_for json log (core.Reserve Spent) standing is = absurd is
full_replies key_of token_for json log (core.Commit job state kept) standing is = absurd is
full_replies key_of token_for json log (core.Undo job noted ended) standing is = absurd is
full_replies key_of token_for json log (core.Beat server nonce cpus key pruned reaped replaced is_new)
    standing
    is = absurd is
full_replies key_of token_for json log (core.Update server job state answer) standing is = absurd is
full_replies key_of token_for json log (core.Status pruned servers cpus jobs) standing is = absurd is
full_replies key_of token_for json log (core.Drain server nonce on reg) standing is = absurd is

-- one that says that the ids are spent
spent_kind : {A : Type 0} (key_of : A → List ℕ) (token_for : A → ℕ → List ℕ) (s : Core) (e : CoreEntry)
    (f : SchedFault) → TellsReserve key_of token_for s e (Err f) → e.kind ≡ core.Reserve Spent
spent_kind key_of token_for s e (sched.Core error.IdsSpent) is = is
spent_kind key_of token_for s e (sched.Core (error.BadCpus cpus)) is = absurd is
spent_kind key_of token_for s e (sched.Core error.UnknownJob) is = absurd is
spent_kind key_of token_for s e (sched.Core error.WrongServer) is = absurd is
spent_kind key_of token_for s e (sched.Core (error.BadTransition from to)) is = absurd is
spent_kind key_of token_for s e (sched.Core error.Memory) is = absurd is
spent_kind key_of token_for s e (sched.AssignFailed u cause) is = absurd is
spent_kind key_of token_for s e sched.Memory is = absurd is

spent_replies : (json : Bool) (k : CoreKind) → k ≡ core.Reserve Spent → reserve_reply json k ≢ None
spent_replies json k is = rw is (some_is_not_none _)

ruled_reserve : (json : Bool) (tc : List ℕ) (now : ℕ) (s : Core) (made : Option CoreEntry)
    (answer : Result Picked SchedFault)
    → Gives (call.Reserve now) (TellsReserve (λ (key : List ℕ). key) job_token) WantsMemory s made answer
    → ((r : Ticket) → answer ≢ Ok (picked.Reserved r))
    → IfSome made (IsRuled json (asked.Alloc tc) now s)
ruled_reserve json tc now s None answer gives free = tt
ruled_reserve json tc now s (Some e) (Ok (picked.Reserved r)) gives free = absurd (free r refl)
ruled_reserve json tc now s (Some e) (Ok (picked.NoRoom standing)) gives free = record {
  asked = call.Reserve now;
  asked_is = refl;
  is = gives.0;
  replies = full_replies (λ (key : List ℕ). key) job_token json s.log e.kind standing gives.1;
}
ruled_reserve json tc now s (Some e) (Err f) gives free = record {
  asked = call.Reserve now;
  asked_is = refl;
  is = gives.0;
  replies = spent_replies json e.kind (spent_kind (λ (key : List ℕ). key) job_token s e f gives.1);
}

-- ---- one turn

turned : {X : Type 0} (json : Bool) (what : SchedRouted) (old new : Means) (made : MadeReply) (asks : ℕ →
    Call)
    (tells : Core → CoreEntry → X → Type 0) (refuses : Core → X → Type 0) (answer : X)
    (t : IsTurn asks tells refuses old.pass new.pass old.clock new.clock answer)
    → IfSome t.made (IsRuled json what t.step.now (core_before new.pass t.place)) → AsksNobody old new
    → IfOk made (RepliesAt json what t.step.now (core_before new.pass t.place) t.made)
    → IsAnswered json what old new made
turned json what old new made asks tells refuses answer t ruled unasked replies = record {
  now = t.step.now;
  read = t.step.read;
  place = t.place;
  entry = t.made;
  there = t.step.there;
  ruled = ruled;
  ends = t.ends;
  added = t.added;
  unasked = unasked;
  replies = replies;
}

-- ---- an allocation

asks_nobody : (name : ℕ) (old new : Means) → requests_over name new ≡ requests_over name old → AsksNobody
    old new
asks_nobody name old new is = record {
  asked = ap (λ (q : Requests). q.lent.asked) is;
  faults = ap (λ (q : Requests). q.faults) is;
}

fault_same : (f d : CallFault) → ◌≡◌ {A = Result AssignJobResult CallFault} (Err f) (Err d) → f ≡ d
fault_same f d is = cc

-- where there is a reply, memory did not run out while the server was heard
heard_whole : (json : Bool) (r : Ticket) (h : Result AssignJobResult CallFault) (kind : CoreKind)
    (settled : Settled) (answer : Result AllocJobResult SchedFault) (reply : Response)
    → settled ≡ settled_by r h kind → Answers settled answer → Replies (alloc_response json) told_fault
    answer reply
    → h ≢ Err outgoing.Memory
heard_whole json r (Ok taken) kind settled answer reply is told replied = λ e. absurd cc
heard_whole json r (Err f) kind settled answer reply is told replied = λ e.
    let same : f ≡ outgoing.Memory = fault_same f outgoing.Memory e in
    let gone : settled ≡ Failed (undone_by kind) outgoing.Memory =
    is ∙ ap (λ (c : CallFault). Failed (undone_by kind) c) same in
    let wants : answer ≡ Err sched.Memory = rw gone at told in
    told_err (alloc_response json) told_fault answer sched.Memory reply wants replied

allocation_at : (json : Bool) (tc : List ℕ) (old new : Means) (made : MadeReply) (name : ℕ)
    (answer : Result AllocJobResult SchedFault) (places : List ℕ) (chosen : Result Picked SchedFault)
    (ticking : Moments) (place : ℕ) (entry : Option CoreEntry)
    → Adds places old.pass new.pass
    → IsCallAt (λ now. call.Reserve now) (TellsReserve (λ (key : List ℕ). key) job_token) WantsMemory new.pass
    place entry old.clock ticking chosen
    → GoesOn IsAskedFor tc chosen place entry places new.pass ticking new.clock (requests_over name old)
    (requests_over name new) answer
    → IfOk made (Replies (alloc_response json) told_fault answer)
    → IsDoneAt json (asked.Alloc tc) old new made
allocation_at json tc old new made name answer places (Ok (picked.Reserved r)) ticking place None added step
    goes
    told = absurd (cc step.gives)
allocation_at json tc old new made name answer places (Ok (picked.Reserved r)) ticking place (Some e) added
    step
    goes told =
    let s = goes.step in
    inr (record {
      r = r;
      place = place;
      reserving = e;
      ticking = ticking;
      reserved = step;
      name = name;
      heard = goes.heard;
      called = goes.called;
      spent = goes.spent;
      spending = goes.spending;
      now = s.now;
      read = s.read;
      later = goes.later;
      there = s.there;
      own = s.gives.1.0;
      ruled = s.gives.0;
      ends = goes.ends;
      added = rw goes.places_are at added;
      replies = if_made made _ _
          (λ reply is. (
            heard_whole json r (judged goes.heard) goes.spending.kind goes.settled answer reply s.gives.1.1
                goes.told is,
            settled_at json r (judged goes.heard) s.now (core_before new.pass goes.spent) goes.spending
                goes.settled
                answer reply s.gives goes.told is,
          )) told;
    })
allocation_at json tc old new made name answer places (Ok (picked.NoRoom standing)) ticking place entry
    added step
    goes told =
    let core = core_before new.pass place in
    inl (record {
      now = step.now;
      read = rw (sym goes.0.unread) at step.read;
      place = place;
      entry = entry;
      there = step.there;
      ruled = ruled_reserve json tc step.now core entry (Ok (picked.NoRoom standing)) step.gives (λ r is.
          absurd cc);
      ends = goes.0.ends;
      added = rw goes.0.places_are at added;
      unasked = asks_nobody name old new goes.0.unasked;
      replies = if_made made _ _
          (λ reply is. full_at (λ (key : List ℕ). key) job_token json tc standing step.now core entry answer
          reply
          step.gives goes.1 is) told;
    })
allocation_at json tc old new made name answer places (Err fault) ticking place entry added step goes told =
    let core = core_before new.pass place in
    inl (record {
      now = step.now;
      read = rw (sym goes.0.unread) at step.read;
      place = place;
      entry = entry;
      there = step.there;
      ruled = ruled_reserve json tc step.now core entry (Err fault) step.gives (λ r is. absurd cc);
      ends = goes.0.ends;
      added = rw goes.0.places_are at added;
      unasked = asks_nobody name old new goes.0.unasked;
      replies = if_made made _ _
          (λ reply is. spent_at (λ (key : List ℕ). key) job_token json tc step.now core entry fault answer
          reply
          step.gives goes.1 is) told;
    })

-- ---- whatever is asked

pub done_at : (json : Bool) (what : SchedRouted) (old new : Means) (made : MadeReply) → IsDone json what old
    new made
    → IsDoneAt json what old new made
done_at json (asked.Alloc tc) old new made done =
    let a = done.1.allocated in
    allocation_at json tc old new made done.1.name done.0 a.places a.picked a.ticking a.place a.made a.added
    a.step
    a.follows done.2
done_at json (asked.Beat server beat) old new made done =
    let t = done.1 in
    let core = core_before new.pass t.place in
    turned json (asked.Beat server beat) old new made _ _ _ done.0 t
    (ruled_beat json server beat t.step.now core t.made done.0 t.step.gives) done.3
    (if_made made _ _
    (λ r told. heard_at json server beat t.step.now core t.made done.0 r t.step.gives told) done.2)
done_at json (asked.Update server job state) old new made done =
    let t = done.1 in
    let core = core_before new.pass t.place in
    turned json (asked.Update server job state) old new made _ _ _ done.0 t
    (ruled_report json server job state t.step.now core t.made done.0 t.step.gives) done.3
    (if_made made _ _
    (λ r told. reported_at json server job state t.step.now core t.made done.0 r t.step.gives told) done.2)
done_at json asked.Status old new made done =
    let t = done.1 in
    let core = core_before new.pass t.place in
    turned json asked.Status old new made _ _ _ done.0 t
    (ruled_status json t.step.now core t.made done.0 t.step.gives) done.3
    (if_made made _ _ (λ r told. counted_at json t.step.now core t.made done.0 r t.step.gives told) done.2)
done_at json (asked.Drain server drain) old new made done =
    let t = done.1 in
    let core = core_before new.pass t.place in
    turned json (asked.Drain server drain) old new made _ _ _ done.0 t
    (ruled_drain json server drain t.step.now core t.made done.0 t.step.gives) done.3
    (if_made made _ _
    (λ r told. drained_at json server drain t.step.now core t.made done.0 r t.step.gives told) done.2)
done_at json (asked.Done response) old new made done = done
