-- What a reply says, by the entry of its step.
use Rattle.std.proofs.Common.{◌≡◌, ℕ, Bool, true, false, List, Option, Some, None, Result, Ok, Err, refl, sym, ap, ◌∙◌, inl, inr}
use Rattle.std.specs.Prelude.{if◌then◌else◌}
use Rattle.dist_types.specs.declared.addr.Addr.{Addr}
use Rattle.dist_types.specs.declared.ids.JobId.{JobId}
use Rattle.dist_types.specs.declared.outgoing.CallFault.{CallFault}
use Rattle.dist_types.specs.declared.outgoing.CallFault.TheVariants as outgoing
use Rattle.dist_types.specs.declared.results.AllocJobResult.{AllocJobResult}
use Rattle.dist_types.specs.declared.results.AllocJobResult.TheVariants as alloc
use Rattle.dist_types.specs.declared.results.AssignJobResult.{AssignJobResult}
use Rattle.dist_types.specs.declared.results.HeartbeatServerResult.{HeartbeatServerResult}
use Rattle.dist_types.specs.declared.results.JobState.{JobState}
use Rattle.dist_types.specs.declared.results.SchedulerStatusResult.{SchedulerStatusResult}
use Rattle.dist_types.specs.declared.results.UpdateJobStateResult.{UpdateJobStateResult}
use Rattle.core_rules.specs.Answers.{committed_by, undone_by, verdict}
use Rattle.sched_core.specs.Picked.{IsPicked}
use Rattle.core_rules.specs.Log.{Core}
use Rattle.core_rules.specs.Rule.{rule, says_new_entry, counts_of, knows_of}
use Rattle.core_rules.specs.Texts.{no_room_text}
use Rattle.core_rules.specs.Ticket.{Ticket}
use Rattle.core_rules.specs.declared.answers.Committed.{Committed}
use Rattle.core_rules.specs.declared.answers.Committed.TheVariants as committed
use Rattle.sched_core.specs.declared.answers.Picked.{Picked}
use Rattle.sched_core.specs.declared.answers.Picked.TheVariants as picked
use Rattle.core_rules.specs.declared.answers.Undone.{Undone}
use Rattle.core_rules.specs.declared.call.Call.TheVariants as call
use Rattle.core_rules.specs.declared.entry.CoreEntry.{CoreEntry}
use Rattle.core_rules.specs.declared.entry.CoreKind.{CoreKind}
use Rattle.core_rules.specs.declared.entry.CoreKind.TheVariants as core
use Rattle.core_rules.specs.declared.entry.Reserved.TheVariants.{Job, NoRoom, Spent}
use Rattle.core_rules.specs.declared.entry.UpdateAnswer.{UpdateAnswer}
use Rattle.core_rules.specs.declared.entry.UpdateAnswer.TheVariants.{Accepted, Unknown, Wrong, Transition}
use Rattle.core_rules.specs.declared.error.SchedError.TheVariants as error
use Rattle.scheduler_steps.specs.Faults.{faulted, fault_after}
use Rattle.scheduler_steps.specs.Settling.{spend_call, settled_by, TellsSettle, RefusesSettle, FailsWith, Answers}
use Rattle.scheduler_steps.specs.Step.{Gives}
use Rattle.scheduler_steps.specs.Telling.{hears, reported_by, TellsReserve, TellsHeard, RefusesHeard}
use Rattle.scheduler_steps.specs.Telling.{TellsReported, TellsCounted, TellsDrained, WantsMemory}
use Rattle.scheduler_steps.specs.declared.fault.SchedFault.{SchedFault}
use Rattle.scheduler_steps.specs.declared.fault.SchedFault.TheVariants as sched
use Rattle.scheduler_steps.specs.declared.settled.Settled.{Settled}
use Rattle.scheduler_steps.specs.declared.settled.Settled.TheVariants.{Taken}
use Rattle.http_routes.specs.Fault.{fault_response_of}
use Rattle.http_routes.specs.Replies.{heard_response, status_response, alloc_response, update_response}
use Rattle.http_routes.specs.Replies.{update_reply, commit_response, drained_response}
use Rattle.scheduler_replies.specs.ByEntry.{update_by, settled_reply, RepliesAt}
use Rattle.scheduler_replies.specs.Replies.{told_fault, report_fault, IsTold, Replies}
use Rattle.http_routes.specs.declared.reply.Response.{Response}
use Rattle.http_routes.specs.declared.fault.RouteFault.{RouteFault}
use Rattle.http_routes.specs.declared.fault.RouteFault.TheVariants as fault
use Rattle.dist_wire.specs.declared.drain.DrainServerHttpRequest.{DrainServerHttpRequest}
use Rattle.dist_wire.specs.declared.heartbeat.HeartbeatServerHttpRequest.{HeartbeatServerHttpRequest}
use Rattle.http_routes.specs.declared.route.SchedRouted.TheVariants as asked

-- ---- a reply, by what is answered

if_true : {X : Type 0} (b : Bool) (x y : X) → b ≡ true → (if b then x else y) ≡ x
if_true true x y is = refl
if_true false x y is = absurd cc

if_false : {X : Type 0} (b : Bool) (x y : X) → b ≡ false → (if b then x else y) ≡ y
if_false true x y is = absurd cc
if_false false x y is = refl

told_ok : {X : Type 0} (message : X → Response) (f : SchedFault → Option RouteFault) (answer : Result X SchedFault)
    (x : X) (response : Response) → answer ≡ Ok x → Replies message f answer response → response ≡ message x
told_ok message f (Ok y) x response is told = told ∙ ap message cc
told_ok message f (Err e) x response is told = absurd cc

pub told_err : {X : Type 0} (message : X → Response) (f : SchedFault → Option RouteFault) (answer : Result X SchedFault)
    (e : SchedFault) (response : Response) → answer ≡ Err e → Replies message f answer response
    → IsTold (f e) response
told_err message f (Ok y) e response is told = absurd cc
told_err message f (Err d) e response is told = let same : e ≡ d = cc in rw same told

-- ---- heartbeats

refused_heard : (b : Bool) (json : Bool) (cpus : ℕ) (answer : Result HeartbeatServerResult SchedFault)
    (response : Response)
    → answer ≡ Err (if b then sched.Memory else sched.Core (error.BadCpus cpus))
    → Replies (heard_response json) told_fault answer response
    → (b ≡ false) × (response ≡ fault_response_of (fault.BadCpus cpus))
refused_heard true json cpus answer response is told =
    absurd (told_err (heard_response json) told_fault answer sched.Memory response is told)
refused_heard false json cpus answer response is told =
    (refl, told_err (heard_response json) told_fault answer (sched.Core (error.BadCpus cpus)) response is told)

pub heard_at : (json : Bool) (server : Addr) (beat : HeartbeatServerHttpRequest) (now : ℕ) (s : Core)
    (made : Option CoreEntry) (answer : Result HeartbeatServerResult SchedFault) (response : Response)
    → Gives (call.Beat now server beat.server_nonce beat.num_cpus beat.jwt_key) (TellsHeard beat.num_cpus) (RefusesHeard beat.num_cpus)
    s made answer
    → Replies (heard_response json) told_fault answer response
    → RepliesAt json (asked.Beat server beat) now s made response
heard_at json server beat now s (Some e) answer response gives told =
    let is = told_ok (heard_response json) told_fault answer (record { is_new = says_new_entry e }) response
    gives.1.1 told in (
      call.Beat now server beat.server_nonce beat.num_cpus beat.jwt_key,
      if_true (hears beat.num_cpus) _ _ gives.1.0,
      gives.0,
      ap (λ (r : Response). Some r) (sym is),
    )
heard_at json server beat now s None answer response gives told =
    let is = refused_heard (hears beat.num_cpus) json beat.num_cpus answer response gives told in
    (if_false (hears beat.num_cpus) _ _ is.0, ap (λ (r : Response). Some r) (sym is.1))

-- ---- reports

pub report_told : (a : UpdateAnswer) (json : Bool) (server : Addr) (job : JobId) (state : JobState)
    (answer : Result UpdateJobStateResult SchedFault) (response : Response)
    → answer ≡ faulted (verdict a state)
    → Replies (update_response json) (report_fault server job) answer response
    → response ≡ update_reply json a server job state
report_told Accepted json server job state answer response is told =
    told_ok (update_response json) (report_fault server job) answer _ response is told
report_told Unknown json server job state answer response is told =
    told_err (update_response json) (report_fault server job) answer (sched.Core error.UnknownJob) response is
    told
report_told Wrong json server job state answer response is told =
    told_err (update_response json) (report_fault server job) answer (sched.Core error.WrongServer) response is
    told
report_told (Transition from) json server job state answer response is told =
    told_err (update_response json) (report_fault server job) answer
    (sched.Core (error.BadTransition from state)) response is told

pub reported_at : (json : Bool) (server : Addr) (job : JobId) (state : JobState) (now : ℕ) (s : Core)
    (made : Option CoreEntry) (answer : Result UpdateJobStateResult SchedFault) (response : Response)
    → Gives (call.Update now server job state) TellsReported WantsMemory s made answer
    → Replies (update_response json) (report_fault server job) answer response
    → RepliesAt json (asked.Update server job state) now s made response
reported_at json server job state now s (Some e) answer response gives told =
    let a = update_by (rule s (call.Update now server job state)).kind in
    let is = report_told a json server job state answer response (gives.1 ∙ ap reported_by gives.0) told in (
      call.Update now server job state,
      refl,
      gives.0,
      ap (λ (m : CoreEntry). Some (update_reply json (update_by m.kind) server job state)) gives.0
          ∙ ap (λ (r : Response). Some r) (sym is),
    )
reported_at json server job state now s None answer response gives told =
    absurd (told_err (update_response json) (report_fault server job) answer sched.Memory response gives told)

-- ---- status requests

pub counted_at : (json : Bool) (now : ℕ) (s : Core) (made : Option CoreEntry)
    (answer : Result SchedulerStatusResult SchedFault) (response : Response)
    → Gives (call.Status now) TellsCounted WantsMemory s made answer
    → Replies (status_response json) told_fault answer response
    → RepliesAt json asked.Status now s made response
counted_at json now s (Some e) answer response gives told =
    let is = told_ok (status_response json) told_fault answer (counts_of e) response gives.1 told in
    (call.Status now, refl, gives.0, ap (λ (r : Response). Some r) (sym is))
counted_at json now s None answer response gives told =
    absurd (told_err (status_response json) told_fault answer sched.Memory response gives told)

-- ---- drains

pub drained_at : (json : Bool) (server : Addr) (drain : DrainServerHttpRequest) (now : ℕ) (s : Core)
    (made : Option CoreEntry) (answer : Result Bool SchedFault) (response : Response)
    → Gives (call.Drain now server drain.server_nonce drain.draining) TellsDrained WantsMemory s made answer
    → Replies (drained_response json) told_fault answer response
    → RepliesAt json (asked.Drain server drain) now s made response
drained_at json server drain now s (Some e) answer response gives told =
    let is = told_ok (drained_response json) told_fault answer (knows_of e) response gives.1 told in (
      call.Drain now server drain.server_nonce drain.draining,
      refl,
      gives.0,
      ap (λ (r : Response). Some r) (sym is),
    )
drained_at json server drain now s None answer response gives told =
    absurd (told_err (drained_response json) told_fault answer sched.Memory response gives told)

-- ---- allocations

-- no job with this text, as it is replied
failed_told : (json : Bool) (text : List ℕ) (answer : Result AllocJobResult SchedFault) (response : Response)
    → FailsWith text answer → Replies (alloc_response json) told_fault answer response
    → response ≡ alloc_response json (alloc.Fail text)
failed_told json text answer response (inl is) told =
    told_ok (alloc_response json) told_fault answer (alloc.Fail text) response is told
failed_told json text answer response (inr is) told =
    absurd (told_err (alloc_response json) told_fault answer sched.Memory response is told)

-- the kind of a reserve's entry, by what was picked
full_kind : {A : Type 0} (key_of : A → List ℕ) (token_for : A → ℕ → List ℕ) (log : List CoreEntry)
    (k : CoreKind) (standing : ℕ) → IsPicked key_of token_for log k (picked.NoRoom standing)
    → k ≡ core.Reserve (NoRoom standing)
full_kind key_of token_for log (core.Reserve (NoRoom n)) standing is =
    ap (λ (m : ℕ). core.Reserve (NoRoom m)) (sym is)
full_kind key_of token_for log (core.Reserve (Job job reg forgiven)) standing is = absurd is
full_kind key_of token_for log (core.Reserve Spent) standing is = absurd is
full_kind key_of token_for log (core.Commit job state kept) standing is = absurd is
full_kind key_of token_for log (core.Undo job noted ended) standing is = absurd is
full_kind key_of token_for log (core.Beat server nonce cpus key pruned reaped replaced is_new) standing is =
    absurd is
full_kind key_of token_for log (core.Update server job state answer) standing is = absurd is
full_kind key_of token_for log (core.Status pruned servers cpus jobs) standing is = absurd is
full_kind key_of token_for log (core.Drain server nonce on reg) standing is = absurd is

pub full_at : {A : Type 0} (key_of : A → List ℕ) (token_for : A → ℕ → List ℕ) (json : Bool) (tc : List ℕ)
    (standing now : ℕ) (s : Core) (made : Option CoreEntry) (answer : Result AllocJobResult SchedFault)
    (response : Response)
    → Gives (call.Reserve now) (TellsReserve key_of token_for) WantsMemory s made (Ok (picked.NoRoom standing))
    → FailsWith (no_room_text standing) answer → Replies (alloc_response json) told_fault answer response
    → RepliesAt json (asked.Alloc tc) now s made response
full_at key_of token_for json tc standing now s (Some e) answer response gives fails told = (
  call.Reserve now,
  refl,
  gives.0,
  rw (full_kind key_of token_for s.log e.kind standing gives.1)
      (ap (λ (r : Response). Some r)
      (sym (failed_told json (no_room_text standing) answer response fails told))),
)
full_at key_of token_for json tc standing now s None answer response gives fails told = absurd cc

-- a reserve that is refused and logged: the ids are spent
spent_by : {A : Type 0} (key_of : A → List ℕ) (token_for : A → ℕ → List ℕ) (s : Core) (e : CoreEntry)
    (f : SchedFault) → TellsReserve key_of token_for s e (Err f)
    → (f ≡ sched.Core error.IdsSpent) × (e.kind ≡ core.Reserve Spent)
spent_by key_of token_for s e (sched.Core error.IdsSpent) is = (refl, is)
spent_by key_of token_for s e (sched.Core (error.BadCpus cpus)) is = absurd is
spent_by key_of token_for s e (sched.Core error.UnknownJob) is = absurd is
spent_by key_of token_for s e (sched.Core error.WrongServer) is = absurd is
spent_by key_of token_for s e (sched.Core (error.BadTransition from to)) is = absurd is
spent_by key_of token_for s e (sched.Core error.Memory) is = absurd is
spent_by key_of token_for s e (sched.AssignFailed u cause) is = absurd is
spent_by key_of token_for s e sched.Memory is = absurd is

fault_same : (f d : SchedFault) → ◌≡◌ {A = Result Picked SchedFault} (Err f) (Err d) → f ≡ d
fault_same f d is = cc

pub spent_at : {A : Type 0} (key_of : A → List ℕ) (token_for : A → ℕ → List ℕ) (json : Bool) (tc : List ℕ)
    (now : ℕ) (s : Core) (made : Option CoreEntry) (f : SchedFault)
    (answer : Result AllocJobResult SchedFault) (response : Response)
    → Gives (call.Reserve now) (TellsReserve key_of token_for) WantsMemory s made (Err f) → answer ≡ Err f
    → Replies (alloc_response json) told_fault answer response
    → RepliesAt json (asked.Alloc tc) now s made response
spent_at key_of token_for json tc now s (Some e) f answer response gives is told =
    let spent = spent_by key_of token_for s e f gives.1 in
    let told : response ≡ fault_response_of fault.IdsSpent = told_err (alloc_response json) told_fault answer
    (sched.Core error.IdsSpent) response (is ∙ ap (λ (x : SchedFault). Err x) spent.0) told in (
      call.Reserve now,
      refl,
      gives.0,
      rw spent.1 (ap (λ (r : Response). Some r) (sym told)),
    )
spent_at key_of token_for json tc now s None f answer response gives is told =
    let same : f ≡ sched.Memory = fault_same f sched.Memory gives in
    absurd (told_err (alloc_response json) told_fault answer sched.Memory response
    (is ∙ ap (λ (x : SchedFault). Err x) same) told)

-- ---- settlements

fault_told : (json : Bool) (u : Undone) (cause : CallFault) (answer : Result AllocJobResult SchedFault)
    (response : Response) → answer ≡ Err (fault_after u cause)
    → Replies (alloc_response json) told_fault answer response
    → response ≡ fault_response_of (fault.AssignFailed u cause)
fault_told json u outgoing.Lost answer response is told =
    told_err (alloc_response json) told_fault answer (sched.AssignFailed u outgoing.Lost) response is told
fault_told json u (outgoing.Status code) answer response is told =
    told_err (alloc_response json) told_fault answer (sched.AssignFailed u (outgoing.Status code)) response is
    told
fault_told json u outgoing.Unreadable answer response is told =
    told_err (alloc_response json) told_fault answer (sched.AssignFailed u outgoing.Unreadable) response is told
fault_told json u (outgoing.BadState state) answer response is told =
    told_err (alloc_response json) told_fault answer (sched.AssignFailed u (outgoing.BadState state)) response
    is told
fault_told json u outgoing.Memory answer response is told =
    absurd (told_err (alloc_response json) told_fault answer sched.Memory response is told)

taken_told : (json need : Bool) (c : Committed) (answer : Result AllocJobResult SchedFault) (response : Response)
    → Answers (Taken c need) answer → Replies (alloc_response json) told_fault answer response
    → response ≡ commit_response json need c
taken_told json need (committed.Kept job_alloc) answer response is told =
    told_ok (alloc_response json) told_fault answer (alloc.Success job_alloc need) response is told
taken_told json need (committed.Dropped job) answer response is told =
    failed_told json _ answer response is told
taken_told json need (committed.Foreign job) answer response is told =
    failed_told json _ answer response is told

-- what a settlement is replied, by what the entry made of it
settle_told : (json : Bool) (r : Ticket) (heard : Result AssignJobResult CallFault) (kind : CoreKind)
    (settled : Settled) (answer : Result AllocJobResult SchedFault) → settled ≡ settled_by r heard kind
    → Answers settled answer → Answers (settled_by r heard kind) answer
settle_told json r heard kind settled answer is told = rw is at told

-- the reply is the one that the entry of the spent reservation gives
pub settled_at : (json : Bool) (r : Ticket) (heard : Result AssignJobResult CallFault) (now : ℕ) (s : Core)
    (e : CoreEntry) (settled : Settled) (answer : Result AllocJobResult SchedFault) (response : Response)
    → Gives (spend_call now r heard) (TellsSettle r heard) (RefusesSettle r heard) s (Some e) settled
    → Answers settled answer → Replies (alloc_response json) told_fault answer response
    → response ≡ settled_reply json r heard e.kind
settled_at json r (Ok a) now s e settled answer response gives is told =
    taken_told json a.need_toolchain (committed_by true e.kind r) answer response
    (settle_told json r (Ok a) e.kind settled answer gives.1.1 is) told
settled_at json r (Err f) now s e settled answer response gives is told =
    fault_told json (undone_by e.kind) f answer response
    (settle_told json r (Err f) e.kind settled answer gives.1.1 is) told
