-- What the scheduler answers, over the entry that its step made.
use Rattle.std.proofs.Common.{◌≡◌, ℕ, Bool, true, false, List, Option, Some, None, Result, Ok, Err, refl, sym, ap, subst, ◌∙◌}
use Rattle.std.specs.Prelude.{length, IfOk, if◌then◌else◌}
use Rattle.std.specs.Option.{option_map}
use Rattle.dist_types.specs.declared.addr.Addr.{Addr}
use Rattle.dist_types.specs.declared.outgoing.CallFault.{CallFault}
use Rattle.dist_types.specs.declared.results.AllocJobResult.{AllocJobResult}
use Rattle.dist_types.specs.declared.ids.JobId.{JobId}
use Rattle.dist_types.specs.declared.results.AssignJobResult.{AssignJobResult}
use Rattle.dist_types.specs.declared.results.HeartbeatServerResult.{HeartbeatServerResult}
use Rattle.dist_types.specs.declared.results.JobState.{JobState}
use Rattle.dist_types.specs.declared.results.SchedulerStatusResult.{SchedulerStatusResult}
use Rattle.dist_types.specs.declared.results.UpdateJobStateResult.{UpdateJobStateResult}
use Rattle.dist_types.specs.declared.rules.Rules.{Rules}
use Rattle.dist_types.specs.declared.rules.Rules.TheVariants.{One, Two}
use Rattle.dist_wire.specs.declared.drain.DrainServerHttpRequest.{DrainServerHttpRequest}
use Rattle.dist_wire.specs.declared.heartbeat.HeartbeatServerHttpRequest.{HeartbeatServerHttpRequest}
use Rattle.http_routes.specs.Admission.{equal_admission}
use Rattle.http_routes.specs.Asked.{IsAskedUnder}
use Rattle.http_routes.specs.Replies.{heard_response, status_response, drained_response, alloc_response}
use Rattle.http_routes.specs.Replies.{update_response}
use Rattle.http_routes.specs.declared.reply.Response.{Response}
use Rattle.http_routes.specs.declared.route.Asked.{Asked}
use Rattle.http_routes.specs.declared.route.SchedRouted.{SchedRouted}
use Rattle.http_routes.specs.declared.route.SchedRouted.TheVariants as asked
use Rattle.http_routes.proofs.VersionLemmas.{no_bytes_drain}
use Rattle.core_rules.specs.Log.{Core}
use Rattle.core_rules.specs.Rule.{rule, is_initial}
use Rattle.core_rules.specs.Texts.{no_room_text}
use Rattle.core_rules.specs.Ticket.{Ticket}
use Rattle.core_rules.specs.declared.call.Call.{Call}
use Rattle.core_rules.specs.declared.call.Call.TheVariants as call
use Rattle.core_rules.specs.declared.entry.CoreEntry.{CoreEntry}
use Rattle.core_rules.specs.declared.entry.CoreKind.{CoreKind}
use Rattle.core_rules.specs.declared.entry.CoreKind.TheVariants as core
use Rattle.core_rules.specs.declared.entry.Reserved.TheVariants.{Job, NoRoom, Spent}
use Rattle.sched_core.specs.declared.answers.Picked.TheVariants as picked
use Rattle.scheduler_steps.specs.Settling.{is_own, judged, spend_call, TellsSettle, RefusesSettle}
use Rattle.scheduler_steps.specs.Settling.{FailsWith, Answers}
use Rattle.scheduler_steps.specs.Step.{Gives, IsStep}
use Rattle.scheduler_steps.specs.Step as step
use Rattle.scheduler_steps.specs.Telling.{hears, TellsReserve, TellsHeard, RefusesHeard, TellsReported}
use Rattle.scheduler_steps.specs.Telling.{TellsCounted, TellsDrained, WantsMemory}
use Rattle.scheduler_steps.specs.declared.fault.SchedFault.{SchedFault}
use Rattle.scheduler_steps.specs.declared.settled.Settled.{Settled}
use Rattle.scheduler_replies.specs.ByEntry.{call_of, reply_by, reserve_reply, settled_reply, RepliesAt}
use Rattle.scheduler_replies.specs.Replies.{told_fault, report_fault, Replies}
use Rattle.scheduler_replies.proofs.ReplyLemmas.{heard_at, reported_at, counted_at, drained_at, full_at}
use Rattle.scheduler_replies.proofs.ReplyLemmas.{spent_at, settled_at}
use Rattle.line_program.specs.declared.fault.FarmFault.{FarmFault}
use Rattle.farm_entries.specs.declared.site.Site.{Site as Setup}
use Rattle.farm_entries.specs.declared.entry.Effect.{Effect}
use Rattle.farm_entries.specs.declared.entry.Reply.{Reply}
use Rattle.farm_entries.specs.declared.pending.Pending.{Pending}
use Rattle.farm_entries.specs.Answers.{Asks, alloc_effect, answer_to}
use Rattle.farm_entries.specs.Begun.{IsAssignment, IsBegunBy, Keeps}
use Rattle.farm_entries.specs.Effects.{reply_effect, reply_to}
use Rattle.farm_entries.specs.Seen.{serves, with_core}
use Rattle.farm_entries.specs.Settled.{assignment_end}
use Rattle.farm_entries.specs.Ways.{to_scheduler}
use Rattle.farm_run.specs.ByEntry.{toolchain_of, told_effect, refused_effect, effect_by}
use Rattle.farm_run.specs.declared.pending.Made.{Made}

-- ---- what was made

-- the steps and the farm say alike what was made
pub same_core : (s : Core) (made : Option CoreEntry) → step.with_core s made ≡ with_core s made
same_core s None = refl
same_core s (Some e) = refl

-- an effect that was told of every core that the state could have had is that of the step
pub told_is : (s new : Core) (made : Option CoreEntry) (before : ℕ) (reply : Reply) (x : Effect)
    → new ≡ step.with_core s made → length s.log ≡ before
    → ((core : Core) (m : Option CoreEntry) → length core.log ≡ before → new ≡ with_core core m
    → x ≡ reply_effect m reply)
    → (x ≡ reply_effect made reply) × (new ≡ with_core s x.core)
told_is s new made before reply x left long told =
    let now : new ≡ with_core s made = left ∙ same_core s made in
    let is = told s made long now in
    (is, now ∙ ap (λ (y : Effect). with_core s y.core) (sym is))

-- ---- by the entry

alloc_by : (s : Core) (number : ℕ) (json : Bool) (tc : List ℕ) (made : CoreEntry) (k : CoreKind)
    → alloc_effect s number json tc made k ≡ told_effect s number tc made k (reserve_reply json k)
alloc_by s number json tc made (core.Reserve (Job job reg forgiven)) = refl
alloc_by s number json tc made (core.Reserve (NoRoom standing)) = refl
alloc_by s number json tc made (core.Reserve Spent) = refl
alloc_by s number json tc made (core.Commit job state kept) = refl
alloc_by s number json tc made (core.Undo job noted ended) = refl
alloc_by s number json tc made (core.Beat server nonce cpus key pruned reaped replaced is_new) = refl
alloc_by s number json tc made (core.Update server job state answer) = refl
alloc_by s number json tc made (core.Status pruned servers cpus jobs) = refl
alloc_by s number json tc made (core.Drain server nonce on reg) = refl

heard_by : (b : Bool) (s : Core) (number : ℕ) (json : Bool) (server : Addr) (beat : HeartbeatServerHttpRequest)
    (c : Call) (x y : Effect)
    → x ≡ effect_by s number json (asked.Beat server beat) (Some (rule s c))
    → y ≡ effect_by s number json (asked.Beat server beat) None
    → (if b then x else y)
    ≡ effect_by s number json (asked.Beat server beat) (option_map (rule s) (if b then Some c else None))
heard_by true s number json server beat c x y is other = is
heard_by false s number json server beat c x y is other = other

-- what is asked is answered by the entry of its call
pub answered_by : (s : Core) (number at : ℕ) (json : Bool) (what : SchedRouted)
    → answer_to s number at json what ≡ effect_by s number json what (option_map (rule s) (call_of at what))
answered_by s number at json (asked.Alloc tc) =
    alloc_by s number json tc (rule s (call.Reserve at)) (rule s (call.Reserve at)).kind
answered_by s number at json (asked.Beat server beat) =
    heard_by (hears beat.num_cpus) s number json server beat
    (call.Beat at server beat.server_nonce beat.num_cpus beat.jwt_key) _ _ refl refl
answered_by s number at json (asked.Update server job state) = refl
answered_by s number at json asked.Status = refl
answered_by s number at json (asked.Drain server wish) = refl
answered_by s number at json (asked.Done response) = refl

-- the reply of the entry that was made is the answer
effect_at : (s : Core) (number at : ℕ) (json : Bool) (what : SchedRouted) (made : Option CoreEntry)
    (reply : Response) → RepliesAt json what at s made reply
    → reply_effect made (reply_to number reply)
    ≡ effect_by s number json what (option_map (rule s) (call_of at what))
effect_at s number at json what (Some e) reply (c, asks, is, says) =
    ap (told_effect s number (toolchain_of what) e e.kind) (sym says)
    ∙ ap (λ (m : CoreEntry). effect_by s number json what (Some m)) is
    ∙ ap (λ (o : Option Call). effect_by s number json what (option_map (rule s) o)) (sym asks)
effect_at s number at json what None reply says =
    ap (refused_effect number) (sym says.1)
    ∙ ap (λ (o : Option Call). effect_by s number json what (option_map (rule s) o)) (sym says.0)

-- so what a step made, and the reply of that, is the answer
pub answers : (s new : Core) (number at before : ℕ) (json : Bool) (what : SchedRouted)
    (made : Option CoreEntry) (reply : Response) (x : Effect)
    → new ≡ step.with_core s made → length s.log ≡ before → RepliesAt json what at s made reply
    → ((core : Core) (m : Option CoreEntry) → length core.log ≡ before → new ≡ with_core core m
    → x ≡ reply_effect m (reply_to number reply))
    → (x ≡ answer_to s number at json what) × (new ≡ with_core s x.core)
answers s new number at before json what made reply x left long says told =
    let is = told_is s new made before (reply_to number reply) x left long told in
    (is.0 ∙ effect_at s number at json what made reply says ∙ sym (answered_by s number at json what), is.1)

-- the four steps that are over at once
pub heard_answers : (s new : Core) (number at before : ℕ) (json : Bool) (server : Addr)
    (beat : HeartbeatServerHttpRequest) (answer : Result HeartbeatServerResult SchedFault) (reply : Response)
    (x : Effect)
    → IsStep (call.Beat at server beat.server_nonce beat.num_cpus beat.jwt_key) (TellsHeard beat.num_cpus)
    (RefusesHeard beat.num_cpus) s new answer
    → length s.log ≡ before → Replies (heard_response json) told_fault answer reply
    → ((core : Core) (m : Option CoreEntry) → length core.log ≡ before → new ≡ with_core core m
    → x ≡ reply_effect m (reply_to number reply))
    → (x ≡ answer_to s number at json (asked.Beat server beat)) × (new ≡ with_core s x.core)
heard_answers s new number at before json server beat answer reply x is long says told =
    answers s new number at before json (asked.Beat server beat) is.made reply x is.left long
    (heard_at json server beat at s is.made answer reply is.gives says) told

pub reported_answers : (s new : Core) (number at before : ℕ) (json : Bool) (server : Addr) (job : JobId)
    (to : JobState) (answer : Result UpdateJobStateResult SchedFault) (reply : Response) (x : Effect)
    → IsStep (call.Update at server job to) TellsReported WantsMemory s new answer
    → length s.log ≡ before → Replies (update_response json) (report_fault server job) answer reply
    → ((core : Core) (m : Option CoreEntry) → length core.log ≡ before → new ≡ with_core core m
    → x ≡ reply_effect m (reply_to number reply))
    → (x ≡ answer_to s number at json (asked.Update server job to)) × (new ≡ with_core s x.core)
reported_answers s new number at before json server job to answer reply x is long says told =
    answers s new number at before json (asked.Update server job to) is.made reply x is.left long
    (reported_at json server job to at s is.made answer reply is.gives says) told

pub counted_answers : (s new : Core) (number at before : ℕ) (json : Bool)
    (answer : Result SchedulerStatusResult SchedFault) (reply : Response) (x : Effect)
    → IsStep (call.Status at) TellsCounted WantsMemory s new answer
    → length s.log ≡ before → Replies (status_response json) told_fault answer reply
    → ((core : Core) (m : Option CoreEntry) → length core.log ≡ before → new ≡ with_core core m
    → x ≡ reply_effect m (reply_to number reply))
    → (x ≡ answer_to s number at json asked.Status) × (new ≡ with_core s x.core)
counted_answers s new number at before json answer reply x is long says told =
    answers s new number at before json asked.Status is.made reply x is.left long
    (counted_at json at s is.made answer reply is.gives says) told

pub drained_answers : (s new : Core) (number at before : ℕ) (json : Bool) (server : Addr)
    (wish : DrainServerHttpRequest) (answer : Result Bool SchedFault) (reply : Response) (x : Effect)
    → IsStep (call.Drain at server wish.server_nonce wish.draining) TellsDrained WantsMemory s new answer
    → length s.log ≡ before → Replies (drained_response json) told_fault answer reply
    → ((core : Core) (m : Option CoreEntry) → length core.log ≡ before → new ≡ with_core core m
    → x ≡ reply_effect m (reply_to number reply))
    → (x ≡ answer_to s number at json (asked.Drain server wish)) × (new ≡ with_core s x.core)
drained_answers s new number at before json server wish answer reply x is long says told =
    answers s new number at before json (asked.Drain server wish) is.made reply x is.left long
    (drained_at json server wish at s is.made answer reply is.gives says) told

-- ---- allocations

-- what is told of an allocation that made no reservation
abbrev pub Unpicked : ℕ → ℕ → Bool → Core → Result AllocJobResult SchedFault → Effect → Type 0
Unpicked number before json new answer x =
    (reply : Response) × Replies (alloc_response json) told_fault answer reply
    × ((core : Core) (m : Option CoreEntry) → length core.log ≡ before → new ≡ with_core core m
    → x ≡ reply_effect m (reply_to number reply))

pub full_answers : {A : Type 0} (key_of : A → List ℕ) (token_for : A → ℕ → List ℕ) (s new : Core)
    (number at before standing : ℕ) (json : Bool) (tc : List ℕ) (answer : Result AllocJobResult SchedFault)
    (x : Effect)
    → IsStep (call.Reserve at) (TellsReserve key_of token_for) WantsMemory s new (Ok (picked.NoRoom standing))
    → length s.log ≡ before → FailsWith (no_room_text standing) answer
    → Unpicked number before json new answer x
    → (x ≡ answer_to s number at json (asked.Alloc tc)) × (new ≡ with_core s x.core)
full_answers key_of token_for s new number at before standing json tc answer x is long fails told =
    answers s new number at before json (asked.Alloc tc) is.made told.0 x is.left long
    (full_at key_of token_for json tc standing at s is.made answer told.0 is.gives fails told.1) told.2

pub spent_answers : {A : Type 0} (key_of : A → List ℕ) (token_for : A → ℕ → List ℕ) (s new : Core)
    (number at before : ℕ) (json : Bool) (tc : List ℕ) (refusal : SchedFault) (x : Effect)
    → IsStep (call.Reserve at) (TellsReserve key_of token_for) WantsMemory s new (Err refusal)
    → length s.log ≡ before → Unpicked number before json new (Err refusal) x
    → (x ≡ answer_to s number at json (asked.Alloc tc)) × (new ≡ with_core s x.core)
spent_answers key_of token_for s new number at before json tc refusal x is long told =
    answers s new number at before json (asked.Alloc tc) is.made told.0 x is.left long
    (spent_at key_of token_for json tc at s is.made refusal (Err refusal) told.0 is.gives refl told.1) told.2

-- ---- what is kept

-- nothing of what makes no call
pub kept_none : {E : Type 0} (IsBegun : Made → Pending → Type 0) (r : Result Made E)
    → IfOk r (λ m. (m.effect.call ≡ None) × (m.pending ≡ None))
    → IfOk r (λ m. Keeps (IsBegun m) m.effect m.pending)
kept_none IsBegun (Ok m) silent =
    subst (λ (o : Option Pending). Keeps (IsBegun m) m.effect o) (sym silent.1) silent.0
kept_none IsBegun (Err e) silent = tt

-- ---- what was asked

-- bytes ask for a drain by version 2 alone
pub drains_by_two : (rules : Rules) (setup : Setup) (peer : Addr) (bytes : List ℕ) (a : Asked) (server : Addr)
    (wish : DrainServerHttpRequest) → setup.rules ≡ rules → Asks setup peer bytes a
    → a.what ≡ asked.Drain server wish → rules ≡ Two
drains_by_two One setup peer bytes a server wish one asks is =
    absurd (no_bytes_drain (equal_admission setup.scheduler.client) (serves setup.scheduler.auth) bytes peer a
    (subst (λ (v : Rules). IsAskedUnder v (equal_admission setup.scheduler.client)
    (serves setup.scheduler.auth) bytes peer a) one asks) server wish is)
drains_by_two Two setup peer bytes a server wish two asks is = refl

begun_for : (setup : Setup) (core : List CoreEntry) (number : ℕ) (peer : Addr) (bytes : List ℕ) (a : Asked)
    (x : Effect) (o : Option Pending) → Asks setup peer bytes a
    → Keeps (IsAssignment core number a.json x.core) x o
    → Keeps (IsBegunBy setup core number (to_scheduler peer bytes) x) x o
begun_for setup core number peer bytes a x None asks is = is
begun_for setup core number peer bytes a x (Some p) asks is = ((a, asks, is.0), is.1, is.2)

pub begun_served : (setup : Setup) (core : List CoreEntry) (number : ℕ) (peer : Addr) (bytes : List ℕ)
    (a : Asked) (r : Result Made FarmFault) → Asks setup peer bytes a
    → IfOk r (λ m. Keeps (IsAssignment core number a.json m.effect.core) m.effect m.pending)
    → IfOk r (λ m. Keeps (IsBegunBy setup core number (to_scheduler peer bytes) m.effect) m.effect
    m.pending)
begun_served setup core number peer bytes a (Ok m) asks is =
    begun_for setup core number peer bytes a m.effect m.pending asks is
begun_served setup core number peer bytes a (Err f) asks is = tt

-- ---- what follows a settlement

kept_if : (b : Bool) (a : AssignJobResult) (other : Result AssignJobResult CallFault) → b ≡ true
    → (if b then Ok a else other) ≡ Ok a
kept_if true a other is = refl
kept_if false a other is = absurd cc

-- what begins a job is judged as it is
judged_same : (heard : Result AssignJobResult CallFault) → IfOk heard (λ a. is_initial a.state ≡ true)
    → judged heard ≡ heard
judged_same (Ok a) begins = kept_if (is_initial a.state) a _ begins
judged_same (Err f) begins = refl

end_is : (s : Core) (root at : ℕ) (json : Bool) (r : Ticket) (heard : Result AssignJobResult CallFault)
    → reply_effect (Some (rule s (spend_call at r heard)))
    (reply_to root (settled_reply json r heard (rule s (spend_call at r heard)).kind))
    ≡ assignment_end s root json at r heard
end_is s root at json r (Ok a) = refl
end_is s root at json r (Err f) = refl

settled_told : (s : Core) (root at : ℕ) (json : Bool) (r : Ticket) (heard : Result AssignJobResult CallFault)
    (settled : Settled) (answer : Result AllocJobResult SchedFault) (response : Response)
    (made : Option CoreEntry) → is_own s r ≡ true
    → Gives (spend_call at r heard) (TellsSettle r heard) (RefusesSettle r heard) s made settled
    → Answers settled answer → Replies (alloc_response json) told_fault answer response
    → reply_effect made (reply_to root response) ≡ assignment_end s root json at r heard
settled_told s root at json r heard settled answer response (Some e) own gives is told =
    ap (λ (x : Response). reply_effect (Some e) (reply_to root x))
    (settled_at json r heard at s e settled answer response gives is told)
    ∙ ap (λ (m : CoreEntry). reply_effect (Some m) (reply_to root (settled_reply json r heard m.kind))) gives.0
    ∙ end_is s root at json r heard
settled_told s root at json r heard settled answer response None own gives is told = absurd (cc (own, gives.0))

pub settled_answers : (s new : Core) (root at before : ℕ) (json : Bool) (r : Ticket)
    (heard : Result AssignJobResult CallFault) (settled : Settled) (answer : Result AllocJobResult SchedFault)
    (response : Response) (x : Effect)
    → IfOk heard (λ a. is_initial a.state ≡ true) → is_own s r ≡ true
    → IsStep (spend_call at r (judged heard)) (TellsSettle r (judged heard)) (RefusesSettle r (judged heard))
    s new settled
    → length s.log ≡ before → Answers settled answer → Replies (alloc_response json) told_fault answer response
    → ((core : Core) (m : Option CoreEntry) → length core.log ≡ before → new ≡ with_core core m
    → x ≡ reply_effect m (reply_to root response))
    → (x ≡ assignment_end s root json at r heard) × (new ≡ with_core s x.core)
settled_answers s new root at before json r heard settled answer response x begins own is long tells replies
    told =
    let same = judged_same heard begins in
    let all = told_is s new is.made before (reply_to root response) x is.left long told in (
      all.0 ∙ settled_told s root at json r (judged heard) settled answer response is.made own is.gives tells
          replies
          ∙ ap (assignment_end s root json at r) same,
      all.1,
    )
