-- An entry is replied to at most once.
use Rattle.std.proofs.Common.{◌≡◌, ◌⊎◌, inl, inr, ℕ, suc, not, Bool, true, false, cond, List, [], length}
use Rattle.std.proofs.Common.{take, drop, Option, Some, None, Result, Ok, Err, refl, ap, ◌∙◌, sym, subst}
use Rattle.std.proofs.Common.{arith}
use Rattle.std.specs.Prelude.{slice_get}
use Rattle.std.proofs.lemmas.List.{length-take}
use Rattle.std.proofs.lemmas.Option.{same_Some, slice_get_within}
use Rattle.dist_types.specs.declared.addr.Addr.{Addr}
use Rattle.dist_types.specs.declared.ids.JobId.{JobId}
use Rattle.dist_types.specs.declared.outgoing.CallFault.{CallFault}
use Rattle.dist_types.specs.declared.results.AssignJobResult.{AssignJobResult}
use Rattle.dist_types.specs.declared.results.UpdateJobStateResult.{UpdateJobStateResult}
use Rattle.dist_types.proofs.AddrLemmas.{bind_some}
use Rattle.dist_wire.specs.declared.run.RunJobHttpRequest.{RunJobHttpRequest}
use Rattle.core_rules.specs.Answers.{committed_by, undone_by}
use Rattle.core_rules.specs.Log.{Core}
use Rattle.core_rules.specs.Rule.{rule, says_new_entry, counts_of, knows_of}
use Rattle.core_rules.specs.Texts.{no_room_text}
use Rattle.core_rules.specs.Ticket.{Ticket}
use Rattle.core_rules.specs.declared.call.Call.TheVariants as call
use Rattle.core_rules.specs.declared.entry.CoreEntry.{CoreEntry}
use Rattle.core_rules.specs.declared.entry.CoreKind.{CoreKind}
use Rattle.core_rules.specs.declared.entry.CoreKind.TheVariants as core
use Rattle.core_rules.specs.declared.entry.Reserved.TheVariants.{Job, NoRoom, Spent}
use Rattle.dist_types.specs.declared.results.AllocJobResult.TheVariants as alloc
use Rattle.http_routes.specs.Fault.{fault_response_of}
use Rattle.http_routes.specs.Replies.{heard_response, status_response, alloc_response, commit_response}
use Rattle.http_routes.specs.Replies.{drained_response, update_reply, assign_response, submit_response}
use Rattle.http_routes.specs.declared.fault.RouteFault.TheVariants as fault
use Rattle.http_routes.specs.declared.reply.Response.{Response}
use Rattle.http_routes.specs.declared.route.SchedRouted.{SchedRouted}
use Rattle.http_routes.specs.declared.route.SchedRouted.TheVariants as asked
use Rattle.http_routes.specs.declared.server_route.ServerRouted.{ServerRouted}
use Rattle.http_routes.specs.declared.server_route.ServerRouted.TheVariants as server_asked
use Rattle.build_server.specs.Builds.{run_answer}
use Rattle.build_server.specs.Rules.{assign_verdict, submit_result}
use Rattle.build_server.specs.declared.fault.ServerFault.{ServerFault}
use Rattle.build_server.specs.declared.run.Outcome.{Outcome}
use Rattle.farm_script.specs.declared.event.Event.{Event}
use Rattle.farm_entries.specs.declared.site.Site.{Site as Setup}
use Rattle.farm_entries.specs.declared.entry.Effect.{Effect}
use Rattle.farm_entries.specs.declared.entry.Entry.{Entry}
use Rattle.farm_entries.specs.declared.entry.OutCall.{OutCall}
use Rattle.farm_entries.specs.declared.entry.Reply.{Reply}
use Rattle.farm_entries.specs.declared.entry.EntryWord.TheVariants.{Void}
use Rattle.farm_entries.specs.declared.entry.Step.{Step}
use Rattle.farm_entries.specs.declared.entry.StepKind.{StepKind}
use Rattle.farm_entries.specs.declared.entry.StepKind.TheVariants as step
use Rattle.farm_entries.specs.declared.pending.Ask.{Ask}
use Rattle.farm_entries.specs.declared.pending.Ask.TheVariants.{Assign, Report}
use Rattle.farm_entries.specs.declared.pending.Pending.{Pending}
use Rattle.farm_entries.specs.declared.pending.Told.{Told}
use Rattle.farm_entries.specs.declared.pending.Told.TheVariants as told
use Rattle.farm_entries.specs.Answers.{hears, update_by, alloc_effect, answer_to}
use Rattle.farm_entries.specs.Begun.{IsBegunBy, IsMadeBy, IsCallOf, completion_by, completion_at}
use Rattle.farm_entries.specs.Begun.{completion_of}
use Rattle.farm_entries.specs.Builds.{SettlesCall}
use Rattle.farm_entries.specs.Calls.{is_void, waiting_at}
use Rattle.farm_entries.specs.Effects.{word_effect, reply_effect, step_reply_effect, effect_of, entry_of}
use Rattle.farm_entries.specs.Effects.{reply_to}
use Rattle.farm_entries.specs.Next.{GoesOn, IsServed, IsSettled, IsMade, IsNext, EachNext}
use Rattle.farm_entries.specs.Reliable.{RepliesTo, AreRepliedOnce}
use Rattle.farm_entries.specs.Seen.{core_log, core_of}
use Rattle.farm_entries.specs.Served.{assigned, served, books_of}
use Rattle.farm_entries.specs.Servers.{ServerNow, server_now, is_over}
use Rattle.farm_entries.specs.Settled.{assignment_end, unreported, submission, ReadyEnds, StartedEnds}
use Rattle.farm_entries.specs.Settled.{complete_end, ended_response}
use Rattle.farm_entries.specs.Weather.{free, opened_effect}
use Rattle.toolchain_cache.specs.Archives.{Archives}
use Rattle.farm_entries.specs.Settled.{Reports, Lives, ReportsIn}
use Rattle.farm_entries.specs.Ways.{Way, way_of, brought_at, to_nothing, to_nobody, to_scheduler, to_server}
use Rattle.farm_entries.specs.Ways.{to_call, to_beat, to_restart}
use Rattle.farm_laws.proofs.LoudLemmas.{goes_loud}
use Rattle.farm_laws.proofs.NextLemmas.{settles_it, way_settles}
use Rattle.farm_laws.proofs.SettleLemmas.{take_take, get_front, next_at, settles_waiting, settlement}
use Rattle.farm_laws.proofs.SettleLemmas.{settled_once}

-- ---- what an effect says: no reply, or one to that entry, and no call beside it

abbrev pub RepliesOnly : ℕ → Effect → Type 0
RepliesOnly n x = (x.reply ≡ None) ⊎ ((x.call ≡ None) × ((r : Reply) → x.reply ≡ Some r → r.to ≡ n))

says_reply : (n : ℕ) (c : Option CoreEntry) (response : Response)
    → RepliesOnly n (reply_effect c (reply_to n response))
says_reply n c response =
    inr (refl, λ r e. sym (ap (λ (y : Reply). y.to) (same_Some (reply_to n response) r e)))

says_step : (n : ℕ) (addr : Addr) (kind : StepKind) (response : Response)
    → RepliesOnly n (step_reply_effect addr kind (reply_to n response))
says_step n addr kind response =
    inr (refl, λ r e. sym (ap (λ (y : Reply). y.to) (same_Some (reply_to n response) r e)))

either_says : (n : ℕ) (b : Bool) (x y : Effect) → RepliesOnly n x → RepliesOnly n y → RepliesOnly n
    (cond b x y)
either_says n true x y h k = h
either_says n false x y h k = k

allocated_says : (s : Core) (number : ℕ) (json : Bool) (tc : List ℕ) (made : CoreEntry) (k : CoreKind)
    → RepliesOnly number (alloc_effect s number json tc made k)
allocated_says s number json tc made (core.Reserve (Job job reg forgiven)) = inl refl
allocated_says s number json tc made (core.Reserve (NoRoom standing)) = says_reply number (Some made)
    (alloc_response json (alloc.Fail (no_room_text standing)))
allocated_says s number json tc made (core.Reserve Spent) = says_reply number (Some made)
    (fault_response_of fault.IdsSpent)
allocated_says s number json tc made (core.Commit job state kept) = says_reply number (Some made)
    (fault_response_of fault.IdsSpent)
allocated_says s number json tc made (core.Undo job noted ended) = says_reply number (Some made)
    (fault_response_of fault.IdsSpent)
allocated_says s number json tc made (core.Beat server nonce cpus key pruned reaped replaced is_new) =
    says_reply number (Some made) (fault_response_of fault.IdsSpent)
allocated_says s number json tc made (core.Update server job state given) = says_reply number (Some made)
    (fault_response_of fault.IdsSpent)
allocated_says s number json tc made (core.Status pruned servers cpus jobs) = says_reply number (Some made)
    (fault_response_of fault.IdsSpent)
allocated_says s number json tc made (core.Drain addr nonce on named) = says_reply number (Some made)
    (fault_response_of fault.IdsSpent)

answer_says : (s : Core) (number at : ℕ) (json : Bool) (what : SchedRouted)
    → RepliesOnly number (answer_to s number at json what)
answer_says s number at json (asked.Alloc tc) = allocated_says s number json tc (rule s (call.Reserve at))
    (rule s (call.Reserve at)).kind
answer_says s number at json (asked.Beat server beat) =
    let made = rule s (call.Beat at server beat.server_nonce beat.num_cpus beat.jwt_key) in
    either_says number (hears beat.num_cpus)
    (reply_effect (Some made)
    (reply_to number (heard_response json (record { is_new = says_new_entry made }))))
    (reply_effect None (reply_to number (fault_response_of (fault.BadCpus beat.num_cpus))))
    (says_reply number (Some made) (heard_response json (record { is_new = says_new_entry made })))
    (says_reply number None (fault_response_of (fault.BadCpus beat.num_cpus)))
answer_says s number at json (asked.Update server job state) =
    let made = rule s (call.Update at server job state) in
    says_reply number (Some made) (update_reply json (update_by made.kind) server job state)
answer_says s number at json asked.Status =
    let made = rule s (call.Status at) in
    says_reply number (Some made) (status_response json (counts_of made))
answer_says s number at json (asked.Drain server drain) =
    let made = rule s (call.Drain at server drain.server_nonce drain.draining) in
    says_reply number (Some made) (drained_response json (knows_of made))
answer_says s number at json (asked.Done response) = says_reply number None response

assigned_says : (addr : Addr) (number : ℕ) (json : Bool) (job : JobId) (tc : List ℕ)
    (r : Result AssignJobResult ServerFault) → RepliesOnly number (assigned addr number json job tc r)
assigned_says addr number json job tc (Ok a) =
    says_step number addr (step.Assigned job tc (not a.need_toolchain)) (assign_response json a)
assigned_says addr number json job tc (Err e) =
    says_reply number None (fault_response_of (fault.AlreadyAssigned job))

served_says : (setup : Setup) (s : ServerNow) (number : ℕ) (json : Bool) (what : ServerRouted)
    → RepliesOnly number (served setup s number json what)
served_says setup s number json (server_asked.Assign job tc) = assigned_says s.setup.addr number json job tc
    (assign_verdict (books_of s) job tc)
served_says setup s number json (server_asked.Submit job) = inl refl
served_says setup s number json (server_asked.Run job run at) = inl refl
served_says setup s number json (server_asked.Done response) = says_reply number None response

-- ---- what follows on a settlement

unreported_says : (root : ℕ) (addr : Addr) (job : JobId) (f : CallFault)
    → RepliesOnly root (step_reply_effect addr (step.Unreported job)
    (reply_to root (fault_response_of (fault.UpdateFailed f))))
unreported_says root addr job f = says_step root addr (step.Unreported job)
    (fault_response_of (fault.UpdateFailed f))

assignment_says : (s : Core) (root : ℕ) (json : Bool) (at : ℕ) (t : Ticket)
    (r : Result AssignJobResult CallFault) → RepliesOnly root (assignment_end s root json at t r)
assignment_says s root json at t (Ok a) =
    let made = rule s (call.Commit at t.number t.job a.state) in
    says_reply root (Some made) (commit_response json a.need_toolchain (committed_by true made.kind t))
assignment_says s root json at t (Err f) =
    let made = rule s (call.Undo at t.number t.job) in
    says_reply root (Some made) (fault_response_of (fault.AssignFailed (undone_by made.kind) f))

complete_says : (addr : Addr) (root : ℕ) (json : Bool) (job : JobId) (outcome : Outcome)
    (r : Result UpdateJobStateResult CallFault) → RepliesOnly root (complete_end addr root json job outcome r)
complete_says addr root json job outcome (Ok u) = says_step root addr (step.Finished job)
    (ended_response json (run_answer outcome))
complete_says addr root json job outcome (Err f) = unreported_says root addr job f

-- an effect that is one which says so
moved : (n : ℕ) (x y : Effect) → x ≡ y → RepliesOnly n y → RepliesOnly n x
moved n x y e h = subst (RepliesOnly n) (sym e) h

ready_says : (s : ServerNow) (root : ℕ) (json : Bool) (job : JobId) (archive : List ℕ)
    (r : Result UpdateJobStateResult CallFault) (x : Effect) → ReadyEnds free s root json job archive r x
    → RepliesOnly root x
ready_says s root json job archive (Ok u) x is =
    moved root x (submission s.setup.addr root json job is.0) is.2
    (says_step root s.setup.addr (step.Submitted job is.0) (submit_response json (submit_result is.0)))
ready_says s root json job archive (Err f) x is =
    moved root x (unreported s.setup.addr root job f) is (unreported_says root s.setup.addr job f)

started_says : (setup : Setup) (s : ServerNow) (root : ℕ) (job : JobId) (run : RunJobHttpRequest)
    (inputs : List ℕ) (r : Result UpdateJobStateResult CallFault) (x : Effect)
    → StartedEnds free setup s root job run inputs r x → RepliesOnly root x
started_says setup s root job run inputs (Ok u) x is = inl (ap (λ (y : Effect). y.reply) is.2)
started_says setup s root job run inputs (Err f) x is =
    moved root x (unreported s.setup.addr root job f) is (unreported_says root s.setup.addr job f)

opened_says : (n : ℕ) (s : ServerNow) (o : Option Archives) → RepliesOnly n (opened_effect s o)
opened_says n s None = inl refl
opened_says n s (Some list) = inl refl

reports_says : (setup : Setup) (s : ServerNow) (bytes : List ℕ) (root : ℕ) (json : Bool)
    (reply : Option (List ℕ)) (t : Told) (x : Effect) → Reports free setup s bytes root json reply t x
    → RepliesOnly root x
reports_says setup s bytes root json reply (told.Ready job at) x is =
    ready_says s root json job (drop at bytes) is.0 x is.2
reports_says setup s bytes root json reply (told.Started job run at) x is =
    started_says setup s root job run (drop at bytes) is.0 x is.2
reports_says setup s bytes root json reply (told.Complete job outcome) x is =
    moved root x (complete_end s.setup.addr root json job outcome is.0) is.2
    (complete_says s.setup.addr root json job outcome is.0)
reports_says setup s bytes root json reply told.Heartbeat x is = inl (ap (λ (y : Effect). y.reply) is.2)

lives_says : (setup : Setup) (life : ℕ) (s : ServerNow) (bytes : List ℕ) (root : ℕ) (json : Bool)
    (reply : Option (List ℕ)) (t : Told) (over : Bool) (x : Effect)
    → Lives free setup life s bytes root json reply t over x → RepliesOnly root x
lives_says setup life s bytes root json reply t true x is = inl (ap (λ (y : Effect). y.reply) is)
lives_says setup life s bytes root json reply t false x is = reports_says setup s bytes root json reply t x is

report_says : (setup : Setup) (life : ℕ) (bytes : List ℕ) (root : ℕ) (json : Bool) (reply : Option (List ℕ))
    (t : Told) (o : Option ServerNow) (x : Effect) → ReportsIn free setup life bytes root json reply t o x
    → RepliesOnly root x
report_says setup life bytes root json reply t None x is = inl (ap (λ (y : Effect). y.reply) is)
report_says setup life bytes root json reply t (Some s) x is = lives_says setup life s bytes root json reply t
    (is_over life s) x is

goes_says : (setup : Setup) (log : List Entry) (at root : ℕ) (json : Bool) (reply : Option (List ℕ))
    (ask : Ask) (x : Effect) → GoesOn free setup log at root json reply ask x → RepliesOnly root x
goes_says setup log at root json reply (Assign t) x is =
    moved root x (assignment_end (core_of setup log) root json at t is.0) is.2
    (assignment_says (core_of setup log) root json at t is.0)
goes_says setup log at root json reply (Report server life t) x is =
    report_says setup life (brought_at log root) root json reply t (server_now setup log server) x is

-- what an event does that settles no call
served_says_so : (setup : Setup) (s : Core) (number at : ℕ) (way : Way) (x : Effect)
    → IsServed free setup s number at way x → RepliesOnly number x
served_says_so setup s number at (to_scheduler peer bytes) x is =
    moved number x (answer_to s number at is.0.json is.0.what) is.2
    (answer_says s number at is.0.json is.0.what)
served_says_so setup s number at (to_server n bytes) x is =
    moved number x (served setup n number is.0.json is.0.what) is.2
    (served_says setup n number is.0.json is.0.what)
served_says_so setup s number at (to_beat n) x is = inl (ap (λ (y : Effect). y.reply) is)
served_says_so setup s number at (to_restart n key nonce) x is =
    moved number x (opened_effect n is.0) is.2 (opened_says number n is.0)
served_says_so setup s number at to_nobody x is = inl (ap (λ (y : Effect). y.reply) is)
served_says_so setup s number at to_nothing x is = inl (ap (λ (y : Effect). y.reply) is)
served_says_so setup s number at (to_call n reply) x is = absurd is

-- ---- where the reply to a call goes

completion_root : (root : ℕ) (json : Bool) (addr : Addr) (life : ℕ) (k : StepKind) (p : Pending)
    → completion_by root json addr life k ≡ Some p → p.root ≡ root
completion_root root json addr life (step.Ran job ran result) p e =
    sym (ap (λ (q : Pending). q.root) (same_Some _ p e))
completion_root root json addr life (step.Heard as_what) p e = absurd cc
completion_root root json addr life (step.Assigned job tc ready) p e = absurd cc
completion_root root json addr life (step.Submitted job outcome) p e = absurd cc
completion_root root json addr life (step.Finished job) p e = absurd cc
completion_root root json addr life (step.Unreported job) p e = absurd cc
completion_root root json addr life (step.Opened archives) p e = absurd cc

-- the report of a run's end is replied to where the run's first call is
same_root : (q : Pending) (ask : Ask) (x : Effect) (p : Pending) → completion_of q ask x.step ≡ Some p
    → p.root ≡ q.root
same_root q ask x p e = by_ask ask e
  where
    by_step : (addr : Addr) (life : ℕ) (o : Option Step) → completion_at q.root q.json addr life o ≡ Some p
        → p.root ≡ q.root
    by_step addr life None k = absurd cc
    by_step addr life (Some s) k = completion_root q.root q.json addr life s.kind p k

    by_ask : (a : Ask) → completion_of q a x.step ≡ Some p → p.root ≡ q.root
    by_ask (Assign t) h = absurd cc
    by_ask (Report addr life t) h = by_step addr life x.step h

-- a call that settles none is replied to where it was made
begun_root : (setup : Setup) (c : List CoreEntry) (number : ℕ) (way : Way) (x : Effect) (p : Pending)
    → IsBegunBy setup c number way x p → p.root ≡ number
begun_root setup c number (to_scheduler peer bytes) x p is = ap (λ (q : Pending). q.root) is.2.is
begun_root setup c number (to_server s bytes) x p is = ap (λ (q : Pending). q.root) is.2.is
begun_root setup c number (to_beat s) x p is = ap (λ (q : Pending). q.root) is
begun_root setup c number to_nothing x p is = absurd is
begun_root setup c number to_nobody x p is = absurd is
begun_root setup c number (to_call n reply) x p is = absurd is
begun_root setup c number (to_restart s key nonce) x p is = absurd is

pub size_at : (entries : List Entry) (n : ℕ) (e : Entry) → slice_get entries n ≡ Some e
    → length (take n entries) ≡ n
size_at entries n e there = omega (arith, length-take n entries, slice_get_within entries n e there)

-- a call that does not wait is followed by no report of a run's end
no_completion : (q : Pending) (x : Effect) (p : Pending) → x ≡ word_effect Void
    → completion_of q q.ask x.step ≡ Some p → ⊥
no_completion q x p e h = by_ask q.ask (ap (λ (y : Effect). completion_of q q.ask y.step) (sym e) ∙ h)
  where
    by_ask : (a : Ask) → completion_of q a None ≡ Some p → ⊥
    by_ask (Assign t) k = cc
    by_ask (Report addr life t) k = cc

-- ---- the runs

module _ (setup : Setup) (events : List Event) (entries : List Entry)
    (each : EachNext free setup [] events entries) where
  next : (n : ℕ) (e : Entry) → slice_get entries n ≡ Some e → IsNext free setup (take n entries) e.event e
  next n e there = next_at free setup [] events entries n e each there

  abbrev HasCall : ℕ → Type 0
  HasCall n = (e : Entry) × (slice_get entries n ≡ Some e) × ((c : OutCall) × (e.call ≡ Some c))

  -- what waits has a call
  waiting_call : (n k : ℕ) (w : Entry) → waiting_at (take k entries) n ≡ Some w → HasCall n
  waiting_call n k w waits =
      let a = bind_some (slice_get (take k entries) n) _ w waits in
      let b = bind_some a.0.call _ w a.2 in
      (a.0, (get_front entries n k a.0 a.1).1, (b.0, b.1))

  -- what is settled had a call
  settled_call : (n k : ℕ) → SettlesCall entries n k → HasCall n
  settled_call n k s =
      let t = settlement n (take k entries) (drop (suc k) entries) s.entry s.settles in
      let w = settles_waiting free setup (take k entries) s.entry n t.reply
      (next k s.entry s.there) t.silent t.names in
      waiting_call n k w.0 w.1

  -- the reply to the call of entry c goes to entry n: its own, or one whose call entry c settled
  abbrev Goes : ℕ → ℕ → Type 0
  Goes n c = (n ≡ c) ⊎ SettlesCall entries n c

  -- an entry that makes something of a call is a settlement of it
  pub settles : (n k : ℕ) (e : Entry) (there : slice_get entries k ≡ Some e) (x : Effect)
      (is : e ≡ entry_of e.event x) (reply : Option (List ℕ)) (p : Pending)
      → way_of setup (take k entries) e.event.kind ≡ to_call n reply → IsCallOf setup (take k entries) n p
      → GoesOn free setup (take k entries) e.event.at p.root p.json reply p.ask x → SettlesCall entries n k
  settles n k e there x is reply p way of_call goes = record {
    entry = e;
    there = there;
    settles = settles_it (take k entries) n reply e
        (slice_get_within (take k entries) n of_call.entry of_call.there)
        (ap (λ (y : Entry). is_void y.word) is
        ∙ goes_loud setup (take k entries) e.event.at p.root p.json reply p.ask x goes)
        (way_settles setup (take k entries) e.event.kind n reply way);
  }

  -- a completion is made by an entry that settles a call
  completed : (m c : ℕ) (d : Entry) (there : slice_get entries c ≡ Some d) (x : Effect)
      (is : d ≡ entry_of d.event x) (reply : Option (List ℕ)) (first p : Pending)
      → way_of setup (take c entries) d.event.kind ≡ to_call m reply
      → completion_of first first.ask x.step ≡ Some p
      → (o : Option Entry) → IsSettled free setup (take c entries) d.event.at m reply o x
      → SettlesCall entries m c
  completed m c d there x is reply first p way done None h = absurd (no_completion first x p h done)
  completed m c d there x is reply first p way done (Some w) h =
      settles m c d there x is reply h.0 way h.1 h.2

  rooted : (c k : ℕ) (p : Pending) → IsCallOf setup (take k entries) c p → Goes p.root c
  rooted c k p of_call =
      let g = get_front entries c k of_call.entry of_call.there in
      let front : take c (take k entries) ≡ take c entries = take_take entries c k (omega (arith, g.0)) in
      by_way (way_of setup (take c entries) of_call.entry.event.kind) refl
      (subst (λ (l : List Entry). IsMadeBy setup l (way_of setup l of_call.entry.event.kind)
      (effect_of of_call.entry) p) front of_call.made)
    where
      there : slice_get entries c ≡ Some of_call.entry
      there = (get_front entries c k of_call.entry of_call.there).1

      own : (way : Way) → IsBegunBy setup (core_log (take c entries)) (length (take c entries)) way
          (effect_of of_call.entry) p → Goes p.root c
      own way h = inl (begun_root setup (core_log (take c entries)) (length (take c entries)) way
          (effect_of of_call.entry) p h ∙ size_at entries c of_call.entry there)

      by_way : (way : Way) → way_of setup (take c entries) of_call.entry.event.kind ≡ way
          → IsMadeBy setup (take c entries) way (effect_of of_call.entry) p → Goes p.root c
      by_way (to_scheduler peer bytes) same made = own (to_scheduler peer bytes) made
      by_way (to_server s bytes) same made = own (to_server s bytes) made
      by_way (to_beat s) same made = own (to_beat s) made
      by_way to_nothing same made = absurd made
      by_way to_nobody same made = absurd made
      by_way (to_restart s key nonce) same made = absurd made
      by_way (to_call m reply) same made =
          let (x, y_made, is) = next c of_call.entry there in
          let step_is : of_call.entry.step ≡ x.step = ap (λ (y : Entry). y.step) is in
          let done : completion_of made.first made.first.ask x.step ≡ Some p =
          ap (λ (o : Option Step). completion_of made.first made.first.ask o) (sym step_is) ∙ made.is in
          let s : SettlesCall entries m c =
          completed m c of_call.entry there x is reply made.first p same done (waiting_at (take c entries) m)
          (subst (λ (w : Way). IsMade free setup (take c entries) of_call.entry.event.at w x) same y_made) in
          let first_root : made.first.root ≡ m =
          begun_root setup (core_log (take m (take c entries))) m
          (way_of setup (take m (take c entries)) made.call.entry.event.kind)
          (effect_of made.call.entry) made.first made.call.begun in
          let root : p.root ≡ m = same_root made.first made.first.ask (effect_of of_call.entry) p made.is
          ∙ first_root in
          inr (subst (λ (r : ℕ). SettlesCall entries r c) (sym root) s)

  -- what is known of an entry that replies
  abbrev Replying : ℕ → ℕ → Type 0
  Replying n j = (n ≡ j) ⊎ ((c : ℕ) × SettlesCall entries c j × Goes n c)

  module _ (j : ℕ) (e : Entry) (there : slice_get entries j ≡ Some e) (r : Reply) (replies : e.reply ≡ Some r)
      (x : Effect) (is : e ≡ entry_of e.event x) where
    said : x.reply ≡ Some r
    said = sym (ap (λ (y : Entry). y.reply) is) ∙ replies

    spoken : (n : ℕ) → RepliesOnly n x → (e.call ≡ None) × (r.to ≡ n)
    spoken n (inl none) = absurd (let no : None ≡ Some r = sym none ∙ said in cc)
    spoken n (inr h) = (ap (λ (y : Entry). y.call) is ∙ h.0, h.1 r said)

    at_once : (way : Way) → IsServed free setup (core_of setup (take j entries))
        (length (take j entries)) e.event.at way x → (e.call ≡ None) × Replying r.to j
    at_once way h =
        let t = spoken (length (take j entries))
        (served_says_so setup (core_of setup (take j entries)) (length (take j entries)) e.event.at way x
        h) in
        (t.0, inl (t.1 ∙ size_at entries j e there))

    replying : (way : Way) → way_of setup (take j entries) e.event.kind ≡ way
        → IsMade free setup (take j entries) e.event.at way x → (e.call ≡ None) × Replying r.to j
    replying (to_call c reply) same made = by_wait (waiting_at (take j entries) c) made
      where
        by_wait : (o : Option Entry) → IsSettled free setup (take j entries) e.event.at c reply o x
            → (e.call ≡ None) × Replying r.to j
        by_wait None h = absurd (let no : None ≡ Some r = sym (ap (λ (y : Effect). y.reply) h) ∙ said in cc)
        by_wait (Some w) h =
            let t = spoken h.0.root (goes_says setup (take j entries) e.event.at h.0.root h.0.json reply
            h.0.ask x h.2) in (
              t.0,
              inr (
                c,
                settles c j e there x is reply h.0 same h.1 h.2,
                subst (λ (n : ℕ). Goes n c)
                    (sym t.1) (rooted c j h.0 h.1),
              ),
            )
    replying (to_scheduler peer bytes) same made = at_once (to_scheduler peer bytes) made
    replying (to_server s bytes) same made = at_once (to_server s bytes) made
    replying (to_beat s) same made = at_once (to_beat s) made
    replying (to_restart s key nonce) same made = at_once (to_restart s key nonce) made
    replying to_nobody same made = at_once to_nobody made
    replying to_nothing same made = at_once to_nothing made

  known : (n j : ℕ) (a : RepliesTo entries n j) → (a.entry.call ≡ None) × Replying n j
  known n j a =
      let (x, made, is) = next j a.entry a.there in
      let t = replying j a.entry a.there a.reply a.replies x is
      (way_of setup (take j entries) a.entry.event.kind) refl made in
      (t.0, subst (λ (m : ℕ). Replying m j) a.to t.1)

  -- an entry that replies makes no call
  clash : (n j : ℕ) → RepliesTo entries n j → HasCall j → ⊥
  clash n j a (e, there, (c, is)) =
      let same : e ≡ a.entry = same_Some e a.entry (sym there ∙ a.there) in
      let no : None ≡ Some c = sym (known n j a).0 ∙ sym (ap (λ (y : Entry). y.call) same) ∙ is in
      cc

  called_at : (m j : ℕ) → m ≡ j → HasCall m → HasCall j
  called_at m j same h = subst HasCall same h

  pub replied_once : AreRepliedOnce entries
  replied_once = λ n j k a b. one n j k a b (known n j a).1 (known n k b).1
    where
      both : (n j k c d : ℕ) → RepliesTo entries n j → RepliesTo entries n k → SettlesCall entries c j
          → SettlesCall entries d k → Goes n c → Goes n d → j ≡ k
      both n j k c d a b s t (inl p) (inl q) = settled_once free setup events entries each c j k s
          (subst (λ (m : ℕ). SettlesCall entries m k) (sym q ∙ p) t)
      both n j k c d a b s t (inr p) (inr q) =
          settled_once free setup events entries each c j k s
          (subst (λ (m : ℕ). SettlesCall entries m k) (settled_once free setup events entries each n d c q p)
          t)
      both n j k c d a b s t (inl p) (inr q) =
          let same : d ≡ j = settled_once free setup events entries each n d j q
          (subst (λ (m : ℕ). SettlesCall entries m j) (sym p) s) in
          absurd (clash n j a (called_at d j same (settled_call d k t)))
      both n j k c d a b s t (inr p) (inl q) =
          let same : c ≡ k = settled_once free setup events entries each n c k p
          (subst (λ (m : ℕ). SettlesCall entries m k) (sym q) t) in
          absurd (clash n k b (called_at c k same (settled_call c j s)))

      own_call : (n k c : ℕ) → SettlesCall entries c k → Goes n c → HasCall n
      own_call n k c s (inl p) = called_at c n (sym p) (settled_call c k s)
      own_call n k c s (inr p) = settled_call n c p

      one : (n j k : ℕ) → RepliesTo entries n j → RepliesTo entries n k → Replying n j → Replying n k → j ≡ k
      one n j k a b (inl p) (inl q) = sym p ∙ q
      one n j k a b (inl p) (inr (d, t, q)) = absurd (clash n j a (called_at n j p (own_call n k d t q)))
      one n j k a b (inr (c, s, p)) (inl q) = absurd (clash n k b (called_at n k q (own_call n j c s p)))
      one n j k a b (inr (c, s, p)) (inr (d, t, q)) = both n j k c d a b s t p q
