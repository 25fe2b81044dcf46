-- Each build goes on from an accepted start of a run request, and no job is built twice.
use Rattle.std.proofs.Common.{◌≡◌, inl, inr, ℕ, zero, suc, ◌+◌, ◌<◌, ◌≤◌, ◌^◌, ◌||◌, ◌==◌, not, Bool, true}
use Rattle.std.proofs.Common.{false, cond, List, [], ◌∷◌, length, map, take, drop, codes, Option, Some, None}
use Rattle.std.proofs.Common.{Result, Ok, Err, refl, ap, ◌∙◌, sym, subst, arith}
use Rattle.std.specs.Prelude.{slice_get, find, is_some, ⊤}
use Rattle.std.specs.List.{AllByRecursion, list_any, cons_option}
use Rattle.std.specs.Option.{option_map}
use Rattle.std.proofs.lemmas.Bool.{cases_lt, eqb-true, false≢true}
use Rattle.std.proofs.lemmas.Option.{same_Some, slice_get_within}
use Rattle.dist_types.specs.Addr.{◌>>=◌, same_addr, IsAddr}
use Rattle.dist_types.specs.declared.addr.Addr.{Addr}
use Rattle.dist_types.specs.declared.ids.JobId.{JobId}
use Rattle.dist_types.specs.declared.outgoing.CallFault.{CallFault}
use Rattle.dist_types.specs.declared.outgoing.CallFault.TheVariants.{Lost}
use Rattle.dist_types.specs.declared.results.AssignJobResult.{AssignJobResult}
use Rattle.dist_types.specs.declared.results.JobState.TheVariants.{Started}
use Rattle.dist_types.specs.declared.results.UpdateJobStateResult.{UpdateJobStateResult}
use Rattle.dist_types.specs.declared.token_error.TokenError.{TokenError}
use Rattle.dist_types.proofs.AddrLemmas.{bind_some}
use Rattle.dist_token.specs.Verdict.{job_verdict}
use Rattle.dist_wire.specs.Reading.{toolchain_at, update_at}
use Rattle.dist_wire.specs.declared.run.RunJobHttpRequest.{RunJobHttpRequest}
use Rattle.core_rules.specs.Advance.{advance}
use Rattle.core_rules.specs.Laws.{IsRule, IsLegal}
use Rattle.core_rules.specs.Log.{Core}
use Rattle.core_rules.specs.Rows.{open_rows}
use Rattle.core_rules.specs.Rule.{rule}
use Rattle.core_rules.specs.Ticket.{Ticket}
use Rattle.core_rules.specs.declared.call.Call.TheVariants as call
use Rattle.core_rules.specs.declared.entry.CoreEntry.{CoreEntry}
use Rattle.core_rules.specs.declared.entry.CoreKind.{CoreKind}
use Rattle.core_rules.specs.declared.entry.CoreKind.TheVariants as core
use Rattle.core_rules.specs.declared.entry.Reserved.TheVariants.{Job, NoRoom, Spent}
use Rattle.core_rules.specs.declared.entry.UpdateAnswer.TheVariants.{Accepted}
use Rattle.core_rules.proofs.AddressLemmas.{same_is, same_self}
use Rattle.core_rules.proofs.AllLemmas.{or_true, same_job-refl}
use Rattle.http_head.specs.Head.{IsRequest}
use Rattle.http_head.specs.declared.request.Request.{Request}
use Rattle.http_routes.specs.CallReply.{IsAnswer}
use Rattle.http_routes.specs.InOrder.{NamesJob}
use Rattle.http_routes.specs.Message.{message_in}
use Rattle.http_routes.specs.Place.{run_job, submit_job, assign_job, of_job}
use Rattle.http_routes.specs.Replies.{update_reply}
use Rattle.http_routes.specs.Reply.{reply_text}
use Rattle.http_routes.specs.RunHead.{run_in}
use Rattle.http_routes.specs.Sender.{job_test, ShowsJob}
use Rattle.http_routes.specs.ServerRoute.{assign_of, submit_of, run_of, server_asked_of, server_answered}
use Rattle.http_routes.specs.ServerRoute.{IsServerAsked}
use Rattle.http_routes.specs.declared.refusal.Refusal.{Refusal}
use Rattle.http_routes.specs.declared.refusal.Refusal.TheVariants.{NoRoute}
use Rattle.http_routes.specs.declared.route.Asked.{Asked}
use Rattle.http_routes.specs.declared.route.SchedRouted.{SchedRouted}
use Rattle.http_routes.specs.declared.route.SchedRouted.TheVariants as asked
use Rattle.http_routes.specs.declared.server_route.ServerAsked.{ServerAsked}
use Rattle.http_routes.specs.declared.server_route.ServerRouted.{ServerRouted}
use Rattle.http_routes.specs.declared.server_route.ServerRouted.TheVariants as server_asked
use Rattle.http_routes.proofs.PlaceLemmas.{job_named}
use Rattle.http_routes.proofs.SenderLemmas.{job_shown}
use Rattle.http_routes.proofs.ServerLemmas.{one_question as one_server_question}
use Rattle.http_routes.proofs.StepLemmas.{ok_step, two_ok}
use Rattle.build_server.specs.Books.{held_for}
use Rattle.build_server.specs.Builds.{ran_of, built_of}
use Rattle.build_server.specs.Rules.{assign_verdict}
use Rattle.build_server.specs.declared.fault.ServerFault.{ServerFault}
use Rattle.build_server.specs.declared.run.Outcome.{Outcome}
use Rattle.build_server.specs.declared.run.Outcome.TheVariants as outcome
use Rattle.farm_script.specs.declared.event.Event.{Event}
use Rattle.farm_script.specs.declared.event.EventKind.{EventKind}
use Rattle.farm_script.specs.declared.event.EventKind.TheVariants.{Request as Brings, Deliver, Fail, Return}
use Rattle.farm_script.specs.declared.event.EventKind.TheVariants.{Answer, Beat, Restart}
use Rattle.farm_entries.specs.declared.site.Site.{Site as Setup}
use Rattle.farm_entries.specs.declared.site.SiteServer.{SiteServer as SetupServer}
use Rattle.farm_entries.specs.declared.entry.Effect.{Effect}
use Rattle.farm_entries.specs.declared.entry.Entry.{Entry}
use Rattle.farm_entries.specs.declared.entry.EntryWord.TheVariants.{Void, Down, Waiting, Died}
use Rattle.farm_entries.specs.declared.entry.OutCall.{OutCall}
use Rattle.farm_entries.specs.declared.entry.Reply.{Reply}
use Rattle.farm_entries.specs.declared.entry.Step.{Step}
use Rattle.farm_entries.specs.declared.entry.StepKind.{StepKind}
use Rattle.farm_entries.specs.declared.entry.StepKind.TheVariants as kinds
use Rattle.farm_entries.specs.declared.pending.Ask.{Ask}
use Rattle.farm_entries.specs.declared.pending.Ask.TheVariants.{Assign, Report}
use Rattle.farm_entries.specs.declared.pending.Pending.{Pending}
use Rattle.farm_entries.specs.declared.pending.Told.{Told}
use Rattle.farm_entries.specs.declared.pending.Told.TheVariants as told
use Rattle.farm_entries.specs.Answers.{hears, alloc_effect, answer_to}
use Rattle.farm_entries.specs.Begun.{IsMadeBy, IsCallOf, completion_by, completion_of}
use Rattle.farm_entries.specs.Builds.{SettlesCall, build_by, IsBuild, AreBuiltOnce, IsRunRequest, IsStart}
use Rattle.farm_entries.specs.Builds.{IsTaken, IsStarted, AreStarted, AreBuilds, HasToken, HasWords}
use Rattle.farm_entries.specs.Calls.{call_at, delivered_by, delivery_at, settles_by, is_void, waiting_at}
use Rattle.farm_entries.specs.Effects.{word_effect, effect_of, entry_of}
use Rattle.farm_entries.specs.Next.{GoesOn, IsSettled, IsMade, IsNext, EachNext, IsRun}
use Rattle.farm_entries.specs.Seen.{ids_start, core_log, core_of}
use Rattle.farm_entries.specs.Served.{assigned, served, told_of, books_of, state_call}
use Rattle.farm_entries.specs.Weather.{free, IsFree, opened_effect}
use Rattle.toolchain_cache.specs.Archives.{Archives}
use Rattle.farm_entries.specs.Servers.{ServerNow, server_of, server_at, server_now, is_over}
use Rattle.farm_entries.specs.Settled.{IsUpdated, assignment_end, unreported, running, ReadyEnds, StartedEnds}
use Rattle.farm_entries.specs.Settled.{complete_end}
use Rattle.farm_entries.specs.Settled.{Reports, Lives, ReportsIn}
use Rattle.farm_entries.specs.Ways.{Way, server_way, caller_by, caller_of, target_of, delivery_way}
use Rattle.farm_entries.specs.Ways.{return_way}
use Rattle.farm_entries.specs.Ways.{is_inside, beat_way, restart_way, way_of, brought_at, to_nothing}
use Rattle.farm_entries.specs.Ways.{to_nobody}
use Rattle.farm_entries.specs.Ways.{to_scheduler, to_server, to_call, to_beat, to_restart}
use Rattle.farm_laws.proofs.OneLemmas.{one_asked}
use Rattle.farm_laws.proofs.NextLemmas.{settles_it, way_settles, runs_lawful}
use Rattle.farm_laws.proofs.ReportLemmas.{state_asked, told_accepted}
use Rattle.farm_entries.proofs.StepLemmas.{server_setup}
use Rattle.farm_laws.proofs.SettleLemmas.{take_take, get_front, get_take, next_at, each_front, settled_once}
use Rattle.farm_laws.proofs.StartedLemmas.{starts_by, once, was_ready}
use Rattle.farm_laws.proofs.TakenLemmas.{held_took}

-- ---- lists

pub mapped : {A B : Type 0} (f : A → B) (o : Option A) (y : B) → option_map f o ≡ Some y → (x : A)
    × (o ≡ Some x) × (f x ≡ y)
mapped f None y e = absurd cc
mapped f (Some x) y e = (x, refl, same_Some (f x) y e)

every : {X : Type 0} (xs : List X) → AllByRecursion (λ x. Unit {0}) xs
every [] = tt
every (x ∷ xs) = (tt, every xs)

find_has : {X : Type 0} (P : X → Type 0) (p : X → Bool) (xs : List X) (x : X) → AllByRecursion P xs
    → find p xs ≡ Some x → P x × (p x ≡ true)
find_has P p [] x all e = absurd cc
find_has {X = X} P p (y ∷ ys) x all e = by_test (p y) refl (find_has P p ys x all.1) e
  where
    by_test : (b : Bool) → p y ≡ b → (find p ys ≡ Some x → P x × (p x ≡ true))
        → cond b (Some y) (find p ys) ≡ Some x → P x × (p x ≡ true)
    by_test true is rest e = subst (λ (z : X). P z × (p z ≡ true)) (same_Some y x e) (all.0, is)
    by_test false is rest e = rest e

pub get_past : {X : Type 0} (xs : List X) (n m : ℕ) → m ≤ n → slice_get (take m xs) n ≡ None
get_past [] n zero h = refl
get_past [] n (suc m) h = refl
get_past (x ∷ xs) n zero h = refl
get_past (x ∷ xs) zero (suc m) h = absurd (omega arith)
get_past (x ∷ xs) (suc n) (suc m) h = get_past xs n m (omega arith)

-- an entry's core entry is among those of a later front
pub core_among : (p : CoreEntry → Bool) (log : List Entry) (n m : ℕ) (e : Entry) (c : CoreEntry) → n < m
    → slice_get log n ≡ Some e → e.core ≡ Some c → p c ≡ true → list_any p (core_log (take m log)) ≡ true
core_among p [] n m e c lt at is on = absurd cc
core_among p (x ∷ xs) n zero e c lt at is on = absurd (omega arith)
core_among p (x ∷ xs) zero (suc m) e c lt at is on =
    let here : x.core ≡ Some c = ap (λ (y : Entry). y.core) (same_Some x e at) ∙ is in
    rw (here, on) refl
core_among p (x ∷ xs) (suc n) (suc m) e c lt at is on =
    by_core x.core (core_among p xs n m e c (omega arith) at is on)
  where
    by_core : (o : Option CoreEntry) → list_any p (core_log (take m xs)) ≡ true
        → list_any p (cons_option o (core_log (take m xs))) ≡ true
    by_core None h = h
    by_core (Some d) h = or_true (p d) (list_any p (core_log (take m xs))) h

-- ---- the server at an address

pub record Found (setup : Setup) (log : List Entry) (addr : Addr) (s : ServerNow) : Type 0 where
  pub server : SetupServer
  pub found : server_at setup addr ≡ Some server
  pub is : server_of server log ≡ s
  pub at : server.addr ≡ addr
  pub own : s.setup.addr ≡ addr

pub found_now : (setup : Setup) (log : List Entry) (addr : Addr) (s : ServerNow)
    → server_now setup log addr ≡ Some s → Found setup log addr s
found_now setup log addr s e =
    let m = mapped (λ (x : SetupServer). server_of x log) (server_at setup addr) s e in
    let at : m.0.addr ≡ addr =
    same_is m.0.addr addr (find_has (λ x. Unit {0}) (λ (x : SetupServer). same_addr x.addr addr)
    setup.servers m.0 (every setup.servers) m.1).1 in
    record {
      server = m.0;
      found = m.1;
      is = m.2;
      at = at;
      own = ap (λ (y : ServerNow). y.setup.addr) (sym m.2) ∙ ap (λ (x : SetupServer). x.addr)
          (server_setup m.0 log) ∙ at;
    }

-- its address is one
pub found_addr : (setup : Setup) (log : List Entry) (addr : Addr) (s : ServerNow) → HasWords setup
    → Found setup log addr s → IsAddr addr
found_addr setup log addr s words f =
    subst IsAddr f.at (find_has (λ (x : SetupServer). IsAddr x.addr)
    (λ (x : SetupServer). same_addr x.addr addr) setup.servers f.server words.servers f.found).0

-- ---- what a step tells of builds

-- the server and the job whose build a step tells, if it tells one
abbrev built_in : Option Step → Option (Addr × JobId)
built_in None = None
built_in (Some step) = option_map (λ j. (step.server, j)) (build_by step.kind)

abbrev IsBuildOf : Effect → Addr → JobId → Type 0
IsBuildOf x server job = ◌≡◌ {A = Option (Addr × JobId)} (built_in x.step) (Some (server, job))

quiet : (x : Effect) (server : Addr) (job : JobId) (y : Effect) → IsBuildOf x server job → x ≡ y
    → built_in y.step ≡ None → ⊥
quiet x server job y tells same none =
    let no : ◌≡◌ {A = Option (Addr × JobId)} None (Some (server, job)) = sym none
    ∙ ap (λ (z : Effect). built_in z.step) (sym same) ∙ tells in
    cc

ran_told : (addr server : Addr) (j job : JobId) (o : Outcome) → ◌≡◌ {A = Option (Addr × JobId)}
    (built_in (Some (record { server = addr; kind = kinds.Ran j (ran_of o) (built_of o) })))
    (Some (server, job))
    → (addr ≡ server) × (j ≡ job)
ran_told addr server j job outcome.None e = absurd cc
ran_told addr server j job (outcome.Unlisted tc) e = absurd cc
ran_told addr server j job (outcome.Folder tc) e = absurd cc
ran_told addr server j job (outcome.Built tc result) e = let p = same_Some _ _ e
    in (ap (λ (q : Addr × JobId). q.0) p, ap (λ (q : Addr × JobId). q.1) p)
ran_told addr server j job (outcome.Refused tc) e = let p = same_Some _ _ e
    in (ap (λ (q : Addr × JobId). q.0) p, ap (λ (q : Addr × JobId). q.1) p)

-- where nothing is held nothing is built
started_told : (setup : Setup) (s : ServerNow) (server : Addr) (j job : JobId) (went : Outcome)
    (o : Option (List ℕ)) → IsFree o went
    → IsBuildOf (running setup s.setup.addr j went) server job → (tc : List ℕ)
    × (o ≡ Some tc) × (s.setup.addr ≡ server) × (j ≡ job)
started_told setup s server j job went None f e =
    absurd (none_told (subst (λ (d : Outcome). IsBuildOf (running setup s.setup.addr j d) server job) f e))
  where
    none_told : IsBuildOf (running setup s.setup.addr j outcome.None) server job → ⊥
    none_told h = cc
started_told setup s server j job went (Some tc) f e =
    let p = ran_told s.setup.addr server j job went e in
    (tc, refl, p.0, p.1)

ready_quiet : (s : ServerNow) (root : ℕ) (json : Bool) (job : JobId) (archive : List ℕ)
    (r : Result UpdateJobStateResult CallFault) (x : Effect) → ReadyEnds free s root json job archive r x
    → built_in x.step ≡ None
ready_quiet s root json job archive (Ok u) x is = ap (λ (y : Effect). built_in y.step) is.2
ready_quiet s root json job archive (Err f) x is = ap (λ (y : Effect). built_in y.step) is

opened_quiet : (s : ServerNow) (o : Option Archives) → built_in (opened_effect s o).step ≡ None
opened_quiet s None = refl
opened_quiet s (Some list) = refl

complete_quiet : (addr : Addr) (root : ℕ) (json : Bool) (job : JobId) (o : Outcome)
    (r : Result UpdateJobStateResult CallFault) → built_in (complete_end addr root json job o r).step ≡ None
complete_quiet addr root json job o (Ok u) = refl
complete_quiet addr root json job o (Err f) = refl

assignment_quiet : (s : Core) (root : ℕ) (json : Bool) (at : ℕ) (t : Ticket)
    (r : Result AssignJobResult CallFault) → built_in (assignment_end s root json at t r).step ≡ None
assignment_quiet s root json at t (Ok a) = refl
assignment_quiet s root json at t (Err f) = refl

allocated_quiet : (s : Core) (number : ℕ) (json : Bool) (tc : List ℕ) (made : CoreEntry) (k : CoreKind)
    → built_in (alloc_effect s number json tc made k).step ≡ None
allocated_quiet s number json tc made (core.Reserve (Job job reg forgiven)) = refl
allocated_quiet s number json tc made (core.Reserve (NoRoom standing)) = refl
allocated_quiet s number json tc made (core.Reserve Spent) = refl
allocated_quiet s number json tc made (core.Commit job state kept) = refl
allocated_quiet s number json tc made (core.Undo job noted ended) = refl
allocated_quiet s number json tc made (core.Beat server nonce cpus key pruned reaped replaced is_new) = refl
allocated_quiet s number json tc made (core.Update server job state given) = refl
allocated_quiet s number json tc made (core.Status pruned servers cpus jobs) = refl
allocated_quiet s number json tc made (core.Drain addr nonce on named) = refl

either_quiet : (b : Bool) (x y : Effect) → built_in x.step ≡ None → built_in y.step ≡ None
    → built_in (cond b x y).step ≡ None
either_quiet true x y h k = h
either_quiet false x y h k = k

answer_quiet : (s : Core) (number at : ℕ) (json : Bool) (what : SchedRouted)
    → built_in (answer_to s number at json what).step ≡ None
answer_quiet s number at json (asked.Alloc tc) = allocated_quiet s number json tc (rule s (call.Reserve at))
    (rule s (call.Reserve at)).kind
answer_quiet s number at json (asked.Beat server beat) = either_quiet (hears beat.num_cpus) _ _ refl refl
answer_quiet s number at json (asked.Update server job state) = refl
answer_quiet s number at json asked.Status = refl
answer_quiet s number at json (asked.Drain server drain) = refl
answer_quiet s number at json (asked.Done response) = refl

assigned_quiet : (addr : Addr) (number : ℕ) (json : Bool) (job : JobId) (tc : List ℕ)
    (r : Result AssignJobResult ServerFault) → built_in (assigned addr number json job tc r).step ≡ None
assigned_quiet addr number json job tc (Ok a) = refl
assigned_quiet addr number json job tc (Err e) = refl

served_quiet : (setup : Setup) (s : ServerNow) (number : ℕ) (json : Bool) (what : ServerRouted)
    → built_in (served setup s number json what).step ≡ None
served_quiet setup s number json (server_asked.Assign job tc) = assigned_quiet s.setup.addr number json job tc
    (assign_verdict (books_of s) job tc)
served_quiet setup s number json (server_asked.Submit job) = refl
served_quiet setup s number json (server_asked.Run job run at) = refl
served_quiet setup s number json (server_asked.Done response) = refl

-- ---- what was settled where a build is told

-- that a report of the server that the job is started was taken, in the life that made it, where the server
-- holds the job
record Ended (setup : Setup) (log : List Entry) (n : ℕ) (reply : Option (List ℕ)) (x : Effect) (server : Addr)
    (job : JobId) : Type 0 where
  pending : Pending
  of_call : IsCallOf setup log n pending
  run : RunJobHttpRequest
  place : ℕ
  now : ServerNow
  now_is : server_now setup log server ≡ Some now
  asks : pending.ask ≡ Report server now.life (told.Started job run place)
  answer : UpdateJobStateResult
  accepted : IsUpdated reply (Ok answer)
  tc : List ℕ
  held : held_for job now.held ≡ Some tc
  word : x.word ≡ Some Waiting

not_off : (b : Bool) → not b ≡ false → b ≡ true
not_off true h = refl
not_off false h = absurd (false≢true (sym h))

module _ (setup : Setup) (log : List Entry) (at n : ℕ) (reply : Option (List ℕ)) (x : Effect) (server : Addr)
    (job : JobId) (tells : IsBuildOf x server job) where
  module _ (p : Pending) (of_call : IsCallOf setup log n p) where
    module _ (addr : Addr) (life : ℕ) (s : ServerNow) (now : server_now setup log addr ≡ Some s) where
      by_answer : s.life ≡ life → (j : JobId) (run : RunJobHttpRequest) (place : ℕ)
          → p.ask ≡ Report addr life (told.Started j run place) → (r : Result UpdateJobStateResult CallFault)
          → IsUpdated reply r
          → StartedEnds free setup s p.root j run (drop place (brought_at log p.root)) r x
          → Ended setup log n reply x server job
      by_answer lives j run place asks (Err f) up same =
          absurd (quiet x server job (unreported s.setup.addr p.root j f) tells same refl)
      by_answer lives j run place asks (Ok u) up (went, works, same) =
          let d = started_told setup s server j job went (held_for j s.held) works
          (ap (λ (z : Effect). built_in z.step) (sym same) ∙ tells) in
          let addr_is : addr ≡ server = sym (found_now setup log addr s now).own ∙ d.2 in
          record {
            pending = p;
            of_call = of_call;
            run = run;
            place = place;
            now = s;
            now_is = ap (server_now setup log) (sym addr_is) ∙ now;
            asks = asks ∙ (λ i. Report (addr_is i) (sym lives i) (told.Started (d.3 i) run place));
            answer = u;
            accepted = up;
            tc = d.0;
            held = ap (λ (y : JobId). held_for y s.held) (sym d.3) ∙ d.1;
            word = ap (λ (z : Effect). z.word) same;
          }

      by_report : s.life ≡ life → (t : Told) → p.ask ≡ Report addr life t
          → Reports free setup s (brought_at log p.root) p.root p.json reply t x
          → Ended setup log n reply x server job
      by_report lives (told.Ready j place) asks is =
          absurd (quiet x server job x tells refl
          (ready_quiet s p.root p.json j (drop place (brought_at log p.root)) is.0 x is.2))
      by_report lives (told.Started j run place) asks is = by_answer lives j run place asks is.0 is.1 is.2
      by_report lives (told.Complete j o) asks is =
          absurd (quiet x server job (complete_end s.setup.addr p.root p.json j o is.0) tells is.2
          (complete_quiet s.setup.addr p.root p.json j o is.0))
      by_report lives told.Heartbeat asks is = absurd (quiet x server job _ tells is.2 refl)

      by_life : (over : Bool) → is_over life s ≡ over → (t : Told) → p.ask ≡ Report addr life t
          → Lives free setup life s (brought_at log p.root) p.root p.json reply t over x
          → Ended setup log n reply x server job
      by_life true is t asks h = absurd (quiet x server job (word_effect Died) tells h refl)
      by_life false is t asks h = by_report (eqb-true s.life life (not_off (s.life == life) is)) t asks h

    by_now : (addr : Addr) (life : ℕ) (o : Option ServerNow) → server_now setup log addr ≡ o → (t : Told)
        → p.ask ≡ Report addr life t → ReportsIn free setup life (brought_at log p.root) p.root p.json reply
        t o x
        → Ended setup log n reply x server job
    by_now addr life None now t asks h = absurd (quiet x server job (word_effect Died) tells h refl)
    by_now addr life (Some s) now t asks h = by_life addr life s now (is_over life s) refl t asks h

    by_ask : (ask : Ask) → p.ask ≡ ask → GoesOn free setup log at p.root p.json reply ask x
        → Ended setup log n reply x server job
    by_ask (Assign t) asks h =
        absurd (quiet x server job (assignment_end (core_of setup log) p.root p.json at t h.0) tells h.2
        (assignment_quiet (core_of setup log) p.root p.json at t h.0))
    by_ask (Report addr life t) asks h = by_now addr life (server_now setup log addr) refl t asks h

  settled_ended : (o : Option Entry) → IsSettled free setup log at n reply o x
      → Ended setup log n reply x server job
  settled_ended None h = absurd (quiet x server job (word_effect Void) tells h refl)
  settled_ended (Some w) h = by_ask h.0 h.1 h.0.ask refl h.2

way_ended : (setup : Setup) (log : List Entry) (at : ℕ) (way : Way) (x : Effect) (server : Addr) (job : JobId)
    → IsBuildOf x server job → IsMade free setup log at way x
    → (n : ℕ) × (reply : Option (List ℕ)) × (way ≡ to_call n reply) × Ended setup log n reply x server job
way_ended setup log at (to_call n reply) x server job tells h =
    (n, reply, refl, settled_ended setup log at n reply x server job tells (waiting_at log n) h)
way_ended setup log at (to_scheduler peer bytes) x server job tells h =
    absurd (quiet x server job (answer_to (core_of setup log) (length log) at h.0.json h.0.what) tells h.2
    (answer_quiet (core_of setup log) (length log) at h.0.json h.0.what))
way_ended setup log at (to_server s bytes) x server job tells h =
    absurd (quiet x server job (served setup s (length log) h.0.json h.0.what) tells h.2
    (served_quiet setup s (length log) h.0.json h.0.what))
way_ended setup log at (to_beat s) x server job tells h = absurd (quiet x server job _ tells h refl)
way_ended setup log at (to_restart s key nonce) x server job tells h =
    absurd (quiet x server job (opened_effect s h.0) tells h.2 (opened_quiet s h.0))
way_ended setup log at to_nobody x server job tells h =
    absurd (quiet x server job (word_effect Down) tells h refl)
way_ended setup log at to_nothing x server job tells h =
    absurd (quiet x server job (word_effect Void) tells h refl)

-- ---- the run request

abbrev run_front : List ℕ
run_front = codes "/api/v1/distserver/run_job/"

module _ (verdict : ℕ → List ℕ → Result ⊤ TokenError) (r : Request) (job : JobId) (run : RunJobHttpRequest)
    (place : ℕ) where
  assign_no : (j : JobId) → assign_of verdict r j ≡ Ok (server_asked.Run job run place) → ⊥
  unfolding assign_of
  assign_no j e =
      let p = two_ok (job_test verdict r j) (message_in toolchain_at r) (λ u tc. server_asked.Assign j tc)
      (server_asked.Run job run place) e in
      let no : server_asked.Assign j p.1 ≡ server_asked.Run job run place = p.4 in
      cc

  submit_no : (j : JobId) → submit_of verdict r j ≡ Ok (server_asked.Run job run place) → ⊥
  unfolding submit_of
  submit_no j e =
      let p = ok_step (job_test verdict r j) (λ u. Ok (server_asked.Submit j))
      (server_asked.Run job run place) e in
      let no : Ok (server_asked.Submit j) ≡ Ok (server_asked.Run job run place) = p.2 in
      cc

  run_shows : (j : JobId) → run_job r ≡ Some j → run_of verdict r j ≡ Ok (server_asked.Run job run place)
      → NamesJob r run_front job × ShowsJob r verdict job
  unfolding run_of run_job
  run_shows j at e =
      let p = two_ok (job_test verdict r j) (run_in r.body)
      (λ u (x : RunJobHttpRequest × ℕ). server_asked.Run j x.0 x.1) (server_asked.Run job run place) e in
      let both : server_asked.Run j p.1.0 p.1.1 ≡ server_asked.Run job run place = p.4 in
      let same : j ≡ job = cc in (
        subst (λ (x : JobId). NamesJob r run_front x) same (job_named run_front r j at),
        subst (λ (x : JobId). ShowsJob r verdict x) same (job_shown verdict r j p.2),
      )

  shows : server_asked_of verdict r ≡ Ok (server_asked.Run job run place) → NamesJob r run_front job
      × ShowsJob r verdict job
  unfolding server_asked_of
  shows e = by_jobs (assign_job r) (submit_job r) (run_job r) refl e
    where
      by_jobs : (a s u : Option JobId) → run_job r ≡ u
          → of_job (assign_of verdict r)
          (of_job (submit_of verdict r) (of_job (run_of verdict r) (Err NoRoute) u) s) a ≡ Ok
          (server_asked.Run job run place)
          → NamesJob r run_front job × ShowsJob r verdict job
      by_jobs (Some j) s u at_u h = absurd (assign_no j h)
      by_jobs None (Some j) u at_u h = absurd (submit_no j h)
      by_jobs None None (Some j) at_u h = run_shows j at_u h
      by_jobs None None None at_u h = absurd cc

pub run_asked : (verdict : ℕ → List ℕ → Result ⊤ TokenError) (bytes : List ℕ) (a : ServerAsked) (job : JobId)
    (run : RunJobHttpRequest) (place : ℕ) → IsServerAsked verdict bytes a
    → a.what ≡ server_asked.Run job run place
    → (r : Request) × IsRequest bytes r × NamesJob r run_front job × ShowsJob r verdict job
run_asked verdict bytes a job run place (inr (none, e)) is =
    let no = sym (ap (λ (c : ServerAsked). c.what) e) ∙ is in
    absurd cc
run_asked verdict bytes a job run place (inl (r, x, e)) is =
    let s = shows verdict r job run place
    (by_result (server_asked_of verdict r) (sym is ∙ ap (λ (c : ServerAsked). c.what) e)) in
    (r, x, s.0, s.1)
  where
    by_result : (y : Result ServerRouted Refusal) → server_asked.Run job run place ≡ server_answered y
        → y ≡ Ok (server_asked.Run job run place)
    by_result (Ok y) h = ap Ok (sym h)
    by_result (Err d) h = absurd cc

told_run : (body : ℕ) (w : ServerRouted) (job : JobId) (run : RunJobHttpRequest) (place : ℕ)
    → told_of body w ≡ Some (told.Started job run place) → (at : ℕ) × (w ≡ server_asked.Run job run at)
told_run body (server_asked.Assign j tc) job run place e = absurd cc
told_run body (server_asked.Submit j) job run place e =
    let no : told.Ready j body ≡ told.Started job run place = same_Some _ _ e in
    absurd cc
told_run body (server_asked.Run j r at) job run place e =
    let same : told.Started j r (body + at) ≡ told.Started job run place = same_Some _ _ e in
    let one : j ≡ job = cc in
    let two : r ≡ run = cc in
    (at, λ i. server_asked.Run (one i) (two i) at)
told_run body (server_asked.Done response) job run place e = absurd cc

no_completion : (root : ℕ) (json : Bool) (addr : Addr) (life : ℕ) (k : StepKind) (p : Pending) (server : Addr)
    (l : ℕ) (job : JobId) (run : RunJobHttpRequest) (place : ℕ)
    → completion_by root json addr life k ≡ Some p → p.ask ≡ Report server l (told.Started job run place) → ⊥
no_completion root json addr life (kinds.Ran j ran result) p server l job run place e asks =
    let same = same_Some _ p e in
    let no = ap (λ (q : Pending). q.ask) same ∙ asks in
    cc
no_completion root json addr life (kinds.Heard as_what) p server l job run place e asks = cc
no_completion root json addr life (kinds.Assigned j tc ready) p server l job run place e asks = cc
no_completion root json addr life (kinds.Submitted j o) p server l job run place e asks = cc
no_completion root json addr life (kinds.Finished j) p server l job run place e asks = cc
no_completion root json addr life (kinds.Unreported j) p server l job run place e asks = cc
no_completion root json addr life (kinds.Opened archives) p server l job run place e asks = cc

no_run : (q : Pending) (ask : Ask) (step : Option Step) (p : Pending) (server : Addr) (l : ℕ) (job : JobId)
    (run : RunJobHttpRequest) (place : ℕ)
    → completion_of q ask step ≡ Some p → p.ask ≡ Report server l (told.Started job run place) → ⊥
no_run q (Assign u) step p server l job run place e asks = cc
no_run q (Report addr life t) None p server l job run place e asks = cc
no_run q (Report addr life t) (Some step) p server l job run place e asks =
    no_completion q.root q.json addr life step.kind p server l job run place e asks

module _ (setup : Setup) (entries : List Entry) (n : ℕ) (e : Entry) (there : slice_get entries n ≡ Some e)
    (p : Pending) (server : Addr) (life : ℕ) (job : JobId) (run : RunJobHttpRequest) (place : ℕ)
    (asks : p.ask ≡ Report server life (told.Started job run place)) where
  requested : (way : Way) → way_of setup (take n entries) e.event.kind ≡ way
      → IsMadeBy setup (take n entries) way (effect_of e) p → (x : Effect) → e ≡ entry_of e.event x
      → IsMade free setup (take n entries) e.event.at way x → IsRunRequest setup entries n server life job
  requested (to_server s bytes) same (a, shown, rep) x is (b, shown_b, x_is) =
      let all : Report s.setup.addr s.life rep.told ≡ Report server life (told.Started job run place) =
      sym (ap (λ (q : Pending). q.ask) rep.is) ∙ asks in
      let own : s.setup.addr ≡ server = cc in
      let lives : s.life ≡ life = cc in
      let told_is : rep.told ≡ told.Started job run place = cc in
      let w = told_run a.body a.what job run place (rep.begins ∙ ap (λ (t : Told). Some t) told_is) in
      let q = run_asked (job_verdict s.key) bytes a job run w.0 shown w.1 in
      let one : b ≡ a = one_server_question (job_verdict s.key) bytes b a shown_b shown in
      let what_is : b.what ≡ server_asked.Run job run w.0 = ap (λ (c : ServerAsked). c.what) one ∙ w.1 in
      record {
        entry = e;
        there = there;
        now = s;
        bytes = bytes;
        comes = same;
        at = own;
        lives = lives;
        request = q.0;
        is_request = q.1;
        names = q.2;
        shows = q.3;
        tells = ap (λ (y : Entry). y.call) is ∙ ap (λ (z : Effect). z.call) x_is
            ∙ ap (λ (c : ServerRouted). (served setup s (length (take n entries)) b.json c).call) what_is
            ∙ ap (λ (c : Addr). Some (state_call setup c job Started)) own;
      }
  requested (to_scheduler peer bytes) same (a, shown, rep) x is h =
      let no : Assign rep.ticket ≡ Report server life (told.Started job run place) =
      sym (ap (λ (q : Pending). q.ask) rep.is) ∙ asks in absurd cc
  requested (to_beat s) same made x is h = let no : Report s.setup.addr s.life told.Heartbeat ≡ Report server
      life (told.Started job run place) = sym (ap (λ (q : Pending). q.ask) made) ∙ asks in absurd cc
  requested (to_call m reply) same made x is h =
      absurd (no_run made.first made.first.ask e.step p server life job run place made.is asks)
  requested to_nothing same made x is h = absurd made
  requested to_nobody same made x is h = absurd made
  requested (to_restart s key nonce) same made x is h = absurd made

-- ---- the delivery

server_comes : (bytes bs : List ℕ) (o : Option ServerNow) (s : ServerNow)
    → server_way bs o ≡ to_server s bytes → o ≡ Some s
server_comes bytes bs None s e = absurd cc
server_comes bytes bs (Some t) s e = by_test t.running e
  where
    by_test : (b : Bool) → cond b (to_server t bs) to_nobody ≡ to_server s bytes → Some t ≡ Some s
    by_test true h = let same : t ≡ s = cc in ap (λ (u : ServerNow). Some u) same
    by_test false h = absurd cc

way_comes : (b : Bool) (peer : Addr) (bytes bs : List ℕ) (o : Option ServerNow) (s : ServerNow)
    → cond b (to_scheduler peer bs) (server_way bs o) ≡ to_server s bytes → o ≡ Some s
way_comes true peer bytes bs o s e = absurd cc
way_comes false peer bytes bs o s e = server_comes bytes bs o s e

pub no_return : (o : Option (ℕ × List ℕ)) (s : ServerNow) (bytes : List ℕ) → return_way o ≡ to_server s bytes
    → ⊥
no_return None s bytes e = cc
no_return (Some p) s bytes e = cc

pub no_outside : (b : Bool) (c : ℕ) (bs : List ℕ) (s : ServerNow) (bytes : List ℕ)
    → cond b to_nothing (to_call c (Some bs)) ≡ to_server s bytes → ⊥
no_outside true c bs s bytes e = cc
no_outside false c bs s bytes e = cc

pub no_beat : (o : Option ServerNow) (s : ServerNow) (bytes : List ℕ) → beat_way o ≡ to_server s bytes → ⊥
no_beat None s bytes e = cc
no_beat (Some t) s bytes e = by_test t.running e
  where
    by_test : (b : Bool) → cond b (to_beat t) to_nobody ≡ to_server s bytes → ⊥
    by_test true h = cc
    by_test false h = cc

pub no_restart : (key : List ℕ) (nonce : ℕ) (o : Option ServerNow) (s : ServerNow) (bytes : List ℕ)
    → restart_way key nonce o ≡ to_server s bytes → ⊥
no_restart key nonce None s bytes e = cc
no_restart key nonce (Some t) s bytes e = cc

pub call_later : (entries : List Entry) (c n d : ℕ) (oc : OutCall) → n < d
    → call_at (take n entries) c ≡ Some oc → call_at (take d entries) c ≡ Some oc
call_later entries c n d oc lt is =
    let a = bind_some (slice_get (take n entries) c) _ oc is in
    let g = get_front entries c n a.0 a.1 in
    ap (λ (o : Option Entry). o >>= λ e. e.call) (get_take entries c d (omega (arith, lt, g.0)) ∙ g.1) ∙ a.2

-- who makes the call of an entry whose event comes to a server is that server
pub caller_is : (setup : Setup) (entries : List Entry) (n d : ℕ) (step : Option Step) (k : EventKind)
    (s : ServerNow) (bytes : List ℕ) → n < d → way_of setup (take n entries) k ≡ to_server s bytes
    → caller_by setup (take d entries) step k ≡ s.setup.addr
caller_is setup entries n d step (Brings target peer bs) s bytes lt e =
    sym (found_now setup (take n entries) target s
    (way_comes (same_addr target setup.scheduler.addr) peer bytes bs
    (server_now setup (take n entries) target) s e)).own
caller_is setup entries n d step (Deliver c) s bytes lt e = by_call (call_at (take n entries) c) refl e
  where
    by_call : (o : Option OutCall) → call_at (take n entries) c ≡ o → delivery_way setup (take n entries)
        (caller_of setup (take n entries) (slice_get (take n entries) c)) o ≡ to_server s bytes
        → target_of (call_at (take d entries) c) setup.scheduler.addr ≡ s.setup.addr
    by_call None is h = absurd cc
    by_call (Some oc) is h =
        ap (λ (o : Option OutCall). target_of o setup.scheduler.addr) (call_later entries c n d oc lt is)
        ∙ sym (found_now setup (take n entries) oc.target s
        (way_comes (same_addr oc.target setup.scheduler.addr)
        (caller_of setup (take n entries) (slice_get (take n entries) c)) bytes oc.bytes
        (server_now setup (take n entries) oc.target) s h)).own
caller_is setup entries n d step (Fail c) s bytes lt e = absurd cc
caller_is setup entries n d step (Return r) s bytes lt e =
    absurd (no_return (delivery_at (take n entries) r) s bytes e)
caller_is setup entries n d step (Answer c bs) s bytes lt e =
    absurd (no_outside (is_inside setup (call_at (take n entries) c)) c bs s bytes e)
caller_is setup entries n d step (Beat server) s bytes lt e =
    absurd (no_beat (server_now setup (take n entries) server) s bytes e)
caller_is setup entries n d step (Restart server key nonce) s bytes lt e =
    absurd (no_restart key nonce (server_now setup (take n entries) server) s bytes e)

-- what was delivered and accepted
record Start (setup : Setup) (entries : List Entry) (d n : ℕ) (server : Addr) (job : JobId) : Type 0 where
  before : n < d
  entry : Entry
  there : slice_get entries d ≡ Some entry
  delivers : entry.event.kind ≡ Deliver n
  made : CoreEntry
  kind : made.kind ≡ core.Update server job Started Accepted
  core : entry.core ≡ Some made
  is_rule : IsRule (core_of setup (take d entries)) made

module _ (setup : Setup) (words : HasWords setup) (entries : List Entry) (n : ℕ) (server : Addr) (life : ℕ)
    (job : JobId) (req : IsRunRequest setup entries n server life job) (is_addr : IsAddr server)
    (fits : job.0 < 2 ^ 64)
    (d : ℕ) (e : Entry) (there : slice_get entries d ≡ Some e) (delivers : e.event.kind ≡ Deliver n)
    (r : Reply) (replies : e.reply ≡ Some r) (u : UpdateJobStateResult)
    (is_told : IsAnswer update_at r.bytes (Ok u))
    (x : Effect) (made : IsMade free setup (take d entries) e.event.at
    (way_of setup (take d entries) e.event.kind)
    x) (is : e ≡ entry_of e.event x) where
  abbrev sent : OutCall
  sent = state_call setup server job Started

  nothing : d ≤ n → ⊥
  nothing past =
      let none : call_at (take d entries) n ≡ None = ap (λ (o : Option Entry). o >>= λ y. y.call)
      (get_past entries n d past) in
      let way : way_of setup (take d entries) e.event.kind ≡ to_nothing =
      ap (way_of setup (take d entries)) delivers
      ∙ ap (λ (o : Option OutCall). delivery_way setup (take d entries)
      (caller_of setup (take d entries) (slice_get (take d entries) n)) o) none in
      let void : x ≡ word_effect Void = subst (λ (w : Way). IsMade free setup (take d entries) e.event.at w
      x) way
      made in
      let no : None ≡ Some r = sym (ap (λ (z : Effect). z.reply) void) ∙ sym (ap (λ (y : Entry). y.reply) is)
      ∙ replies in
      cc

  arrives : n < d → way_of setup (take d entries) e.event.kind ≡ to_scheduler server sent.bytes
  arrives lt =
      let here : slice_get (take d entries) n ≡ Some req.entry = get_take entries n d lt ∙ req.there in
      let caller : Addr = caller_by setup (take d entries) req.entry.step req.entry.event.kind in
      ap (way_of setup (take d entries)) delivers
      ∙ (λ i. delivery_way setup (take d entries) (caller_of setup (take d entries) (here i))
      ((ap (λ (o : Option Entry). o >>= λ y. y.call) here ∙ req.tells) i))
      ∙ ap (λ (b : Bool). cond b (to_scheduler caller sent.bytes)
      (server_way sent.bytes (server_now setup (take d entries) setup.scheduler.addr)))
      (same_self setup.scheduler.addr)
      ∙ ap (λ (a : Addr). to_scheduler a sent.bytes)
      (caller_is setup entries n d req.entry.step req.entry.event.kind req.now req.bytes lt req.comes
      ∙ req.at)

  start_after : n < d → Start setup entries d n server job
  start_after lt =
      let s = core_of setup (take d entries) in
      let (a, shown, x_is) = subst (λ (w : Way). IsMade free setup (take d entries) e.event.at w x)
      (arrives lt) made in
      let wanted : Asked = record { what = asked.Update server job Started; json = false } in
      let one : a ≡ wanted = one_asked setup server sent.bytes a wanted shown
      (state_asked setup server job Started words is_addr fits) in
      let answer = advance (open_rows s.log) server job Started in
      let same : x ≡ answer_to s (length (take d entries)) e.event.at false
      (asked.Update server job Started) =
      x_is ∙ ap (λ (c : Asked). answer_to s (length (take d entries)) e.event.at c.json c.what) one in
      let reply_is : r.bytes ≡ reply_text (update_reply false answer server job Started) =
      ap (λ (y : Reply). y.bytes)
      (same_Some r _ (sym replies ∙ ap (λ (y : Entry). y.reply) is ∙ ap (λ (z : Effect). z.reply) same))
      in
      let accepted : answer ≡ Accepted = told_accepted update_at false answer server job Started u fits
      is_addr (subst (λ (b : List ℕ). IsAnswer update_at b (Ok u)) reply_is is_told) in
      record {
        before = lt;
        entry = e;
        there = there;
        delivers = delivers;
        made = rule s (call.Update e.event.at server job Started);
        kind = ap (λ (y : _). core.Update server job Started y) accepted;
        core = ap (λ (y : Entry). y.core) is ∙ ap (λ (z : Effect). z.core) same;
        is_rule = (call.Update e.event.at server job Started, tt, refl);
      }

  start_of : Start setup entries d n server job
  start_of = elim (cases_lt n d) [
    | inl lt ↦ start_after lt
    | inr past ↦ absurd (nothing past)
  ]

-- ---- the return

deliver_kind : (k : EventKind) (c : ℕ) → delivered_by k ≡ Some c → k ≡ Deliver c
deliver_kind (Deliver c) n e = ap (λ (m : ℕ). Deliver m) (same_Some c n e)
deliver_kind (Brings target peer bytes) n e = absurd cc
deliver_kind (Fail c) n e = absurd cc
deliver_kind (Return d) n e = absurd cc
deliver_kind (Answer c bytes) n e = absurd cc
deliver_kind (Beat server) n e = absurd cc
deliver_kind (Restart server key nonce) n e = absurd cc

-- the parts of a delivery that got a reply
pub record Delivered (log : List Entry) (d n : ℕ) (bytes : List ℕ) : Type 0 where
  pub entry : Entry
  pub there : slice_get log d ≡ Some entry
  pub delivers : entry.event.kind ≡ Deliver n
  pub reply : Reply
  pub replies : entry.reply ≡ Some reply
  pub text : reply.bytes ≡ bytes

pub delivered : (log : List Entry) (d n : ℕ) (bytes : List ℕ) → ◌≡◌ {A = Option (ℕ × List ℕ)}
    (delivery_at log d) (Some (n, bytes)) → Delivered log d n bytes
delivered log d n bytes e =
    let p = bind_some (slice_get log d) (λ x. delivered_by x.event.kind >>= λ c. x.reply >>= λ r.
    Some (c, r.bytes)) (n, bytes) e in
    let q = bind_some (delivered_by p.0.event.kind) (λ c. p.0.reply >>= λ r. Some (c, r.bytes)) (n, bytes) p.2
    in
    let r = bind_some p.0.reply (λ r. Some (q.0, r.bytes)) (n, bytes) q.2 in
    let both = same_Some (q.0, r.0.bytes) (n, bytes) r.2 in
    record {
      entry = p.0;
      there = p.1;
      delivers = deliver_kind p.0.event.kind q.0 q.1 ∙ ap (λ (y : ℕ × List ℕ). Deliver y.0) both;
      reply = r.0;
      replies = r.1;
      text = ap (λ (y : ℕ × List ℕ). y.1) both;
    }

-- a reply to a call into the farm comes back from a delivery
module _ (setup : Setup) (log : List Entry) (n : ℕ) (bytes : List ℕ)
    (inside : is_inside setup (call_at log n) ≡ true) where
  abbrev Names : Option (ℕ × Option (List ℕ)) → Type 0
  Names o = ◌≡◌ {A = Option (ℕ × Option (List ℕ))} o (Some (n, Some bytes))

  by_kind : (k : EventKind) → way_of setup log k ≡ to_call n (Some bytes) → Names (settles_by log k) → (d : ℕ)
      × (k ≡ Return d) × ◌≡◌ {A = Option (ℕ × List ℕ)} (delivery_at log d) (Some (n, bytes))
  by_kind (Brings target peer bs) way e = absurd cc
  by_kind (Deliver c) way e = absurd cc
  by_kind (Fail c) way e = let no : ◌≡◌ {A = Option (List ℕ)} None (Some bytes) =
      ap (λ (p : ℕ × Option (List ℕ)). p.1) (same_Some _ _ e) in absurd cc
  by_kind (Return d) way e =
      let m = mapped (λ (p : ℕ × List ℕ). let q : ℕ × Option (List ℕ) = (p.0, Some p.1) in q)
      (delivery_at log d) (n, Some bytes) e in
      let number : m.0.0 ≡ n = ap (λ (p : ℕ × Option (List ℕ)). p.0) m.2 in
      let reply : m.0.1 ≡ bytes = same_Some m.0.1 bytes (ap (λ (p : ℕ × Option (List ℕ)). p.1) m.2) in
      (d, refl, m.1 ∙ (λ i. let p : ℕ × List ℕ = (number i, reply i) in Some p))
  by_kind (Answer c bs) way e =
      let number : c ≡ n = ap (λ (p : ℕ × Option (List ℕ)). p.0) (same_Some _ _ e) in
      let on : is_inside setup (call_at log c) ≡ true = ap (λ (m : ℕ). is_inside setup (call_at log m)) number
      ∙ inside in
      let no : to_nothing ≡ to_call n (Some bytes) =
      sym (ap (λ (b : Bool). cond b to_nothing (to_call c (Some bs))) on) ∙ way in
      absurd cc
  by_kind (Beat server) way e = absurd cc
  by_kind (Restart server key nonce) way e = absurd cc

-- ---- the runs

module _ (setup : Setup) (events : List Event) (entries : List Entry) (fits : setup.scheduler.count < 2 ^ 64)
    (words : HasWords setup) (each : EachNext free setup [] events entries) where
  -- all that is known of a build
  record Full (b : ℕ) (server : Addr) (job : JobId) : Type 0 where
    started : IsStarted setup entries b server job
    start : Start setup entries started.delivery started.request server job
    settles : SettlesCall entries started.request b

  next : (n : ℕ) (e : Entry) → slice_get entries n ≡ Some e → IsNext free setup (take n entries) e.event e
  next n e there = next_at free setup [] events entries n e each there

  legal : (n : ℕ) → IsLegal (ids_start setup) (core_log (take n entries))
  legal n = (runs_lawful setup events entries fits each n).legal

  starts : (d n : ℕ) (server : Addr) (job : JobId) (s : Start setup entries d n server job)
      → starts_by s.made.kind job ≡ true
  starts d n server job s = ap (λ (k : CoreKind). starts_by k job) s.kind ∙ same_job-refl job

  is_start : (d n : ℕ) (server : Addr) (job : JobId) → Start setup entries d n server job
      → IsStart entries d n server job
  is_start d n server job s = record {
    entry = s.entry;
    there = s.there;
    delivers = s.delivers;
    at = s.made.now;
    accepts = s.core ∙ (λ i. Some (record { now = s.made.now; kind = s.kind i }));
    was = was_ready (ids_start setup) (core_log (take d entries)) s.made job fits
        (legal d) s.is_rule (starts d n server job s);
  }

  module _ (b : ℕ) (e : Entry) (server : Addr) (job : JobId) (there : slice_get entries b ≡ Some e)
      (x : Effect) (is : e ≡ entry_of e.event x) (n : ℕ) where
    is_taken : (reply : Option (List ℕ)) (h : Ended setup (take b entries) n reply x server job)
        → (a : ℕ) × (a < b) × IsTaken setup entries a server h.now.life job
    is_taken reply h =
        let f = found_now setup (take b entries) server h.now h.now_is in
        let t = held_took f.server entries b job h.tc (ap (λ (s : ServerNow). held_for job s.held) f.is
        ∙ h.held) in (
          t.place,
          t.before,
          record {
            entry = t.entry;
            there = t.there;
            tc = t.takes.tc;
            ready = t.takes.ready;
            takes = t.takes.is ∙ ap (λ (a : Addr).
                Some (record { server = a; kind = kinds.Assigned job t.takes.tc t.takes.ready })) f.at;
            now = server_of f.server (take (suc t.place) entries);
            at = ap (option_map (λ (s : SetupServer). server_of s (take (suc t.place) entries))) f.found;
            lives = t.lives ∙ ap (λ (s : ServerNow). s.life) f.is;
          },
        )

    is_requested : (reply : Option (List ℕ)) (h : Ended setup (take b entries) n reply x server job) → (n < b)
        × IsRunRequest setup entries n server h.now.life job
    is_requested reply h =
        let g = get_front entries n b h.of_call.entry h.of_call.there in
        let (y, made, y_is) = next n h.of_call.entry g.1 in
        let by : IsMadeBy setup (take n entries) (way_of setup (take n entries) h.of_call.entry.event.kind)
        (effect_of h.of_call.entry) h.pending =
        subst (λ (l : List Entry). IsMadeBy setup l (way_of setup l h.of_call.entry.event.kind)
        (effect_of h.of_call.entry) h.pending) (take_take entries n b (omega (arith, g.0))) h.of_call.made
        in (
          g.0,
          requested setup entries n h.of_call.entry g.1 h.pending server h.now.life job h.run h.place
              h.asks (way_of setup (take n entries) h.of_call.entry.event.kind) refl by y y_is made,
        )

    settles : (reply : Option (List ℕ)) → way_of setup (take b entries) e.event.kind ≡ to_call n reply
        → Ended setup (take b entries) n reply x server job → SettlesCall entries n b
    settles reply way h = record {
      entry = e;
      there = there;
      settles = settles_it (take b entries) n reply e
          (slice_get_within (take b entries) n h.of_call.entry h.of_call.there)
          (ap is_void (ap (λ (y : Entry). y.word) is ∙ h.word))
          (way_settles setup (take b entries) e.event.kind n reply way);
    }

    full_of : (reply : Option (List ℕ)) → way_of setup (take b entries) e.event.kind ≡ to_call n reply
        → Ended setup (take b entries) n reply x server job → Full b server job
    full_of None way h = let no : Ok h.answer ≡ Err Lost = h.accepted in absurd cc
    full_of (Some bytes) way h =
        let (before, req) = is_requested (Some bytes) h in
        let (a, took, taken) = is_taken (Some bytes) h in
        let here : call_at (take b entries) n ≡ Some (state_call setup server job Started) =
        ap (λ (o : Option Entry). o >>= λ y. y.call) (get_take entries n b before ∙ req.there) ∙ req.tells
        in
        let inside : is_inside setup (call_at (take b entries) n) ≡ true =
        ap (is_inside setup) here ∙ ap (λ (c : Bool). c || is_some (server_at setup setup.scheduler.addr))
        (same_self setup.scheduler.addr) in
        let (d, returns, delivery) = by_kind setup (take b entries) n bytes inside e.event.kind way
        (way_settles setup (take b entries) e.event.kind n (Some bytes) way) in
        let v = delivered (take b entries) d n bytes delivery in
        let g = get_front entries d b v.entry v.there in
        let (y, made, y_is) = next d v.entry g.1 in
        let id : job.0 < 2 ^ 64 = omega (arith, req.names.says.1, req.names.says.2) in
        let f = found_now setup (take b entries) server h.now h.now_is in
        let s = start_of setup words entries n server h.now.life job req
        (found_addr setup (take b entries) server h.now words f) id d v.entry g.1 v.delivers v.reply
        v.replies
        h.answer (subst (λ (t : List ℕ). IsAnswer update_at t (Ok h.answer)) (sym v.text) h.accepted) y made
        y_is in
        record {
          started = record {
            entry = e;
            there = there;
            request = n;
            delivery = d;
            taking = a;
            in_order = (s.before, g.0, took);
            now = h.now;
            at = h.now_is;
            returns = returns;
            starts = is_start d n server job s;
            requested = req;
            taken = taken;
          };
          start = s;
          settles = settles (Some bytes) way h;
        }

  full : (b : ℕ) (e : Entry) (server : Addr) (job : JobId) → slice_get entries b ≡ Some e
      → IsBuild e server job → Full b server job
  full b e server job there build =
      let (x, made, is) = next b e there in
      let tells : IsBuildOf x server job =
      ap built_in (sym (ap (λ (y : Entry). y.step) is) ∙ build.there)
      ∙ ap (option_map (λ (j : JobId). let p : Addr × JobId = (build.step.server, j) in p)) build.builds
      ∙ ap (λ (a : Addr). let p : Addr × JobId = (a, job) in Some p) build.at in
      let (n, reply, way, h) = way_ended setup (take b entries) e.event.at
      (way_of setup (take b entries) e.event.kind) x server job tells made in
      full_of b e server job there x is n reply way h

  pub are_started : AreStarted setup entries
  are_started = λ b e server job there build. (full b e server job there build).started

  -- two starts of one job are one delivery
  no_two : (c d m n : ℕ) (s t : Addr) (job : JobId) → Start setup entries c m s job
      → Start setup entries d n t job → c < d → ⊥
  no_two c d m n s t job a b less =
      once (ids_start setup) (core_log (take d entries)) b.made job fits
      (legal d) b.is_rule (starts d n t job b)
      (core_among (λ (k : CoreEntry). starts_by k.kind job) entries c d a.entry a.made less a.there a.core
      (starts c m s job a))

  one_delivery : (c d m n : ℕ) (s t : Addr) (job : JobId) → Start setup entries c m s job
      → Start setup entries d n t job → c ≡ d
  one_delivery c d m n s t job a b = elim (cases_lt c d) [
    | inl less ↦ absurd (no_two c d m n s t job a b less)
    | inr at_most ↦ elim (cases_lt d c) [
      | inl more ↦ absurd (no_two d c n m t s job b a more)
      | inr least ↦ omega (arith, at_most, least)
    ]
  ]

  one_request : (c d m n : ℕ) (s t : Addr) (job : JobId) → Start setup entries c m s job
      → Start setup entries d n t job → m ≡ n
  one_request c d m n s t job a b =
      let same : a.entry ≡ b.entry = same_Some a.entry b.entry
      (sym a.there ∙ ap (slice_get entries) (one_delivery c d m n s t job a b) ∙ b.there) in
      let one : Deliver m ≡ Deliver n = sym a.delivers ∙ ap (λ (y : Entry). y.event.kind) same ∙ b.delivers in
      same_Some m n (ap delivered_by one)

  pub built_once : AreBuiltOnce entries
  built_once = λ j k d e s t job at bt a b.
      let f = full j d s job at a in
      let g = full k e t job bt b in
      let one = one_request f.started.delivery g.started.delivery f.started.request g.started.request s t job
      f.start g.start in
      settled_once free setup events entries each g.started.request j k
      (subst (λ (n : ℕ). SettlesCall entries n j) one f.settles) g.settles

pub are_builds : (setup : Setup) (events : List Event) (entries : List Entry) → setup.scheduler.count < 2 ^ 64
    → HasWords setup → EachNext free setup [] events entries → AreBuilds setup entries
are_builds setup events entries fits words each = record {
  started = λ n. are_started setup (take n events) (take n entries) fits words
      (each_front free setup [] events entries n each);
  once = λ n. built_once setup (take n events) (take n entries) fits words
      (each_front free setup [] events entries n each);
  settled = λ n. settled_once free setup (take n events) (take n entries)
      (each_front free setup [] events entries n each);
}

-- the entries of a farm that ran events
pub run_builds : (setup : Setup) (entries : List Entry) → setup.scheduler.count < 2 ^ 64
    → (HasToken setup.scheduler.auth → HasWords setup) → IsRun free setup entries
    → HasToken setup.scheduler.auth
    → AreBuilds setup entries
run_builds setup entries fits words run token =
    are_builds setup (map (λ (e : Entry). e.event) entries) entries fits (words token) run
