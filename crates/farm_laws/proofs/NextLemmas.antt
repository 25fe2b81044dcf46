-- What the next entry adds, and what every run has.
use Rattle.std.proofs.Common.{◌≡◌, inl, inr, ℕ, ◌+◌, ◌<◌, ◌≤◌, ◌^◌, Bool, true, false, cond, nat_le, List, []}
use Rattle.std.proofs.Common.{◌∷◌, ◌++◌, length, map, take, drop, Option, Some, None, Result, Ok, Err, refl}
use Rattle.std.proofs.Common.{sym, ap, subst, ◌∙◌, append_assoc, append-nil}
use Rattle.std.specs.Prelude.{slice_get}
use Rattle.std.specs.Option.{option_map}
use Rattle.std.proofs.lemmas.Bool.{cases_Bool, and_parts, leb-true, lt-ltb, eq-eqb}
use Rattle.std.proofs.lemmas.Option.{slice_get_within, same_Some}
use Rattle.std.proofs.lemmas.List.{take-append-drop}
use Rattle.std.proofs.lemmas.List.Elements.{filter_map-append}
use Rattle.dist_types.specs.Addr.{◌>>=◌, same_addr}
use Rattle.dist_types.specs.declared.addr.Addr.{Addr}
use Rattle.dist_types.specs.declared.ids.JobId.{JobId}
use Rattle.dist_types.specs.declared.outgoing.CallFault.{CallFault}
use Rattle.dist_types.specs.declared.results.AssignJobResult.{AssignJobResult}
use Rattle.dist_types.specs.declared.rules.Rules.{Rules}
use Rattle.dist_types.specs.declared.rules.Rules.TheVariants.{One, Two}
use Rattle.dist_types.proofs.AddrLemmas.{bind_some}
use Rattle.core_rules.specs.declared.start.Start.{Start}
use Rattle.core_rules.proofs.Lists.{end_cut}
use Rattle.core_rules.specs.Log.{Core}
use Rattle.core_rules.specs.Pick.{pick}
use Rattle.core_rules.specs.Reservation.{bookings, spends_by}
use Rattle.core_rules.specs.Rows.{servers_of}
use Rattle.core_rules.specs.Rule.{rule, reserve_at, is_initial}
use Rattle.core_rules.specs.Ticket.{Ticket}
use Rattle.core_rules.specs.Laws.{IsLegal}
use Rattle.core_rules.specs.declared.call.Call.TheVariants as call
use Rattle.core_rules.specs.declared.rows.ServerRow.{ServerRow}
use Rattle.core_rules.specs.declared.entry.CoreEntry.{CoreEntry}
use Rattle.core_rules.specs.declared.entry.CoreKind.{CoreKind}
use Rattle.core_rules.specs.declared.entry.CoreKind.TheVariants as core
use Rattle.core_rules.specs.declared.entry.Reserved.TheVariants.{Job, NoRoom, Spent}
use Rattle.core_rules.proofs.HeldLemmas.{legal_once}
use Rattle.core_rules.proofs.RoomLemmas.{legal_bounded}
use Rattle.core_rules.proofs.SoundLemmas.{legal_distinct}
use Rattle.core_rules.proofs.OnceLemmas.{legal_all}
use Rattle.dist_wire.specs.declared.drain.DrainServerHttpRequest.{DrainServerHttpRequest}
use Rattle.http_routes.specs.Admission.{equal_admission}
use Rattle.http_routes.specs.Asked.{IsAskedUnder}
use Rattle.http_routes.specs.Route.{IsNoDrain}
use Rattle.http_routes.specs.declared.route.Asked.{Asked}
use Rattle.http_routes.specs.declared.route.SchedRouted.{SchedRouted}
use Rattle.http_routes.specs.declared.route.SchedRouted.TheVariants as asked
use Rattle.http_routes.proofs.CallLemmas.{begins_assigned}
use Rattle.http_routes.proofs.VersionLemmas.{no_bytes_drain}
use Rattle.farm_entries.specs.declared.site.Site.{Site as Setup}
use Rattle.farm_script.specs.declared.event.Event.{Event}
use Rattle.farm_script.specs.declared.event.EventKind.{EventKind}
use Rattle.farm_script.specs.declared.event.EventKind.TheVariants.{Request, Deliver, Fail, Return, Answer}
use Rattle.farm_script.specs.declared.event.EventKind.TheVariants.{Beat, Restart}
use Rattle.farm_entries.specs.declared.entry.Effect.{Effect}
use Rattle.farm_entries.specs.declared.entry.Entry.{Entry}
use Rattle.farm_entries.specs.declared.entry.EntryWord.{EntryWord}
use Rattle.farm_entries.specs.declared.entry.EntryWord.TheVariants.{Void, Down}
use Rattle.farm_entries.specs.declared.entry.OutCall.{OutCall}
use Rattle.farm_entries.specs.declared.pending.Ask.{Ask}
use Rattle.farm_entries.specs.declared.pending.Ask.TheVariants.{Assign, Report}
use Rattle.farm_entries.specs.declared.pending.Told.{Told}
use Rattle.farm_entries.specs.declared.pending.Told.TheVariants as told
use Rattle.farm_entries.specs.declared.entry.Step.{Step}
use Rattle.farm_entries.specs.declared.entry.StepKind.{StepKind}
use Rattle.farm_entries.specs.declared.entry.StepKind.TheVariants as kinds
use Rattle.dist_types.specs.declared.results.UpdateJobStateResult.{UpdateJobStateResult}
use Rattle.build_server.specs.declared.run.Outcome.{Outcome}
use Rattle.build_server.specs.Rules.{assign_verdict}
use Rattle.build_server.specs.declared.fault.ServerFault.{ServerFault}
use Rattle.dist_wire.specs.declared.run.RunJobHttpRequest.{RunJobHttpRequest}
use Rattle.http_routes.specs.declared.server_route.ServerRouted.{ServerRouted}
use Rattle.http_routes.specs.declared.server_route.ServerRouted.TheVariants as server_asked
use Rattle.farm_entries.specs.Servers.{ServerNow, server_now, is_over}
use Rattle.farm_entries.specs.Served.{assigned, served, books_of}
use Rattle.farm_entries.specs.declared.pending.Pending.{Pending}
use Rattle.farm_entries.specs.Answers.{hears, alloc_effect, answer_to, Asks}
use Rattle.farm_entries.specs.Begun.{IsMadeBy, IsCallOf, completion_by, completion_of}
use Rattle.farm_entries.specs.Calls.{call_at, delivery_at, settles_by, is_void, settled_at, waiting_at}
use Rattle.farm_entries.specs.Effects.{entry_of, effect_of, word_effect}
use Rattle.farm_entries.specs.Lawful.{IsSound, IsLawful, AreLawful}
use Rattle.farm_entries.specs.Next.{GoesOn, IsSettled, IsMade, IsNext, EachNext, IsRun}
use Rattle.farm_entries.specs.Seen.{ids_start, core_log, core_of, serves}
use Rattle.farm_entries.specs.Settled.{IsOutcome, assignment_end, ReadyEnds, StartedEnds, complete_end}
use Rattle.farm_entries.specs.Settled.{Reports}
use Rattle.farm_entries.specs.Settled.{ReportsIn, Lives}
use Rattle.farm_entries.specs.Weather.{free, opened_effect}
use Rattle.toolchain_cache.specs.Archives.{Archives}
use Rattle.farm_entries.specs.Tickets.{ticket_of, ticket_at}
use Rattle.farm_entries.specs.Ways.{Way, server_way, caller_of, delivery_way, return_way, is_inside, beat_way}
use Rattle.farm_entries.specs.Ways.{restart_way, way_of, brought_at, to_nothing, to_nobody, to_scheduler}
use Rattle.farm_entries.specs.Ways.{to_server, to_call, to_beat, to_restart}
use Rattle.core_rules.proofs.OwnLemmas.{legal_front}
use Rattle.farm_laws.proofs.SoundLemmas.{Adds, sound-step}

-- ---- what an answer adds

-- a reserve spends nothing
reserve_spends : (o : Option ServerRow) (rows : List ServerRow) (now base given : ℕ) (j : JobId)
    → spends_by (reserve_at o rows now base given).kind j ≡ false
reserve_spends None rows now base given j = refl
reserve_spends (Some row) rows now base given j = refl

-- a reserve has its core entry
pub allocated_core : (s : Core) (number : ℕ) (json : Bool) (tc : List ℕ) (made : CoreEntry) (k : CoreKind)
    → (alloc_effect s number json tc made k).core ≡ Some made
allocated_core s number json tc made (core.Reserve (Job job reg forgiven)) = refl
allocated_core s number json tc made (core.Reserve (NoRoom standing)) = refl
allocated_core s number json tc made (core.Reserve Spent) = refl
allocated_core s number json tc made (core.Commit job state kept) = refl
allocated_core s number json tc made (core.Undo job noted ended) = refl
allocated_core s number json tc made (core.Beat server nonce cpus key pruned reaped replaced is_new) = refl
allocated_core s number json tc made (core.Update server job state given) = refl
allocated_core s number json tc made (core.Status pruned servers cpus jobs) = refl
allocated_core s number json tc made (core.Drain addr nonce on named) = refl

hears_both : (cpus : ℕ) → hears cpus ≡ true → (1 ≤ cpus) × (cpus ≤ 4294967295)
hears_both cpus on =
    let p = and_parts (nat_le 1 cpus) (nat_le cpus 4294967295) on in
    (leb-true 1 cpus p.0, leb-true cpus 4294967295 p.1)

-- what may be asked by those rules: in version 1 no drain
abbrev IsAskable : Rules → SchedRouted → Type 0
IsAskable One what = IsNoDrain what
IsAskable Two what = Unit {0}

asks_askable : (rules : Rules) (setup : Setup) (peer : Addr) (bytes : List ℕ) (a : Asked)
    → setup.rules ≡ rules → Asks setup peer bytes a → IsAskable rules a.what
asks_askable One setup peer bytes a one is =
    no_bytes_drain (equal_admission setup.scheduler.client) (serves setup.scheduler.auth) bytes peer a
    (subst (λ (v : Rules). IsAskedUnder v (equal_admission setup.scheduler.client)
    (serves setup.scheduler.auth) bytes peer a) one is)
asks_askable Two setup peer bytes a two is = tt

drains_by_two : (rules : Rules) (server : Addr) (drain : DrainServerHttpRequest)
    → IsAskable rules (asked.Drain server drain) → rules ≡ Two
drains_by_two One server drain none = absurd (none server drain refl)
drains_by_two Two server drain any = refl

answer_adds : (setup : Setup) (log : List Entry) (event : Event) (number at : ℕ) (json : Bool)
    (what : SchedRouted) → IsAskable setup.rules what
    → Adds setup log (entry_of event (answer_to (core_of setup log) number at json what))
answer_adds setup log event number at json (asked.Alloc tc) may =
    let s = core_of setup log in
    let made = rule s (call.Reserve at) in
    inr (inl (record {
      made = made;
      core = allocated_core s number json tc made made.kind;
      rule = (call.Reserve at, tt, refl);
      spends = reserve_spends (pick (servers_of s.log)) (servers_of s.log) at s.start.base
          (s.start.count + length (bookings s.log));
    }))
answer_adds setup log event number at json (asked.Beat server beat) may =
    elim (cases_Bool (hears beat.num_cpus)) [
      | inl on ↦ inr (inl (record {
        made = rule (core_of setup log) (call.Beat at server beat.server_nonce beat.num_cpus beat.jwt_key);
        core = rw on refl;
        rule = (
          call.Beat at server beat.server_nonce beat.num_cpus beat.jwt_key,
          hears_both beat.num_cpus on,
          refl,
        );
        spends = λ j. refl;
      }))
      | inr off ↦ inl (record { core = rw off refl })
    ]
answer_adds setup log event number at json (asked.Update server job state) may = inr (inl (record {
  made = rule (core_of setup log) (call.Update at server job state);
  core = refl;
  rule = (call.Update at server job state, tt, refl);
  spends = λ j. refl;
}))
answer_adds setup log event number at json asked.Status may = inr (inl (record {
  made = rule (core_of setup log) (call.Status at);
  core = refl;
  rule = (call.Status at, tt, refl);
  spends = λ j. refl;
}))
answer_adds setup log event number at json (asked.Drain server drain) may = inr (inl (record {
  made = rule (core_of setup log) (call.Drain at server drain.server_nonce drain.draining);
  core = refl;
  rule = (
    call.Drain at server drain.server_nonce drain.draining,
    drains_by_two setup.rules server drain may,
    refl,
  );
  spends = λ j. refl;
}))
answer_adds setup log event number at json (asked.Done response) may = inl (record { core = refl })

-- a word alone adds nothing
word_adds : (setup : Setup) (log : List Entry) (event : Event) (word : EntryWord) (x : Effect)
    → x ≡ word_effect word → Adds setup log (entry_of event x)
word_adds setup log event word x is = subst (λ (y : Effect). Adds setup log (entry_of event y)) (sym is)
    (inl (record { core = refl }))

-- ---- what a settlement adds

outcome_begins : (reply : Option (List ℕ)) (a : AssignJobResult) → IsOutcome reply (Ok a)
    → is_initial a.state ≡ true
outcome_begins None a is = absurd cc
outcome_begins (Some bytes) a is = begins_assigned bytes a is

-- an entry that is not void settles the call that its event names
pub settles_it : (log : List Entry) (n : ℕ) (reply : Option (List ℕ)) (e : Entry) → n < length log
    → is_void e.word ≡ false → settles_by log e.event.kind ≡ Some (n, reply)
    → settled_at n (end_cut log e) ≡ true
settles_it log n reply e within silent names = rw (lt-ltb n (length log) within, silent, names)
    (eq-eqb n n refl)

pub settled_within : (log : List Entry) (n : ℕ) (w : Entry) → waiting_at log n ≡ Some w → n < length log
settled_within log n w waits =
    let a = bind_some (slice_get log n) _ w waits in
    slice_get_within log n a.0 a.1

-- the report of a run's end asks for no assignment
no_completion : (root : ℕ) (json : Bool) (addr : Addr) (life : ℕ) (k : StepKind) (p : Pending) (t : Ticket)
    → completion_by root json addr life k ≡ Some p → p.ask ≡ Assign t → ⊥
no_completion root json addr life (kinds.Ran job ran result) p t e asks =
    let same = same_Some _ p e in
    let no = ap (λ (q : Pending). q.ask) same ∙ asks in
    cc
no_completion root json addr life (kinds.Heard as_what) p t e asks = cc
no_completion root json addr life (kinds.Assigned job tc ready) p t e asks = cc
no_completion root json addr life (kinds.Submitted job outcome) p t e asks = cc
no_completion root json addr life (kinds.Finished job) p t e asks = cc
no_completion root json addr life (kinds.Unreported job) p t e asks = cc
no_completion root json addr life (kinds.Opened archives) p t e asks = cc

no_assignment : (q : Pending) (ask : Ask) (step : Option Step) (p : Pending) (t : Ticket)
    → completion_of q ask step ≡ Some p → p.ask ≡ Assign t → ⊥
no_assignment q (Assign u) step p t e asks = cc
no_assignment q (Report addr life told) None p t e asks = cc
no_assignment q (Report addr life told) (Some step) p t e asks =
    no_completion q.root q.json addr life step.kind p t e asks

-- the reservation of a call that asks for an assignment is that of its entry
pub call_ticket : (setup : Setup) (log : List Entry) (n : ℕ) (p : Pending) (t : Ticket)
    → IsCallOf setup log n p → p.ask ≡ Assign t → ticket_at log n ≡ Some t
call_ticket setup log n p t is asks =
    ap (λ (o : Option Entry). o >>= λ e. ticket_of (core_log (take n log)) e.core) is.there
    ∙ by_way (way_of setup (take n log) is.entry.event.kind) is.made
  where
    by_way : (way : Way) → IsMadeBy setup (take n log) way (effect_of is.entry) p
        → ticket_of (core_log (take n log)) is.entry.core ≡ Some t
    by_way (to_scheduler peer bytes) b =
        let same : Assign b.2.ticket ≡ Assign t = sym (ap (λ (q : Pending). q.ask) b.2.is) ∙ asks in
        let one : b.2.ticket ≡ t = cc in
        b.2.reserved ∙ ap (λ (u : Ticket). Some u) one
    by_way (to_server s bytes) b = let no : Report s.setup.addr s.life b.2.told ≡ Assign t =
        sym (ap (λ (q : Pending). q.ask) b.2.is) ∙ asks in absurd cc
    by_way (to_beat s) b = let no : Report s.setup.addr s.life told.Heartbeat ≡ Assign t =
        sym (ap (λ (q : Pending). q.ask) b) ∙ asks in absurd cc
    by_way (to_call m reply) b = absurd (no_assignment b.first b.first.ask is.entry.step p t b.is asks)
    by_way to_nothing b = absurd b
    by_way to_nobody b = absurd b
    by_way (to_restart s key nonce) b = absurd b

assignment_adds : (setup : Setup) (log : List Entry) (event : Event) (at root : ℕ) (json : Bool) (n : ℕ)
    (reply : Option (List ℕ)) (w : Entry) (t : Ticket) (r : Result AssignJobResult CallFault)
    → IsSound setup log → waiting_at log n ≡ Some w → ticket_at log n ≡ Some t
    → settles_by log event.kind ≡ Some (n, reply) → IsOutcome reply r
    → Adds setup log (entry_of event (assignment_end (core_of setup log) root json at t r))
assignment_adds setup log event at root json n reply w t (Ok a) sound waits reserved names is =
    inr (inr (record {
      number = n;
      waits = w;
      ticket = t;
      made = rule (core_of setup log) (call.Commit at t.number t.job a.state);
      core = refl;
      call = refl;
      rule = (
        call.Commit at t.number t.job a.state,
        (sound.own n w t waits reserved, outcome_begins reply a is),
        refl,
      );
      spends = λ j. refl;
      waiting = waits;
      reserved = reserved;
      settles = settles_it log n reply
          (entry_of event (assignment_end (core_of setup log) root json at t (Ok a)))
          (settled_within log n w waits) refl names;
    }))
assignment_adds setup log event at root json n reply w t (Err f) sound waits reserved names is =
    inr (inr (record {
      number = n;
      waits = w;
      ticket = t;
      made = rule (core_of setup log) (call.Undo at t.number t.job);
      core = refl;
      call = refl;
      rule = (call.Undo at t.number t.job, sound.own n w t waits reserved, refl);
      spends = λ j. refl;
      waiting = waits;
      reserved = reserved;
      settles = settles_it log n reply
          (entry_of event (assignment_end (core_of setup log) root json at t (Err f)))
          (settled_within log n w waits) refl names;
    }))

-- ---- what servers add: no core entry

assigned_core : (addr : Addr) (number : ℕ) (json : Bool) (job : JobId) (tc : List ℕ)
    (r : Result AssignJobResult ServerFault) → (assigned addr number json job tc r).core ≡ None
assigned_core addr number json job tc (Ok a) = refl
assigned_core addr number json job tc (Err e) = refl

pub served_core : (setup : Setup) (s : ServerNow) (number : ℕ) (json : Bool) (what : ServerRouted)
    → (served setup s number json what).core ≡ None
served_core setup s number json (server_asked.Assign job tc) = assigned_core s.setup.addr number json job tc
    (assign_verdict (books_of s) job tc)
served_core setup s number json (server_asked.Submit job) = refl
served_core setup s number json (server_asked.Run job run at) = refl
served_core setup s number json (server_asked.Done response) = refl

ready_core : (s : ServerNow) (root : ℕ) (json : Bool) (job : JobId) (archive : List ℕ)
    (r : Result UpdateJobStateResult CallFault) (x : Effect) → ReadyEnds free s root json job archive r x
    → x.core ≡ None
ready_core s root json job archive (Ok u) x is = ap (λ (y : Effect). y.core) is.2
ready_core s root json job archive (Err f) x is = ap (λ (y : Effect). y.core) is

started_core : (setup : Setup) (s : ServerNow) (root : ℕ) (job : JobId) (run : RunJobHttpRequest)
    (inputs : List ℕ) (r : Result UpdateJobStateResult CallFault) (x : Effect)
    → StartedEnds free setup s root job run inputs r x → x.core ≡ None
started_core setup s root job run inputs (Ok u) x is = ap (λ (y : Effect). y.core) is.2
started_core setup s root job run inputs (Err f) x is = ap (λ (y : Effect). y.core) is

complete_core : (addr : Addr) (root : ℕ) (json : Bool) (job : JobId) (outcome : Outcome)
    (r : Result UpdateJobStateResult CallFault) → (complete_end addr root json job outcome r).core ≡ None
complete_core addr root json job outcome (Ok u) = refl
complete_core addr root json job outcome (Err f) = refl

reports_core : (setup : Setup) (s : ServerNow) (bytes : List ℕ) (root : ℕ) (json : Bool)
    (reply : Option (List ℕ)) (t : Told) (x : Effect) → Reports free setup s bytes root json reply t x
    → x.core ≡ None
reports_core setup s bytes root json reply (told.Ready job at) x is =
    ready_core s root json job (drop at bytes) is.0 x is.2
reports_core setup s bytes root json reply (told.Started job run at) x is =
    started_core setup s root job run (drop at bytes) is.0 x is.2
reports_core setup s bytes root json reply (told.Complete job outcome) x is = ap (λ (y : Effect). y.core) is.2
    ∙ complete_core s.setup.addr root json job outcome is.0
reports_core setup s bytes root json reply told.Heartbeat x is = ap (λ (y : Effect). y.core) is.2

lives_core : (setup : Setup) (life : ℕ) (s : ServerNow) (bytes : List ℕ) (root : ℕ) (json : Bool)
    (reply : Option (List ℕ)) (t : Told) (over : Bool) (x : Effect)
    → Lives free setup life s bytes root json reply t over x → x.core ≡ None
lives_core setup life s bytes root json reply t true x is = ap (λ (y : Effect). y.core) is
lives_core setup life s bytes root json reply t false x is = reports_core setup s bytes root json reply t x is

pub reports_in_core : (setup : Setup) (life : ℕ) (bytes : List ℕ) (root : ℕ) (json : Bool)
    (reply : Option (List ℕ)) (t : Told) (o : Option ServerNow) (x : Effect)
    → ReportsIn free setup life bytes root json reply t o x → x.core ≡ None
reports_in_core setup life bytes root json reply t None x is = ap (λ (y : Effect). y.core) is
reports_in_core setup life bytes root json reply t (Some s) x is =
    lives_core setup life s bytes root json reply t (is_over life s) x is

opened_core : (s : ServerNow) (o : Option Archives) → (opened_effect s o).core ≡ None
opened_core s None = refl
opened_core s (Some list) = refl

-- an effect without a core entry
quiet_adds : (setup : Setup) (log : List Entry) (event : Event) (x : Effect) → x.core ≡ None
    → Adds setup log (entry_of event x)
quiet_adds setup log event x none = inl (record { core = none })

goes_adds : (setup : Setup) (log : List Entry) (event : Event) (at n root : ℕ) (json : Bool)
    (reply : Option (List ℕ)) (w : Entry) (p : Pending) (ask : Ask) (x : Effect)
    → IsSound setup log → waiting_at log n ≡ Some w → IsCallOf setup log n p → p.ask ≡ ask
    → settles_by log event.kind ≡ Some (n, reply)
    → GoesOn free setup log at root json reply ask x → Adds setup log (entry_of event x)
goes_adds setup log event at n root json reply w p (Assign t) x sound waits of_call asks names is =
    subst (λ (y : Effect). Adds setup log (entry_of event y)) (sym is.2)
    (assignment_adds setup log event at root json n reply w t is.0 sound waits
    (call_ticket setup log n p t of_call asks) names is.1)
goes_adds setup log event at n root json reply w p (Report server life t) x sound waits of_call asks names is
    =
    quiet_adds setup log event x (reports_in_core setup life (brought_at log root) root json reply t
    (server_now setup log server) x is)

settled_adds : (setup : Setup) (log : List Entry) (event : Event) (at n : ℕ) (reply : Option (List ℕ))
    (o : Option Entry) (x : Effect)
    → IsSound setup log → waiting_at log n ≡ o → settles_by log event.kind ≡ Some (n, reply)
    → IsSettled free setup log at n reply o x → Adds setup log (entry_of event x)
settled_adds setup log event at n reply None x sound waits names is = word_adds setup log event Void x is
settled_adds setup log event at n reply (Some w) x sound waits names is =
    goes_adds setup log event at n is.0.root is.0.json reply w is.0 is.0.ask x sound waits is.1 refl names
    is.2

-- ---- the next entry

-- bytes that come to an address settle no call
no_server_call : (bytes : List ℕ) (o : Option ServerNow) (n : ℕ) (reply : Option (List ℕ))
    → server_way bytes o ≡ to_call n reply → ⊥
no_server_call bytes None n reply is = cc
no_server_call bytes (Some s) n reply is = by_test s.running is
  where
    by_test : (b : Bool) → cond b (to_server s bytes) to_nobody ≡ to_call n reply → ⊥
    by_test true e = cc
    by_test false e = cc

no_call : (b : Bool) (peer : Addr) (bytes : List ℕ) (o : Option ServerNow) (n : ℕ) (reply : Option (List ℕ))
    → cond b (to_scheduler peer bytes) (server_way bytes o) ≡ to_call n reply → ⊥
no_call true peer bytes o n reply is = cc
no_call false peer bytes o n reply is = no_server_call bytes o n reply is

no_delivery : (setup : Setup) (log : List Entry) (caller : Addr) (o : Option OutCall) (n : ℕ)
    (reply : Option (List ℕ)) → delivery_way setup log caller o ≡ to_call n reply → ⊥
no_delivery setup log caller None n reply is = cc
no_delivery setup log caller (Some c) n reply is =
    no_call (same_addr c.target setup.scheduler.addr) caller c.bytes (server_now setup log c.target) n reply
    is

no_beat : (o : Option ServerNow) (n : ℕ) (reply : Option (List ℕ)) → beat_way o ≡ to_call n reply → ⊥
no_beat None n reply is = cc
no_beat (Some s) n reply is = by_test s.running is
  where
    by_test : (b : Bool) → cond b (to_beat s) to_nobody ≡ to_call n reply → ⊥
    by_test true e = cc
    by_test false e = cc

no_restart : (key : List ℕ) (nonce : ℕ) (o : Option ServerNow) (n : ℕ) (reply : Option (List ℕ))
    → restart_way key nonce o ≡ to_call n reply → ⊥
no_restart key nonce None n reply is = cc
no_restart key nonce (Some s) n reply is = cc

settles_named : (c n : ℕ) (given reply : Option (List ℕ)) → to_call c given ≡ to_call n reply
    → ◌≡◌ {A = Option (ℕ × Option (List ℕ))} (Some (c, given)) (Some (n, reply))
settles_named c n given reply is =
    let number : c ≡ n = cc in
    let same : given ≡ reply = cc in
    ap (λ (m : ℕ). let p : ℕ × Option (List ℕ) = (m, given) in Some p) number
    ∙ ap (λ (o : Option (List ℕ)). let p : ℕ × Option (List ℕ) = (n, o) in Some p) same

settles_answer : (b : Bool) (c n : ℕ) (bytes : List ℕ) (reply : Option (List ℕ))
    → cond b to_nothing (to_call c (Some bytes)) ≡ to_call n reply → ◌≡◌ {A = Option (ℕ × Option (List ℕ))}
    (Some (c, Some bytes)) (Some (n, reply))
settles_answer true c n bytes reply is = absurd cc
settles_answer false c n bytes reply is = settles_named c n (Some bytes) reply is

settles_return : (o : Option (ℕ × List ℕ)) (n : ℕ) (reply : Option (List ℕ)) → return_way o ≡ to_call n reply
    → ◌≡◌ {A = Option (ℕ × Option (List ℕ))} (option_map (λ p. (p.0, Some p.1)) o) (Some (n, reply))
settles_return None n reply is = absurd cc
settles_return (Some p) n reply is = settles_named p.0 n (Some p.1) reply is

-- an event that comes to a call is to settle it
pub way_settles : (setup : Setup) (log : List Entry) (k : EventKind) (n : ℕ) (reply : Option (List ℕ))
    → way_of setup log k ≡ to_call n reply → settles_by log k ≡ Some (n, reply)
way_settles setup log (Request target peer bytes) n reply is =
    absurd (no_call (same_addr target setup.scheduler.addr) peer bytes (server_now setup log target) n reply
    is)
way_settles setup log (Deliver c) n reply is =
    absurd (no_delivery setup log (caller_of setup log (slice_get log c)) (call_at log c) n reply is)
way_settles setup log (Fail c) n reply is = settles_named c n None reply is
way_settles setup log (Return d) n reply is = settles_return (delivery_at log d) n reply is
way_settles setup log (Answer c bytes) n reply is =
    settles_answer (is_inside setup (call_at log c)) c n bytes reply is
way_settles setup log (Beat server) n reply is = absurd (no_beat (server_now setup log server) n reply is)
way_settles setup log (Restart server key nonce) n reply is =
    absurd (no_restart key nonce (server_now setup log server) n reply is)

made_adds : (setup : Setup) (log : List Entry) (event : Event) (way : Way) (x : Effect)
    → way_of setup log event.kind ≡ way → IsSound setup log → IsMade free setup log event.at way x
    → Adds setup log (entry_of event x)
made_adds setup log event (to_scheduler peer bytes) x same sound is =
    subst (λ (y : Effect). Adds setup log (entry_of event y)) (sym is.2)
    (answer_adds setup log event (length log) event.at is.0.json is.0.what
    (asks_askable setup.rules setup peer bytes is.0 refl is.1))
made_adds setup log event (to_call n reply) x same sound is =
    settled_adds setup log event event.at n reply (waiting_at log n) x sound refl
    (way_settles setup log event.kind n reply same) is
made_adds setup log event (to_server s bytes) x same sound is =
    subst (λ (y : Effect). Adds setup log (entry_of event y)) (sym is.2)
    (quiet_adds setup log event (served setup s (length log) is.0.json is.0.what)
    (served_core setup s (length log) is.0.json is.0.what))
made_adds setup log event (to_beat s) x same sound is = quiet_adds setup log event x
    (ap (λ (y : Effect). y.core) is)
made_adds setup log event (to_restart s key nonce) x same sound is = quiet_adds setup log event x
    (ap (λ (y : Effect). y.core) is.2 ∙ opened_core s is.0)
made_adds setup log event to_nobody x same sound is = word_adds setup log event Down x is
made_adds setup log event to_nothing x same sound is = word_adds setup log event Void x is

pub sound_next : (setup : Setup) (log : List Entry) (event : Event) (e : Entry)
    → setup.scheduler.count < 2 ^ 64 → IsSound setup log → IsNext free setup log event e
    → IsSound setup (log ++ e ∷ [])
sound_next setup log event e fits sound is =
    subst (λ (d : Entry). IsSound setup (log ++ d ∷ [])) (sym is.2)
    (sound-step setup log (entry_of event is.0) fits sound
    (made_adds setup log event (way_of setup log event.kind) is.0 refl sound is.1))

pub sound_none : (setup : Setup) → IsSound setup []
sound_none setup = record {
  legal = tt;
  own = λ n w t waits is. let none : None ≡ Some w = waits
      in absurd cc;
}

-- ---- runs

pub sound_run : (setup : Setup) (log : List Entry) (events : List Event) (entries : List Entry)
    → setup.scheduler.count < 2 ^ 64 → IsSound setup log → EachNext free setup log events entries
    → IsSound setup (log ++ entries)
sound_run setup log [] [] fits sound each = subst (IsSound setup) (sym (append-nil log)) sound
sound_run setup log (v ∷ vs) (x ∷ xs) fits sound each =
    subst (IsSound setup) (append_assoc log (x ∷ []) xs)
    (sound_run setup (log ++ x ∷ []) vs xs fits (sound_next setup log v x fits sound each.0) each.1)
sound_run setup log [] (x ∷ xs) fits sound each = absurd each
sound_run setup log (v ∷ vs) [] fits sound each = absurd each

lawful : (start : Start) (log : List CoreEntry) → start.count < 2 ^ 64 → IsLegal start log
    → IsLawful start log
lawful start log fits legal = record {
  legal = legal;
  ids = legal_distinct start log fits legal;
  held = legal_once start log fits legal;
  states = (legal_all start log fits legal).order;
  loads = legal_bounded start log fits legal;
}

-- the core log of a front is a front of the core log
front_log : (n : ℕ) (entries : List Entry) → core_log entries ≡ core_log (take n entries) ++ core_log
    (drop n entries)
front_log n entries = ap core_log (sym (take-append-drop n entries)) ∙ filter_map-append (λ e. e.core)
    (take n entries) (drop n entries)

pub are_lawful : (setup : Setup) (entries : List Entry) → setup.scheduler.count < 2 ^ 64
    → IsSound setup entries → AreLawful setup entries
are_lawful setup entries fits sound = λ n.
    lawful (ids_start setup) (core_log (take n entries)) fits
    (legal_front (ids_start setup) (core_log (take n entries))
    (core_log (drop n entries)) (subst (IsLegal (ids_start setup))
    (front_log n entries) sound.legal))

pub runs_lawful : (setup : Setup) (events : List Event) (entries : List Entry)
    → setup.scheduler.count < 2 ^ 64 → EachNext free setup [] events entries → AreLawful setup entries
runs_lawful setup events entries fits each = are_lawful setup entries fits
    (sound_run setup [] events entries fits (sound_none setup) each)

pub run_lawful : (setup : Setup) (entries : List Entry) → setup.scheduler.count < 2 ^ 64
    → IsRun free setup entries
    → AreLawful setup entries
run_lawful setup entries fits run = runs_lawful setup (map (λ (e : Entry). e.event) entries) entries fits run
