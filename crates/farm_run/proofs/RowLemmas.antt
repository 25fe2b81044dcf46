-- What the rows of servers make, at the places of the setup.
use Rattle.std.proofs.Common.{◌≡◌, inl, inr, ℕ, Bool, true, false, cond, List, [], ◌∷◌, ◌++◌, length, map}
use Rattle.std.proofs.Common.{drop, set, Option}
use Rattle.std.proofs.Common.{Some, None, Result, Ok, Err, refl, sym, ap, subst, ◌∙◌}
use Rattle.std.specs.Prelude.{slice_get, position, IfOk}
use Rattle.std.specs.Option.{option_map}
use Rattle.std.proofs.lemmas.Option.{same_Some}
use Rattle.dist_types.specs.Addr.{same_addr}
use Rattle.dist_types.specs.declared.addr.Addr.{Addr}
use Rattle.dist_types.specs.declared.ids.JobId.{JobId}
use Rattle.dist_types.specs.declared.outgoing.CallFault.{CallFault}
use Rattle.dist_types.specs.declared.results.AssignJobResult.{AssignJobResult}
use Rattle.dist_types.specs.declared.results.UpdateJobStateResult.{UpdateJobStateResult}
use Rattle.dist_wire.specs.declared.run.RunJobHttpRequest.{RunJobHttpRequest}
use Rattle.core_rules.specs.Log.{Core}
use Rattle.core_rules.specs.Rule.{rule}
use Rattle.core_rules.specs.Ticket.{Ticket}
use Rattle.core_rules.specs.declared.call.Call.TheVariants as call
use Rattle.core_rules.specs.declared.entry.CoreEntry.{CoreEntry}
use Rattle.core_rules.specs.declared.entry.CoreKind.{CoreKind}
use Rattle.core_rules.specs.declared.entry.CoreKind.TheVariants as core
use Rattle.core_rules.specs.declared.entry.Reserved.TheVariants as reserve
use Rattle.http_routes.specs.declared.route.SchedRouted.{SchedRouted}
use Rattle.http_routes.specs.declared.route.SchedRouted.TheVariants as asked
use Rattle.farm_entries.specs.Settled.{IsOutcome, assignment_end}
use Rattle.farm_entries.specs.Next.{GoesOn}
use Rattle.farm_entries.specs.Seen.{core_of}
use Rattle.farm_entries.specs.declared.pending.Ask.TheVariants.{Assign}
use Rattle.farm_laws.proofs.NextLemmas.{served_core}
use Rattle.build_server.specs.Rules.{assign_verdict}
use Rattle.build_server.specs.declared.fault.ServerFault.{ServerFault}
use Rattle.build_server.specs.declared.run.Outcome.{Outcome}
use Rattle.http_routes.specs.declared.server_route.ServerRouted.{ServerRouted}
use Rattle.http_routes.specs.declared.server_route.ServerRouted.TheVariants as server_asked
use Rattle.farm_script.specs.declared.event.Event.{Event}
use Rattle.farm_script.specs.declared.event.EventKind.TheVariants.{Restart}
use Rattle.farm_entries.specs.declared.site.Site.{Site as Setup}
use Rattle.farm_entries.specs.declared.site.SiteServer.{SiteServer as SetupServer}
use Rattle.farm_entries.specs.declared.entry.Effect.{Effect}
use Rattle.farm_entries.specs.declared.entry.Entry.{Entry}
use Rattle.farm_entries.specs.declared.entry.EntryWord.TheVariants.{Void, Down, Died}
use Rattle.farm_entries.specs.declared.entry.Step.{Step}
use Rattle.farm_run.specs.declared.pending.Made.{Made}
use Rattle.farm_entries.specs.declared.pending.Pending.{Pending}
use Rattle.farm_entries.specs.declared.pending.Told.{Told}
use Rattle.farm_entries.specs.declared.pending.Told.TheVariants as told
use Rattle.farm_stations.specs.Post.{Post as Station, outside_of}
use Rattle.farm_entries.specs.Answers.{hears, alloc_effect, answer_to, IsAnswered}
use Rattle.farm_entries.specs.Begun.{IsBegunBy, Keeps}
use Rattle.farm_entries.specs.Effects.{word_effect, entry_of}
use Rattle.farm_run.specs.Farm.{IsFarm, IsReceived, IsMadeSo}
use Rattle.farm_entries.specs.Served.{assigned, served, books_of, IsServerAnswered, beat_effect}
use Rattle.farm_entries.specs.Served.{AsksServer, told_of, report_of}
use Rattle.http_routes.specs.declared.server_route.ServerAsked.{ServerAsked}
use Rattle.farm_entries.specs.Servers.{ServerNow, stepped, server_of, server_at, server_now, is_over}
use Rattle.farm_entries.specs.Settled.{ReadyEnds, StartedEnds, complete_end, Reports, Lives, ReportsIn}
use Rattle.farm_entries.specs.Weather.{Weather, calm, weather_of, opened_effect}
use Rattle.farm_entries.specs.Passage.{reached_in, reached, LeavesOutside, Moves, IsMoved}
use Rattle.farm_run.proofs.StandLemmas.{get_map, set_map}
use Rattle.toolchain_cache.specs.Archives.{Archives}
use Rattle.farm_script.specs.declared.event.EventKind.{EventKind}
use Rattle.farm_stations.specs.Stations.{now_of, IsWell, AreStations, IsStepAt, IsRestartAt}
use Rattle.farm_entries.specs.Ways.{Way, way_of, server_way, way_to, beat_way, restart_way, to_nothing}
use Rattle.farm_entries.specs.Ways.{to_nobody}
use Rattle.farm_entries.specs.Ways.{to_scheduler, to_server, to_beat, to_restart}
use Rattle.farm_entries.specs.Calls.{settles_by}
use Rattle.farm_run.proofs.MadeLemmas.{received_made, idle_stands}
use Rattle.farm_run.proofs.ServerLemmas.{IsFound, place_found, place_none, station_there, stations_gone}
use Rattle.farm_run.proofs.ServerLemmas.{stations_restarted, IsStepOf, station_now}

-- ---- steps are of the server itself

assigned_of : (addr : Addr) (number : ℕ) (json : Bool) (job : JobId) (tc : List ℕ)
    (r : Result AssignJobResult ServerFault) → IsStepOf addr (assigned addr number json job tc r).step
assigned_of addr number json job tc (Ok a) = refl
assigned_of addr number json job tc (Err e) = tt

served_of : (setup : Setup) (s : ServerNow) (number : ℕ) (json : Bool) (what : ServerRouted)
    → IsStepOf s.setup.addr (served setup s number json what).step
served_of setup s number json (server_asked.Assign job tc) = assigned_of s.setup.addr number json job tc
    (assign_verdict (books_of s) job tc)
served_of setup s number json (server_asked.Submit job) = tt
served_of setup s number json (server_asked.Run job run at) = tt
served_of setup s number json (server_asked.Done response) = tt

pub answered_of : (setup : Setup) (s : ServerNow) (number : ℕ) (bytes : List ℕ) (x : Effect)
    → IsServerAnswered setup s number bytes x → IsStepOf s.setup.addr x.step
answered_of setup s number bytes x is = subst (λ (y : Effect). IsStepOf s.setup.addr y.step) (sym is.2)
    (served_of setup s number is.0.json is.0.what)

ready_of : (w : Weather) (s : ServerNow) (root : ℕ) (json : Bool) (job : JobId) (archive : List ℕ)
    (r : Result UpdateJobStateResult CallFault) (x : Effect) → ReadyEnds w s root json job archive r x
    → IsStepOf s.setup.addr x.step
ready_of w s root json job archive (Ok u) x is = subst (λ (y : Effect). IsStepOf s.setup.addr y.step)
    (sym is.2) refl
ready_of w s root json job archive (Err f) x is = subst (λ (y : Effect). IsStepOf s.setup.addr y.step)
    (sym is) refl

started_of : (w : Weather) (setup : Setup) (s : ServerNow) (root : ℕ) (job : JobId) (run : RunJobHttpRequest)
    (inputs : List ℕ) (r : Result UpdateJobStateResult CallFault) (x : Effect)
    → StartedEnds w setup s root job run inputs r x → IsStepOf s.setup.addr x.step
started_of w setup s root job run inputs (Ok u) x is = subst (λ (y : Effect). IsStepOf s.setup.addr y.step)
    (sym is.2) refl
started_of w setup s root job run inputs (Err f) x is = subst (λ (y : Effect). IsStepOf s.setup.addr y.step)
    (sym is) refl

complete_of : (addr : Addr) (root : ℕ) (json : Bool) (job : JobId) (outcome : Outcome)
    (r : Result UpdateJobStateResult CallFault)
    → IsStepOf addr (complete_end addr root json job outcome r).step
complete_of addr root json job outcome (Ok u) = refl
complete_of addr root json job outcome (Err f) = refl

reports_of : (w : Weather) (setup : Setup) (s : ServerNow) (bytes : List ℕ) (root : ℕ) (json : Bool)
    (reply : Option (List ℕ)) (t : Told) (x : Effect) → Reports w setup s bytes root json reply t x
    → IsStepOf s.setup.addr x.step
reports_of w setup s bytes root json reply (told.Ready job at) x is =
    ready_of w s root json job (drop at bytes) is.0 x is.2
reports_of w setup s bytes root json reply (told.Started job run at) x is =
    started_of w setup s root job run (drop at bytes) is.0 x is.2
reports_of w setup s bytes root json reply (told.Complete job outcome) x is =
    subst (λ (y : Effect). IsStepOf s.setup.addr y.step) (sym is.2)
    (complete_of s.setup.addr root json job outcome is.0)
reports_of w setup s bytes root json reply told.Heartbeat x is =
    subst (λ (y : Effect). IsStepOf s.setup.addr y.step) (sym is.2) refl

lives_of : (w : Weather) (setup : Setup) (life : ℕ) (s : ServerNow) (bytes : List ℕ) (root : ℕ) (json : Bool)
    (reply : Option (List ℕ)) (t : Told) (over : Bool) (x : Effect)
    → Lives w setup life s bytes root json reply t over x → IsStepOf s.setup.addr x.step
lives_of w setup life s bytes root json reply t true x is = subst (λ (y : Effect). IsStepOf s.setup.addr
    y.step)
    (sym is) tt
lives_of w setup life s bytes root json reply t false x is = reports_of w setup s bytes root json reply t x is

pub report_step : (w : Weather) (setup : Setup) (life : ℕ) (s : ServerNow) (bytes : List ℕ) (root : ℕ)
    (json : Bool)
    (reply : Option (List ℕ)) (t : Told) (x : Effect) → ReportsIn w setup life bytes root json reply t
    (Some s) x → IsStepOf s.setup.addr x.step
report_step w setup life s bytes root json reply t x is = lives_of w setup life s bytes root json reply t
    (is_over life s) x is

-- what a server makes of bytes that ask that
pub server_answered : {E : Type 0} (setup : Setup) (s : ServerNow) (number : ℕ) (bytes : List ℕ)
    (a : ServerAsked) (r : Result Made E) → AsksServer s bytes a
    → IfOk r (λ m. m.effect ≡ served setup s number a.json a.what)
    → IfOk r (λ m. IsServerAnswered setup s number bytes m.effect)
server_answered setup s number bytes a (Ok m) asks h = (a, asks, h)
server_answered setup s number bytes a (Err e) asks h = tt

kept_asked : (setup : Setup) (log : List CoreEntry) (s : ServerNow) (number : ℕ) (bytes : List ℕ)
    (a : ServerAsked) (x : Effect) (o : Option Pending) → AsksServer s bytes a
    → Keeps (λ p. (t : Told) × (told_of a.body a.what ≡ Some t) × (p ≡ report_of number a.json s t)) x o
    → Keeps (IsBegunBy setup log number (to_server s bytes) x) x o
kept_asked setup log s number bytes a x None asks h = h
kept_asked setup log s number bytes a x (Some p) asks h =
    ((a, asks, record { told = h.0.0; begins = h.0.1; is = h.0.2 }), h.1, h.2)

pub server_kept : {E : Type 0} (setup : Setup) (log : List CoreEntry) (s : ServerNow) (number : ℕ)
    (bytes : List ℕ) (a : ServerAsked) (r : Result Made E) → AsksServer s bytes a
    → IfOk r (λ m. Keeps (λ p. (t : Told) × (told_of a.body a.what ≡ Some t)
    × (p ≡ report_of number a.json s t)) m.effect m.pending)
    → IfOk r (λ m. Keeps (IsBegunBy setup log number (to_server s bytes) m.effect) m.effect m.pending)
server_kept setup log s number bytes a (Ok m) asks h = kept_asked setup log s number bytes a m.effect
    m.pending
    asks h
server_kept setup log s number bytes a (Err e) asks h = tt

-- what is asked of a server reaches for neither its folder nor its builder

assigned_reaches : (addr : Addr) (number : ℕ) (json : Bool) (job : JobId) (tc : List ℕ)
    (r : Result AssignJobResult ServerFault) → reached_in (assigned addr number json job tc r).step ≡ None
assigned_reaches addr number json job tc (Ok a) = refl
assigned_reaches addr number json job tc (Err e) = refl

served_reaches : (setup : Setup) (s : ServerNow) (number : ℕ) (json : Bool) (what : ServerRouted)
    → reached_in (served setup s number json what).step ≡ None
served_reaches setup s number json (server_asked.Assign job tc) = assigned_reaches s.setup.addr number json
    job
    tc (assign_verdict (books_of s) job tc)
served_reaches setup s number json (server_asked.Submit job) = refl
served_reaches setup s number json (server_asked.Run job run at) = refl
served_reaches setup s number json (server_asked.Done response) = refl

pub answered_reaches : (setup : Setup) (s : ServerNow) (number : ℕ) (bytes : List ℕ) (x : Effect)
    → IsServerAnswered setup s number bytes x → reached_in x.step ≡ None
answered_reaches setup s number bytes x is = ap (λ (y : Effect). reached_in y.step) is.2
    ∙ served_reaches setup s number is.0.json is.0.what

-- ---- what is received

way_there : (setup : Setup) (log : List Entry) (target peer : Addr) (bytes : List ℕ) (o : Option ServerNow)
    → same_addr target setup.scheduler.addr ≡ false → server_now setup log target ≡ o
    → way_to setup log target peer bytes ≡ server_way bytes o
way_there setup log target peer bytes o off there =
    ap (λ (b : Bool). cond b (to_scheduler peer bytes) (server_way bytes (server_now setup log target))) off
    ∙ ap (server_way bytes) there

pub nobody_received : (setup : Setup) (s : Core) (log : List Entry) (number at : ℕ) (target peer : Addr)
    (bytes : List ℕ) (m : Made) → same_addr target setup.scheduler.addr ≡ false
    → position (λ (x : SetupServer). same_addr x.addr target) setup.servers ≡ None
    → m ≡ record { effect = word_effect Down; pending = None }
    → IsReceived calm setup s number at (way_to setup log target peer bytes) m
nobody_received setup s log number at target peer bytes m off none same =
    let here : IsReceived calm setup s number at to_nobody
    (record { effect = word_effect Down; pending = None }) =
    record { served = refl; kept = refl } in
    let nobody : server_now setup log target ≡ None =
    ap (λ (o : Option SetupServer). option_map (λ x. server_of x log) o) (place_none setup target none) in
    subst (λ (v : Way). IsReceived calm setup s number at v m)
    (sym (way_there setup log target peer bytes None off nobody))
    (subst (λ (q : Made). IsReceived calm setup s number at to_nobody q) (sym same) here)

pub server_received : (setup : Setup) (s : Core) (log : List Entry) (sts : List Station) (number at : ℕ)
    (target peer : Addr) (bytes : List ℕ) (place : ℕ) (st : Station) (m : Made)
    (f : IsFound setup target place)
    → AreStations setup.servers log sts → slice_get sts place ≡ Some st
    → same_addr target setup.scheduler.addr ≡ false → st.running ≡ true
    → IsServerAnswered setup (now_of f.server st) number bytes m.effect
    → Keeps (IsBegunBy setup s.log number (to_server (now_of f.server st) bytes) m.effect) m.effect m.pending
    → IsReceived calm setup s number at (way_to setup log target peer bytes) m
server_received setup s log sts number at target peer bytes place st m f are there off runs answered kept =
    let here : IsReceived calm setup s number at (to_server (now_of f.server st) bytes) m =
    record { served = answered; kept = kept } in
    subst (λ (v : Way). IsReceived calm setup s number at v m)
    (sym (way_there setup log target peer bytes (Some (now_of f.server st)) off
    (station_now setup log sts target place st f are there)
    ∙ ap (λ (b : Bool). cond b (to_server (now_of f.server st) bytes) to_nobody) runs)) here

-- a server that does not run
pub closed_received : (setup : Setup) (s : Core) (log : List Entry) (sts : List Station) (number at : ℕ)
    (target peer : Addr) (bytes : List ℕ) (place : ℕ) (st : Station) (m : Made)
    (f : IsFound setup target place)
    → AreStations setup.servers log sts → slice_get sts place ≡ Some st
    → same_addr target setup.scheduler.addr ≡ false → st.running ≡ false
    → m ≡ record { effect = word_effect Down; pending = None }
    → IsReceived calm setup s number at (way_to setup log target peer bytes) m
closed_received setup s log sts number at target peer bytes place st m f are there off closed same =
    let here : IsReceived calm setup s number at to_nobody
    (record { effect = word_effect Down; pending = None }) = record { served = refl; kept = refl } in
    subst (λ (v : Way). IsReceived calm setup s number at v m)
    (sym (way_there setup log target peer bytes (Some (now_of f.server st)) off
    (station_now setup log sts target place st f are there)
    ∙ ap (λ (b : Bool). cond b (to_server (now_of f.server st) bytes) to_nobody) closed))
    (subst (λ (q : Made). IsReceived calm setup s number at to_nobody q) (sym same) here)

pub beat_received : (setup : Setup) (s : Core) (log : List Entry) (sts : List Station) (number at : ℕ)
    (addr : Addr) (place : ℕ) (st : Station) (m : Made) (f : IsFound setup addr place)
    → AreStations setup.servers log sts → slice_get sts place ≡ Some st → st.running ≡ true
    → m.effect ≡ beat_effect setup (now_of f.server st)
    → m.pending ≡ Some (report_of number false (now_of f.server st) told.Heartbeat)
    → IsReceived calm setup s number at (beat_way (server_now setup log addr)) m
beat_received setup s log sts number at addr place st m f are there runs effect pending =
    let n = now_of f.server st in
    let one : Made = record {
      effect = beat_effect setup n;
      pending = Some (report_of number false n told.Heartbeat);
    } in
    let here : IsReceived calm setup s number at (to_beat n) one =
    record { served = refl; kept = (refl, _, refl) }
    in
    let same : m ≡ one = ap (λ (x : Effect). record { effect = x; pending = m.pending }) effect
    ∙ ap (λ (o : Option Pending). record { effect = beat_effect setup n; pending = o }) pending in
    subst (λ (v : Way). IsReceived calm setup s number at v m)
    (sym (ap beat_way (station_now setup log sts addr place st f are there)
    ∙ ap (λ (b : Bool). cond b (to_beat n) to_nobody) runs))
    (subst (λ (q : Made). IsReceived calm setup s number at (to_beat n) q) (sym same) here)

pub closed_beat_received : (setup : Setup) (s : Core) (log : List Entry) (sts : List Station) (number at : ℕ)
    (addr : Addr) (place : ℕ) (st : Station) (m : Made) (f : IsFound setup addr place)
    → AreStations setup.servers log sts → slice_get sts place ≡ Some st → st.running ≡ false
    → m ≡ record { effect = word_effect Down; pending = None }
    → IsReceived calm setup s number at (beat_way (server_now setup log addr)) m
closed_beat_received setup s log sts number at addr place st m f are there closed same =
    let n = now_of f.server st in
    let here : IsReceived calm setup s number at to_nobody
    (record { effect = word_effect Down; pending = None }) = record { served = refl; kept = refl } in
    subst (λ (v : Way). IsReceived calm setup s number at v m)
    (sym (ap beat_way (station_now setup log sts addr place st f are there)
    ∙ ap (λ (b : Bool). cond b (to_beat n) to_nobody) closed))
    (subst (λ (q : Made). IsReceived calm setup s number at to_nobody q) (sym same) here)

pub no_beat_received : (setup : Setup) (s : Core) (log : List Entry) (number at : ℕ) (addr : Addr) (m : Made)
    → position (λ (x : SetupServer). same_addr x.addr addr) setup.servers ≡ None
    → m ≡ record { effect = word_effect Void; pending = None }
    → IsReceived calm setup s number at (beat_way (server_now setup log addr)) m
no_beat_received setup s log number at addr m none same =
    let here : IsReceived calm setup s number at to_nothing
    (record { effect = word_effect Void; pending = None })
    = record { served = refl; kept = refl } in
    let nobody : server_now setup log addr ≡ None =
    ap (λ (o : Option SetupServer). option_map (λ x. server_of x log) o) (place_none setup addr none) in
    subst (λ (v : Way). IsReceived calm setup s number at v m) (sym (ap beat_way nobody))
    (subst (λ (q : Made). IsReceived calm setup s number at to_nothing q) (sym same) here)

-- ---- a report that comes back

-- nobody is there whom it comes back to
pub no_report : (w : Weather) (setup : Setup) (log : List Entry) (life : ℕ) (bytes : List ℕ) (root : ℕ)
    (json : Bool)
    (reply : Option (List ℕ)) (t : Told) (addr : Addr) (x : Effect)
    → position (λ (s : SetupServer). same_addr s.addr addr) setup.servers ≡ None → x ≡ word_effect Died
    → ReportsIn w setup life bytes root json reply t (server_now setup log addr) x
no_report w setup log life bytes root json reply t addr x none died =
    let nobody : server_now setup log addr ≡ None =
    ap (λ (o : Option SetupServer). option_map (λ s. server_of s log) o) (place_none setup addr none) in
    subst (λ (o : Option ServerNow). ReportsIn w setup life bytes root json reply t o x) (sym nobody) died

pub report_there : (w : Weather) (setup : Setup) (log : List Entry) (sts : List Station) (life : ℕ)
    (bytes : List ℕ)
    (root : ℕ) (json : Bool) (reply : Option (List ℕ)) (t : Told) (addr : Addr) (place : ℕ) (st : Station)
    (x : Effect) (f : IsFound setup addr place)
    → AreStations setup.servers log sts → slice_get sts place ≡ Some st
    → ReportsIn w setup life bytes root json reply t (Some (now_of f.server st)) x
    → ReportsIn w setup life bytes root json reply t (server_now setup log addr) x
report_there w setup log sts life bytes root json reply t addr place st x f are there is =
    subst (λ (o : Option ServerNow). ReportsIn w setup life bytes root json reply t o x)
    (sym (station_now setup log sts addr place st f are there)) is

-- ---- what the scheduler does has no step

allocated_step : (seen : Core) (number : ℕ) (json : Bool) (tc : List ℕ) (made : CoreEntry) (k : CoreKind)
    → (alloc_effect seen number json tc made k).step ≡ None
allocated_step seen number json tc made (core.Reserve (reserve.Job job reg forgiven)) = refl
allocated_step seen number json tc made (core.Reserve (reserve.NoRoom standing)) = refl
allocated_step seen number json tc made (core.Reserve reserve.Spent) = refl
allocated_step seen number json tc made (core.Commit job state kept) = refl
allocated_step seen number json tc made (core.Undo job noted ended) = refl
allocated_step seen number json tc made (core.Beat server nonce cpus key pruned reaped replaced is_new) = refl
allocated_step seen number json tc made (core.Update server job state answer) = refl
allocated_step seen number json tc made (core.Status pruned servers cpus jobs) = refl
allocated_step seen number json tc made (core.Drain addr nonce on named) = refl

cond_step : (b : Bool) (x y : Effect) → x.step ≡ None → y.step ≡ None → (cond b x y).step ≡ None
cond_step true x y one two = one
cond_step false x y one two = two

does_step : (s : Core) (number at : ℕ) (json : Bool) (what : SchedRouted)
    → (answer_to s number at json what).step ≡ None
does_step s number at json (asked.Alloc tc) = let made = rule s (call.Reserve at)
    in allocated_step s number json tc made made.kind
does_step s number at json (asked.Beat server beat) = cond_step (hears beat.num_cpus) _ _ refl refl
does_step s number at json (asked.Update server job state) = refl
does_step s number at json asked.Status = refl
does_step s number at json (asked.Drain server wish) = refl
does_step s number at json (asked.Done response) = refl

pub scheduler_step : (setup : Setup) (s : Core) (number at : ℕ) (peer : Addr) (bytes : List ℕ) (x : Effect)
    → IsAnswered setup s number at peer bytes x → x.step ≡ None
scheduler_step setup s number at peer bytes x is = ap (λ (y : Effect). y.step) is.2
    ∙ does_step s number at is.0.json is.0.what

pub server_core : (setup : Setup) (s : ServerNow) (number : ℕ) (bytes : List ℕ) (x : Effect)
    → IsServerAnswered setup s number bytes x → x.core ≡ None
server_core setup s number bytes x is = ap (λ (y : Effect). y.core) is.2
    ∙ served_core setup s number is.0.json is.0.what

-- nor has the end of an assignment
pub end_step : (s : Core) (root : ℕ) (json : Bool) (at : ℕ) (t : Ticket)
    (r : Result AssignJobResult CallFault) → (assignment_end s root json at t r).step ≡ None
end_step s root json at t (Ok a) = refl
end_step s root json at t (Err f) = refl

-- an assignment that comes back
pub goes_assigned : (setup : Setup) (log : List Entry) (at root : ℕ) (json : Bool) (reply : Option (List ℕ))
    (t : Ticket) (core : Core) (x : Effect) → core ≡ core_of setup log
    → (r : Result AssignJobResult CallFault) → IsOutcome reply r → x ≡ assignment_end core root json at t r
    → GoesOn calm setup log at root json reply (Assign t) x
goes_assigned setup log at root json reply t core x same r is made =
    (r, is, made ∙ ap (λ (c : Core). assignment_end c root json at t r) same)

-- ---- a restart

-- the server at a place of the setup starts again
abbrev pub IsRestart : List Station → List Station → Made → List ℕ → ℕ → ℕ → SetupServer → Station → Type 0
IsRestart sts new m key nonce place s st =
    (m.pending ≡ None) × IsRestartAt s place st key nonce m.effect sts new

pub restart_at : (setup : Setup) (addr : Addr) (sts new : List Station) (m : Made) (key : List ℕ) (nonce : ℕ)
    (here : ℕ) (server : SetupServer) (station : Station)
    → position (λ (x : SetupServer). same_addr x.addr addr) setup.servers ≡ Some here
    → slice_get setup.servers here ≡ Some server → slice_get sts here ≡ Some station
    → IsRestart sts new m key nonce here server station
    → (place : ℕ) (s : SetupServer) (st : Station)
    → position (λ (x : SetupServer). same_addr x.addr addr) setup.servers ≡ Some place
    → slice_get setup.servers place ≡ Some s → slice_get sts place ≡ Some st
    → IsRestart sts new m key nonce place s st
restart_at setup addr sts new m key nonce here server station found there stands is place s st e at bt =
    let p : here ≡ place = same_Some here place (sym found ∙ e) in
    let es : server ≡ s = same_Some server s (sym there ∙ ap (slice_get setup.servers) p ∙ at) in
    let et : station ≡ st = same_Some station st (sym stands ∙ ap (slice_get sts) p ∙ bt) in
    subst (λ (k : ℕ). IsRestart sts new m key nonce k s st) p
    (subst (λ (x : SetupServer). IsRestart sts new m key nonce here x st) es
    (subst (λ (y : Station). IsRestart sts new m key nonce here server y) et is))

pub no_restart : (P : Type 0) (setup : Setup) (addr : Addr) (here : ℕ)
    → position (λ (x : SetupServer). same_addr x.addr addr) setup.servers ≡ Some here
    → server_at setup addr ≡ None → P
no_restart P setup addr here found none =
    let f = place_found setup addr here found in
    let two : None ≡ Some f.server = sym none ∙ f.found in
    absurd cc

-- ---- what a server makes of what comes to its place

pub kept_same : (setup : Setup) (log : List CoreEntry) (number : ℕ) (bytes : List ℕ) (m : Made)
    (server s : SetupServer) (station st : Station) → server ≡ s → station ≡ st
    → Keeps (IsBegunBy setup log number (to_server (now_of server station) bytes) m.effect) m.effect m.pending
    → Keeps (IsBegunBy setup log number (to_server (now_of s st) bytes) m.effect) m.effect m.pending
kept_same setup log number bytes m server s station st es et is =
    subst (λ (x : SetupServer). Keeps (IsBegunBy setup log number (to_server (now_of x st) bytes) m.effect)
    m.effect m.pending) es
    (subst (λ (y : Station). Keeps (IsBegunBy setup log number (to_server (now_of server y) bytes) m.effect)
    m.effect m.pending) et is)

pub step_same : (place : ℕ) (x : Option Step) (sts new : List Station) (server s : SetupServer)
    (station st after : Station) → server ≡ s → station ≡ st → new ≡ set sts place after
    → now_of server after ≡ stepped x (now_of server station) → IsWell server after
    → LeavesOutside x (outside_of station) (outside_of after)
    → IsStepAt s place st x sts new
step_same place x sts new server s station st after es et put now well leaves =
    let is : IsStepAt server place station x sts new =
    record { after = after; is = put; now = now; well = well; outside = leaves } in
    subst (λ (y : SetupServer). IsStepAt y place st x sts new) es
    (subst (λ (y : Station). IsStepAt server place y x sts new) et is)

-- a report that comes back to its place
abbrev pub IsReported : Setup → ℕ → ℕ → List ℕ → ℕ → Bool → Option (List ℕ) → Told → Effect → List Station
    → List Station → SetupServer → Station → Type 0
IsReported setup place life bytes root json reply t x sts new s st =
    (is : IsStepAt s place st x.step sts new)
    × ReportsIn (weather_of (outside_of st) (outside_of is.after)) setup life bytes root json reply t
    (Some (now_of s st)) x

pub report_same : (setup : Setup) (place life : ℕ) (bytes : List ℕ) (root : ℕ) (json : Bool)
    (reply : Option (List ℕ)) (t : Told) (x : Effect) (sts new : List Station) (server s : SetupServer)
    (station st after : Station) → server ≡ s → station ≡ st → new ≡ set sts place after
    → now_of server after ≡ stepped x.step (now_of server station) → IsWell server after
    → LeavesOutside x.step (outside_of station) (outside_of after)
    → ReportsIn (weather_of (outside_of station) (outside_of after)) setup life bytes root json reply t
    (Some (now_of server station)) x
    → IsReported setup place life bytes root json reply t x sts new s st
report_same setup place life bytes root json reply t x sts new server s station st after es et put now well
    leaves
    reports =
    let is : IsReported setup place life bytes root json reply t x sts new server station =
    (record { after = after; is = put; now = now; well = well; outside = leaves }, reports) in
    subst (λ (y : SetupServer). IsReported setup place life bytes root json reply t x sts new y st) es
    (subst (λ (y : Station). IsReported setup place life bytes root json reply t x sts new server y) et is)

-- ---- what a restart makes

opened_core : (n : ServerNow) (o : Option Archives) → (opened_effect n o).core ≡ None
opened_core n None = refl
opened_core n (Some list) = refl

opened_call : (n : ServerNow) (o : Option Archives) → (opened_effect n o).call ≡ None
opened_call n None = refl
opened_call n (Some list) = refl

opened_of : (s : SetupServer) (st : Station) (o : Option Archives)
    → IsStepOf s.addr (opened_effect (now_of s st) o).step
opened_of s st None = tt
opened_of s st (Some list) = refl

restart_core_by : (setup : Setup) (log : List Entry) (addr : Addr) (sts new : List Station) (m : Made)
    (key : List ℕ) (nonce : ℕ) (o : Option ℕ) → AreStations setup.servers log sts
    → position (λ (x : SetupServer). same_addr x.addr addr) setup.servers ≡ o
    → (server_at setup addr ≡ None → (m ≡ record { effect = word_effect Void; pending = None }) × (new ≡ sts))
    → ((place : ℕ) (s : SetupServer) (st : Station)
    → position (λ (x : SetupServer). same_addr x.addr addr) setup.servers ≡ Some place
    → slice_get setup.servers place ≡ Some s → slice_get sts place ≡ Some st
    → IsRestart sts new m key nonce place s st)
    → m.effect.core ≡ None
restart_core_by setup log addr sts new m key nonce None are found none some = ap (λ (q : Made). q.effect.core)
    (none (place_none setup addr found)).0
restart_core_by setup log addr sts new m key nonce (Some place) are found none some =
    let f = place_found setup addr place found in
    let st = station_there setup.servers log sts place f.server are f.there in
    let r = (some place f.server st.0 found f.there st.1).1 in
    ap (λ (x : Effect). x.core) r.so.effect ∙ opened_core (now_of f.server st.0) r.so.found

pub restart_core : (setup : Setup) (log : List Entry) (addr : Addr) (sts new : List Station) (m : Made)
    (key : List ℕ) (nonce : ℕ) → AreStations setup.servers log sts
    → (server_at setup addr ≡ None → (m ≡ record { effect = word_effect Void; pending = None }) × (new ≡ sts))
    → ((place : ℕ) (s : SetupServer) (st : Station)
    → position (λ (x : SetupServer). same_addr x.addr addr) setup.servers ≡ Some place
    → slice_get setup.servers place ≡ Some s → slice_get sts place ≡ Some st
    → IsRestart sts new m key nonce place s st)
    → m.effect.core ≡ None
restart_core setup log addr sts new m key nonce are none some =
    restart_core_by setup log addr sts new m key nonce
    (position (λ (x : SetupServer). same_addr x.addr addr) setup.servers) are refl none some

restart_made_by : (setup : Setup) (s : Core) (log : List Entry) (ps : List (Option Pending))
    (sts new : List Station) (event : Event) (addr : Addr) (key : List ℕ) (nonce : ℕ) (m : Made)
    (o : Option ℕ) → IsFarm setup s log ps sts
    → event.kind ≡ Restart addr key nonce
    → position (λ (x : SetupServer). same_addr x.addr addr) setup.servers ≡ o
    → (server_at setup addr ≡ None → (m ≡ record { effect = word_effect Void; pending = None })
    × (new ≡ sts))
    → ((place : ℕ) (s : SetupServer) (st : Station)
    → position (λ (x : SetupServer). same_addr x.addr addr) setup.servers ≡ Some place
    → slice_get setup.servers place ≡ Some s → slice_get sts place ≡ Some st
    → IsRestart sts new m key nonce place s st)
    → IsMadeSo setup log event (way_of setup log event.kind) ps sts new m
restart_made_by setup s log ps sts new event addr key nonce m None is kind found none some =
    let idle = none (place_none setup addr found) in
    let nobody : server_now setup log addr ≡ None =
    ap (λ (o : Option SetupServer). option_map (λ x. server_of x log) o) (place_none setup addr found) in
    let stand = stations_gone setup log sts (entry_of event (word_effect Void)) addr key nonce is.stations
    found kind refl in
    let old = map outside_of sts in
    let moved : Moves setup (Some addr) calm old old = inr (record {
      none = place_none setup addr found;
      still = record { left = refl; own = λ own. refl };
    }) in
    let moves : Moves setup (reached event.kind None) calm old old =
    subst (λ (k : EventKind). Moves setup (reached k None) calm old old) (sym kind) moved in
    idle_stands setup s log ps sts new event m is
    (ap (way_of setup log) kind ∙ ap (restart_way key nonce) nobody)
    (subst (AreStations setup.servers (log ++ entry_of event (word_effect Void) ∷ [])) (sym idle.1) stand)
    (subst (λ (ys : List Station). IsMoved setup (entry_of event (word_effect Void)) calm old
    (map outside_of ys)) (sym idle.1) moves)
    idle.0
restart_made_by setup s log ps sts new event addr key nonce m (Some place) is kind found none some =
    let f = place_found setup addr place found in
    let st = station_there setup.servers log sts place f.server is.stations f.there in
    let given = some place f.server st.0 found f.there st.1 in
    let r = given.1 in
    let n = now_of f.server st.0 in
    let w = weather_of (outside_of st.0) (outside_of r.after) in
    let silent : m.effect.call ≡ None =
    ap (λ (x : Effect). x.call) r.so.effect ∙ opened_call n r.so.found in
    let kept : Keeps (IsBegunBy setup s.log (length log) (to_restart n key nonce) m.effect) m.effect
    m.pending =
    subst (λ (o : Option Pending). Keeps (IsBegunBy setup s.log (length log) (to_restart n key nonce)
    m.effect)
    m.effect o) (sym given.0) silent in
    let here : IsReceived w setup s (length log) event.at (to_restart n key nonce) m =
    record { served = (r.so.found, r.so.opens, r.so.effect); kept = kept } in
    let way : way_of setup log event.kind ≡ to_restart n key nonce = ap (way_of setup log) kind
    ∙ ap (restart_way key nonce) (station_now setup log sts addr place st.0 f is.stations st.1) in
    let of : IsStepOf f.server.addr (entry_of event m.effect).step =
    subst (λ (x : Effect). IsStepOf f.server.addr x.step) (sym r.so.effect)
    (opened_of f.server st.0 r.so.found) in
    let stand = stations_restarted setup log sts (entry_of event m.effect) addr key nonce place st.0 r.after f
    is.apart is.stations st.1 kind of r.so.now r.so.well in
    let moved : Moves setup (Some addr) w (map outside_of sts) (map outside_of (set sts place r.after)) =
    inl (record {
      place = place;
      server = f.server;
      there = f.there;
      at = f.at;
      was = outside_of st.0;
      is = outside_of r.after;
      before = get_map outside_of sts place st.0 st.1;
      left = set_map outside_of sts place r.after;
      weather = refl;
      leaves = r.so.leaves;
    }) in
    let moves : IsMoved setup (entry_of event m.effect) w (map outside_of sts)
    (map outside_of (set sts place r.after)) =
    subst (λ (k : EventKind). Moves setup (reached k m.effect.step) w (map outside_of sts)
    (map outside_of (set sts place r.after))) (sym kind) moved in
    received_made w setup s log ps sts new event (length log) event.at (to_restart n key nonce) m is refl refl
    way (ap (settles_by log) kind) here
    (subst (AreStations setup.servers (log ++ entry_of event m.effect ∷ [])) (sym r.is) stand)
    (subst (λ (ys : List Station). IsMoved setup (entry_of event m.effect) w (map outside_of sts)
    (map outside_of ys)) (sym r.is) moves)

pub restart_made : (setup : Setup) (s : Core) (log : List Entry) (ps : List (Option Pending))
    (sts new : List Station) (event : Event) (addr : Addr) (key : List ℕ) (nonce : ℕ) (m : Made)
    → IsFarm setup s log ps sts
    → event.kind ≡ Restart addr key nonce
    → (server_at setup addr ≡ None → (m ≡ record { effect = word_effect Void; pending = None })
    × (new ≡ sts))
    → ((place : ℕ) (s : SetupServer) (st : Station)
    → position (λ (x : SetupServer). same_addr x.addr addr) setup.servers ≡ Some place
    → slice_get setup.servers place ≡ Some s → slice_get sts place ≡ Some st
    → IsRestart sts new m key nonce place s st)
    → IsMadeSo setup log event (way_of setup log event.kind) ps sts new m
restart_made setup s log ps sts new event addr key nonce m is kind none some =
    restart_made_by setup s log ps sts new event addr key nonce m
    (position (λ (x : SetupServer). same_addr x.addr addr) setup.servers) is kind refl none some
