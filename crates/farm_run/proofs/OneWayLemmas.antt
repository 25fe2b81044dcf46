-- Over the entries of a farm an event has one next entry, also over folders and builders that were handed in.
use Rattle.std.proofs.Common.{◌≡◌, inl, inr, ℕ, Bool, true, false, cond, List, [], ◌∷◌, ◌++◌, drop, set, Option}
use Rattle.std.proofs.Common.{Some, None, Result, Ok, Err, refl, sym, ap, subst, ◌∙◌}
use Rattle.std.specs.Prelude.{slice_get}
use Rattle.std.specs.Option.{option_map}
use Rattle.std.proofs.lemmas.Bool.{cases_eq}
use Rattle.std.proofs.lemmas.Option.{same_Some}
use Rattle.dist_types.specs.Addr.{same_addr}
use Rattle.dist_types.specs.declared.addr.Addr.{Addr}
use Rattle.dist_types.specs.declared.ids.JobId.{JobId}
use Rattle.dist_types.specs.declared.outgoing.CallFault.{CallFault}
use Rattle.dist_types.specs.declared.results.UpdateJobStateResult.{UpdateJobStateResult}
use Rattle.dist_wire.specs.declared.run.RunJobHttpRequest.{RunJobHttpRequest}
use Rattle.core_rules.specs.Log.{Core}
use Rattle.core_rules.proofs.AddressLemmas.{same_self}
use Rattle.build_server.specs.Builds.{Builder}
use Rattle.farm_script.specs.declared.event.Event.{Event}
use Rattle.farm_script.specs.declared.event.EventKind.{EventKind}
use Rattle.farm_script.specs.declared.event.EventKind.TheVariants.{Request, Deliver, Fail, Return, Answer}
use Rattle.farm_script.specs.declared.event.EventKind.TheVariants.{Beat, Restart}
use Rattle.farm_entries.specs.declared.site.Site.{Site as Setup}
use Rattle.farm_entries.specs.declared.site.SiteServer.{SiteServer}
use Rattle.farm_entries.specs.declared.entry.Effect.{Effect}
use Rattle.farm_entries.specs.declared.entry.Entry.{Entry}
use Rattle.farm_entries.specs.declared.entry.EntryWord.TheVariants.{Void}
use Rattle.farm_entries.specs.declared.entry.OutCall.{OutCall}
use Rattle.farm_entries.specs.declared.pending.Ask.{Ask}
use Rattle.farm_entries.specs.declared.pending.Ask.TheVariants.{Assign, Report}
use Rattle.farm_entries.specs.declared.pending.Pending.{Pending}
use Rattle.farm_entries.specs.declared.pending.Told.{Told}
use Rattle.farm_entries.specs.declared.pending.Told.TheVariants as told
use Rattle.farm_entries.specs.Begun.{IsCallOf}
use Rattle.farm_entries.specs.Calls.{call_at, delivery_at, waiting_at}
use Rattle.farm_entries.specs.Effects.{word_effect, entry_of}
use Rattle.farm_entries.specs.Next.{GoesOn, IsSettled, IsMade, IsNext}
use Rattle.farm_entries.specs.Passage.{reached_in, reached, Moves, MovesAt, IsMoved}
use Rattle.farm_entries.specs.Seen.{core_of}
use Rattle.farm_entries.specs.Servers.{ServerNow, restart_by, server_of, server_at, server_now, is_over}
use Rattle.farm_entries.specs.Settled.{ReadyEnds, StartedEnds, Reports, Lives, ReportsIn}
use Rattle.farm_entries.specs.Ways.{Way, way_of, brought_at, server_way, delivery_way, return_way, is_inside}
use Rattle.farm_entries.specs.Ways.{beat_way, restart_way, caller_of, to_nothing, to_nobody, to_scheduler}
use Rattle.farm_entries.specs.Ways.{to_server, to_call, to_beat, to_restart}
use Rattle.farm_entries.specs.Weather.{Outside, Weather, calm, weather_by, weather_of}
use Rattle.farm_laws.proofs.BuildLemmas.{found_now}
use Rattle.farm_laws.proofs.OneLemmas.{Agrees, calm_agrees, one_call, agreed_next}
use Rattle.farm_laws.proofs.ToldLemmas.{told_agrees}
use Rattle.farm_stations.specs.Stations.{HasApart}
use Rattle.farm_stations.specs.Hands.{Hand}
use Rattle.farm_run.specs.Alike.{AreAlike, AllAlike}
use Rattle.farm_run.specs.Farm.{Farmed, StepsTo}
use Rattle.farm_run.specs.Stops.{reporter, IsReportOf}
use Rattle.farm_run.proofs.RowLemmas.{report_step, answered_reaches, scheduler_step, end_step}
use Rattle.farm_run.proofs.ServerLemmas.{IsStepOf, apart_at, get_set_same, within}
use Rattle.farm_run.proofs.StandLemmas.{reached_own, reached_still}

some_none : (a : Addr) → ◌≡◌ {A = Option Addr} (Some a) None → ⊥
some_none a e = cc

-- ---- ways that restart nothing

abbrev Restarts : Way → Type 0
Restarts to_nothing = ⊥
Restarts to_nobody = ⊥
Restarts (to_scheduler peer bytes) = ⊥
Restarts (to_server s bytes) = ⊥
Restarts (to_call n reply) = ⊥
Restarts (to_beat s) = ⊥
Restarts (to_restart s key nonce) = Unit {0}

at_server : (b : Bool) (s : ServerNow) (bytes : List ℕ) → Restarts (cond b (to_server s bytes) to_nobody) → ⊥
at_server true s bytes h = h
at_server false s bytes h = h

at_addr : (b : Bool) (peer : Addr) (bytes : List ℕ) (o : Option ServerNow)
    → Restarts (cond b (to_scheduler peer bytes) (server_way bytes o)) → ⊥
at_addr true peer bytes o h = h
at_addr false peer bytes None h = h
at_addr false peer bytes (Some s) h = at_server s.running s bytes h

at_delivery : (setup : Setup) (log : List Entry) (caller : Addr) (o : Option OutCall)
    → Restarts (delivery_way setup log caller o) → ⊥
at_delivery setup log caller None h = h
at_delivery setup log caller (Some c) h =
    at_addr (same_addr c.target setup.scheduler.addr) caller c.bytes (server_now setup log c.target) h

at_return : (o : Option (ℕ × List ℕ)) → Restarts (return_way o) → ⊥
at_return None h = h
at_return (Some p) h = h

at_answer : (b : Bool) (c : ℕ) (bytes : List ℕ) → Restarts (cond b to_nothing (to_call c (Some bytes))) → ⊥
at_answer true c bytes h = h
at_answer false c bytes h = h

at_running : (b : Bool) (s : ServerNow) → Restarts (cond b (to_beat s) to_nobody) → ⊥
at_running true s h = h
at_running false s h = h

at_beat : (o : Option ServerNow) → Restarts (beat_way o) → ⊥
at_beat None h = h
at_beat (Some s) h = at_running s.running s h

still_way : (setup : Setup) (log : List Entry) (k : EventKind) → ((a : Addr) → restart_by a k ≡ None)
    → Restarts (way_of setup log k) → ⊥
still_way setup log (Request target peer bytes) still h =
    at_addr (same_addr target setup.scheduler.addr) peer bytes (server_now setup log target) h
still_way setup log (Deliver c) still h =
    at_delivery setup log (caller_of setup log (slice_get log c)) (call_at log c) h
still_way setup log (Fail c) still h = h
still_way setup log (Return d) still h = at_return (delivery_at log d) h
still_way setup log (Answer c bytes) still h = at_answer (is_inside setup (call_at log c)) c bytes h
still_way setup log (Beat server) still h = at_beat (server_now setup log server) h
still_way setup log (Restart server key nonce) still h =
    let no : ◌≡◌ {A = Option (List ℕ × ℕ)} (Some (key, nonce)) None =
    ap (λ (b : Bool). cond b (Some (key, nonce)) None) (sym (same_self server)) ∙ still server in
    cc

-- ---- what reaches for nobody is made in any weather

module _ (v w : Weather) where
  ready_any : (s : ServerNow) (root : ℕ) (json : Bool) (job : JobId) (archive : List ℕ)
      (r : Result UpdateJobStateResult CallFault) (x : Effect) → reached_in x.step ≡ None
      → ReadyEnds v s root json job archive r x → ReadyEnds w s root json job archive r x
  ready_any s root json job archive (Ok u) x none is =
      absurd (some_none s.setup.addr (sym (ap (λ (y : Effect). reached_in y.step) is.2) ∙ none))
  ready_any s root json job archive (Err f) x none is = is

  started_any : (setup : Setup) (s : ServerNow) (root : ℕ) (job : JobId) (run : RunJobHttpRequest)
      (inputs : List ℕ) (r : Result UpdateJobStateResult CallFault) (x : Effect) → reached_in x.step ≡ None
      → StartedEnds v setup s root job run inputs r x → StartedEnds w setup s root job run inputs r x
  started_any setup s root job run inputs (Ok u) x none is =
      absurd (some_none s.setup.addr (sym (ap (λ (y : Effect). reached_in y.step) is.2) ∙ none))
  started_any setup s root job run inputs (Err f) x none is = is

  reports_any : (setup : Setup) (s : ServerNow) (bytes : List ℕ) (root : ℕ) (json : Bool)
      (reply : Option (List ℕ)) (t : Told) (x : Effect) → reached_in x.step ≡ None
      → Reports v setup s bytes root json reply t x → Reports w setup s bytes root json reply t x
  reports_any setup s bytes root json reply (told.Ready job at) x none is =
      (is.0, is.1, ready_any s root json job (drop at bytes) is.0 x none is.2)
  reports_any setup s bytes root json reply (told.Started job run at) x none is =
      (is.0, is.1, started_any setup s root job run (drop at bytes) is.0 x none is.2)
  reports_any setup s bytes root json reply (told.Complete job outcome) x none is = is
  reports_any setup s bytes root json reply told.Heartbeat x none is = is

  lives_any : (setup : Setup) (life : ℕ) (s : ServerNow) (bytes : List ℕ) (root : ℕ) (json : Bool)
      (reply : Option (List ℕ)) (t : Told) (over : Bool) (x : Effect) → reached_in x.step ≡ None
      → Lives v setup life s bytes root json reply t over x → Lives w setup life s bytes root json reply t
      over x
  lives_any setup life s bytes root json reply t true x none is = is
  lives_any setup life s bytes root json reply t false x none is =
      reports_any setup s bytes root json reply t x none is

  report_any : (setup : Setup) (life : ℕ) (bytes : List ℕ) (root : ℕ) (json : Bool)
      (reply : Option (List ℕ)) (t : Told) (o : Option ServerNow) (x : Effect) → reached_in x.step ≡ None
      → ReportsIn v setup life bytes root json reply t o x
      → ReportsIn w setup life bytes root json reply t o x
  report_any setup life bytes root json reply t None x none is = is
  report_any setup life bytes root json reply t (Some s) x none is =
      lives_any setup life s bytes root json reply t (is_over life s) x none is

  goes_any : (setup : Setup) (log : List Entry) (at root : ℕ) (json : Bool) (reply : Option (List ℕ))
      (ask : Ask) (x : Effect) → reached_in x.step ≡ None → GoesOn v setup log at root json reply ask x
      → GoesOn w setup log at root json reply ask x
  goes_any setup log at root json reply (Assign t) x none is = is
  goes_any setup log at root json reply (Report server life t) x none is = report_any setup life
      (brought_at log root) root json reply t (server_now setup log server) x none is

  settled_any : (setup : Setup) (log : List Entry) (at n : ℕ) (reply : Option (List ℕ)) (o : Option Entry)
      (x : Effect) → reached_in x.step ≡ None → IsSettled v setup log at n reply o x
      → IsSettled w setup log at n reply o x
  settled_any setup log at n reply None x none is = is
  settled_any setup log at n reply (Some e) x none is =
      (is.0, is.1, goes_any setup log at is.0.root is.0.json reply is.0.ask x none is.2)

  made_any : (setup : Setup) (log : List Entry) (at : ℕ) (way : Way) (x : Effect) → (Restarts way → ⊥)
      → reached_in x.step ≡ None → IsMade v setup log at way x → IsMade w setup log at way x
  made_any setup log at (to_call n reply) x still none is =
      settled_any setup log at n reply (waiting_at log n) x none is
  made_any setup log at (to_scheduler peer bytes) x still none is = is
  made_any setup log at (to_server s bytes) x still none is = is
  made_any setup log at (to_beat s) x still none is = is
  made_any setup log at (to_restart s key nonce) x still none is = absurd (still tt)
  made_any setup log at to_nothing x still none is = is
  made_any setup log at to_nobody x still none is = is

-- ---- who is reached for makes the report that is settled

-- the server at the address is of the farm, and makes the report that the way settles
abbrev ReportsOn : Setup → List Entry → Way → Addr → Type 0
ReportsOn setup log (to_call n reply) addr = IsReportOf setup log n addr
ReportsOn setup log to_nothing addr = ⊥
ReportsOn setup log to_nobody addr = ⊥
ReportsOn setup log (to_scheduler peer bytes) addr = ⊥
ReportsOn setup log (to_server s bytes) addr = ⊥
ReportsOn setup log (to_beat s) addr = ⊥
ReportsOn setup log (to_restart s key nonce) addr = ⊥

abbrev IsThere : Setup → Addr → Type 0
IsThere setup addr = (s : SiteServer) × (server_at setup addr ≡ Some s)

none_some : (o : Option Addr) (addr : Addr) → o ≡ None → o ≡ Some addr → ⊥
none_some o addr none some = some_none addr (sym some ∙ none)

module _ (w : Weather) (setup : Setup) (log : List Entry) (addr : Addr) (x : Effect)
    (at_addr : reached_in x.step ≡ Some addr) where
  silent : (y : Effect) → x ≡ y → reached_in y.step ≡ None → ⊥
  silent y same none = none_some (reached_in x.step) addr
      (ap (λ (z : Effect). reached_in z.step) same ∙ none) at_addr

  report_reaches : (server : Addr) (life : ℕ) (bytes : List ℕ) (root : ℕ) (json : Bool)
      (reply : Option (List ℕ)) (t : Told) (o : Option ServerNow) → server_now setup log server ≡ o
      → ReportsIn w setup life bytes root json reply t o x → (server ≡ addr) × IsThere setup addr
  report_reaches server life bytes root json reply t None now is = absurd (silent _ is refl)
  report_reaches server life bytes root json reply t (Some s) now is =
      let f = found_now setup log server s now in
      let of : IsStepOf s.setup.addr x.step = report_step w setup life s bytes root json reply t x is in
      let own : server ≡ addr = sym f.own ∙ reached_own x.step s.setup.addr addr of at_addr in
      (own, (f.server, ap (server_at setup) (sym own) ∙ f.found))

  goes_reaches : (at root : ℕ) (json : Bool) (reply : Option (List ℕ)) (ask : Ask)
      → GoesOn w setup log at root json reply ask x → (reporter ask ≡ Some addr) × IsThere setup addr
  goes_reaches at root json reply (Assign t) is = absurd (silent _ is.2
      (ap reached_in (end_step (core_of setup log) root json at t is.0)))
  goes_reaches at root json reply (Report server life t) is =
      let r = report_reaches server life (brought_at log root) root json reply t (server_now setup log server)
      refl is in
      (ap (λ (a : Addr). Some a) r.0, r.1)

  settled_reaches : (at n : ℕ) (reply : Option (List ℕ)) (o : Option Entry)
      → IsSettled w setup log at n reply o x → IsReportOf setup log n addr × IsThere setup addr
  settled_reaches at n reply None is = absurd (silent _ is refl)
  settled_reaches at n reply (Some e) is =
      let r = goes_reaches at is.0.root is.0.json reply is.0.ask is.2 in
      ((is.0, is.1, r.0), r.1)

  made_reaches : (at : ℕ) (way : Way) → (Restarts way → ⊥) → IsMade w setup log at way x
      → ReportsOn setup log way addr × IsThere setup addr
  made_reaches at (to_call n reply) still is = settled_reaches at n reply (waiting_at log n) is
  made_reaches at (to_scheduler peer bytes) still is = absurd (none_some (reached_in x.step) addr
      (ap reached_in (scheduler_step setup (core_of setup log) _ at peer bytes x is)) at_addr)
  made_reaches at (to_server s bytes) still is =
      absurd (none_some (reached_in x.step) addr (answered_reaches setup s _ bytes x is) at_addr)
  made_reaches at (to_beat s) still is = absurd (silent _ is refl)
  made_reaches at (to_restart s key nonce) still is = absurd (still tt)
  made_reaches at to_nothing still is = absurd (silent _ is refl)
  made_reaches at to_nobody still is = absurd (silent _ is refl)

one_reporter : (setup : Setup) (log : List Entry) (way : Way) (a b : Addr) → ReportsOn setup log way a
    → ReportsOn setup log way b → a ≡ b
one_reporter setup log (to_call n reply) a b p q = same_Some a b
    (sym p.2 ∙ ap (λ (c : Pending). reporter c.ask) (one_call setup log n p.0 q.0 p.1 q.1) ∙ q.2)
one_reporter setup log to_nothing a b p q = absurd p
one_reporter setup log to_nobody a b p q = absurd p
one_reporter setup log (to_scheduler peer bytes) a b p q = absurd p
one_reporter setup log (to_server s bytes) a b p q = absurd p
one_reporter setup log (to_beat s) a b p q = absurd p
one_reporter setup log (to_restart s key nonce) a b p q = absurd p

-- ---- what is told alike

alike_by : (was one other : Outside) (o : Option Builder) → was.builder ≡ o → AreAlike was one other
    → Agrees (weather_by o was one) (weather_by o was other)
alike_by was one other None is alike = calm_agrees
alike_by was one other (Some builder) is alike =
    let (rows, first, second) = alike builder is in
    told_agrees was one other rows first second

alike_agrees : (was one other : Outside) → AreAlike was one other
    → Agrees (weather_of was one) (weather_of was other)
alike_agrees was one other alike = alike_by was one other was.builder refl alike

alike_left : (was one other : Outside) → AreAlike was one other → AreAlike was one one
alike_left was one other alike = λ builder is.
    let (rows, first, second) = alike builder is in
    (rows, first, first)

alike_right : (was one other : Outside) → AreAlike was one other → AreAlike was other other
alike_right was one other alike = λ builder is.
    let (rows, first, second) = alike builder is in
    (rows, second, second)

moved_there : (setup : Setup) (addr : Addr) (w : Weather) (old new : List Outside)
    (m : MovesAt setup addr w old new) → slice_get new m.place ≡ Some m.is
moved_there setup addr w old new m = ap (λ (os : List Outside). slice_get os m.place) m.left
    ∙ get_set_same old m.place m.is (within old m.place m.was m.before)

-- ---- two next entries

module _ (setup : Setup) (log : List Entry) (apart : HasApart setup) (event : Event) (e f : Entry)
    (old ones others : List Outside) (alike : AllAlike old ones others) where
  -- one that reaches for nobody beside one in some weather
  idle_one : (v w : Weather) (was is : Outside) → ((u : Weather) → IsNext u setup log event e)
      → IsNext w setup log event f → w ≡ weather_of was is → AreAlike was is is → e ≡ f
  idle_one v w was is every q same both =
      agreed_next (weather_of was is) (weather_of was is) (alike_agrees was is is both) setup log event e f
      (every (weather_of was is)) (subst (λ (u : Weather). IsNext u setup log event f) same q)

  -- both reach for the server at an address
  both_one : (v w : Weather) (a b : Addr) → a ≡ b → IsNext v setup log event e
      → IsNext w setup log event f → MovesAt setup a v old ones → MovesAt setup b w old others → e ≡ f
  both_one v w a b same p q m n =
      let place : m.place ≡ n.place = elim (cases_eq m.place n.place) [
        | inl here ↦ here
        | inr differ ↦ absurd (apart_at setup.servers m.place n.place m.server n.server apart.1 m.there
            n.there differ (m.at ∙ same ∙ sym n.at))
      ] in
      let was : n.was ≡ m.was = same_Some n.was m.was (sym n.before ∙ ap (slice_get old) (sym place)
      ∙ m.before) in
      let there : slice_get others m.place ≡ Some n.is =
      ap (slice_get others) place ∙ moved_there setup b w old others n in
      let both : AreAlike m.was m.is n.is = alike m.place m.was m.is n.is m.before
      (moved_there setup a v old ones m) there in
      agreed_next (weather_of m.was m.is) (weather_of m.was n.is)
      (alike_agrees m.was m.is n.is both) setup log event e f
      (subst (λ (u : Weather). IsNext u setup log event e) m.weather p)
      (subst (λ (u : Weather). IsNext u setup log event f)
      (n.weather ∙ ap (λ (o : Outside). weather_of o n.is) was) q)

  still_by : (v w : Weather) (o r : Option Addr) (p : IsNext v setup log event e)
      (q : IsNext w setup log event f) → (Restarts (way_of setup log event.kind) → ⊥)
      → reached_in p.0.step ≡ o → reached_in q.0.step ≡ r → Moves setup o v old ones
      → Moves setup r w old others → e ≡ f
  still_by v w None None p q still here there m n =
      agreed_next calm calm calm_agrees setup log event e f
      (p.0, made_any v calm setup log event.at (way_of setup log event.kind) p.0 still here p.1, p.2)
      (q.0, made_any w calm setup log event.at (way_of setup log event.kind) q.0 still there q.1, q.2)
  still_by v w None (Some b) p q still here there m (inl n) =
      idle_one v w n.was n.is
      (λ u. (
        p.0,
        made_any v u setup log event.at (way_of setup log event.kind) p.0 still here p.1,
        p.2,
      )) q n.weather
      (alike_right n.was n.was n.is (alike n.place n.was n.was n.is n.before
      (ap (λ (os : List Outside). slice_get os n.place) m.left ∙ n.before)
      (moved_there setup b w old others n)))
  still_by v w None (Some b) p q still here there m (inr n) =
      let r = made_reaches w setup log b q.0 there event.at (way_of setup log event.kind) still q.1 in
      let no : ◌≡◌ {A = Option SiteServer} (Some r.1.0) None = sym r.1.1 ∙ n.none in
      absurd cc
  still_by v w (Some a) (Some b) p q still here there (inl m) (inl n) =
      let one = made_reaches v setup log a p.0 here event.at (way_of setup log event.kind) still p.1 in
      let two = made_reaches w setup log b q.0 there event.at (way_of setup log event.kind) still q.1 in
      both_one v w a b (one_reporter setup log (way_of setup log event.kind) a b one.0 two.0) p q m n
  still_by v w (Some a) (Some b) p q still here there (inl m) (inr n) =
      let r = made_reaches w setup log b q.0 there event.at (way_of setup log event.kind) still q.1 in
      let no : ◌≡◌ {A = Option SiteServer} (Some r.1.0) None = sym r.1.1 ∙ n.none in
      absurd cc
  still_by v w (Some a) r p q still here there (inr m) n =
      let s = made_reaches v setup log a p.0 here event.at (way_of setup log event.kind) still p.1 in
      let no : ◌≡◌ {A = Option SiteServer} (Some s.1.0) None = sym s.1.1 ∙ m.none in
      absurd cc
  still_by v w (Some a) None p q still here there (inl m) n = sym
      (agreed_next (weather_of m.was m.is) (weather_of m.was m.is)
      (alike_agrees m.was m.is m.is (alike_left m.was m.is m.was (alike m.place m.was m.is m.was m.before
      (moved_there setup a v old ones m)
      (ap (λ (os : List Outside). slice_get os m.place) n.left ∙ m.before)))) setup log event f e (
        q.0,
        made_any w (weather_of m.was m.is) setup log event.at (way_of setup log event.kind) q.0 still there
            q.1,
        q.2,
      ) (subst (λ (u : Weather). IsNext u setup log event e) m.weather p))

  -- a restart of a server that is not of the farm
  nobody_one : (v w : Weather) (server : Addr) (key : List ℕ) (nonce : ℕ)
      → event.kind ≡ Restart server key nonce → server_at setup server ≡ None
      → IsNext v setup log event e → IsNext w setup log event f → e ≡ f
  nobody_one v w server key nonce kind none p q =
      let way : way_of setup log event.kind ≡ to_nothing = ap (way_of setup log) kind
      ∙ ap (λ (o : Option SiteServer). restart_way key nonce (option_map (λ s. server_of s log) o)) none in
      let one : p.0 ≡ word_effect Void =
      subst (λ (y : Way). IsMade v setup log event.at y p.0) way p.1 in
      let two : q.0 ≡ word_effect Void =
      subst (λ (y : Way). IsMade w setup log event.at y q.0) way q.1 in
      p.2 ∙ ap (entry_of event) (one ∙ sym two) ∙ sym q.2

  restart_by_one : (v w : Weather) (server : Addr) (key : List ℕ) (nonce : ℕ)
      → event.kind ≡ Restart server key nonce → IsNext v setup log event e → IsNext w setup log event f
      → Moves setup (Some server) v old ones → Moves setup (Some server) w old others → e ≡ f
  restart_by_one v w server key nonce kind p q (inl m) (inl n) = both_one v w server server refl p q m n
  restart_by_one v w server key nonce kind p q (inr m) n = nobody_one v w server key nonce kind m.none p q
  restart_by_one v w server key nonce kind p q (inl m) (inr n) =
      nobody_one v w server key nonce kind n.none p q

  still_one : (v w : Weather) → ((a : Addr) → restart_by a event.kind ≡ None)
      → (p : IsNext v setup log event e) (q : IsNext w setup log event f)
      → Moves setup (reached event.kind p.0.step) v old ones
      → Moves setup (reached event.kind q.0.step) w old others → e ≡ f
  still_one v w still p q m n = still_by v w (reached_in p.0.step) (reached_in q.0.step) p q
      (still_way setup log event.kind still) refl refl
      (subst (λ (o : Option Addr). Moves setup o v old ones) (reached_still event.kind p.0.step still) m)
      (subst (λ (o : Option Addr). Moves setup o w old others) (reached_still event.kind q.0.step still) n)

  kind_one : (v w : Weather) (k : EventKind) → event.kind ≡ k → (p : IsNext v setup log event e)
      (q : IsNext w setup log event f) → Moves setup (reached event.kind p.0.step) v old ones
      → Moves setup (reached event.kind q.0.step) w old others → e ≡ f
  kind_one v w (Request target peer bytes) kind p q m n =
      still_one v w (λ a. ap (restart_by a) kind) p q m n
  kind_one v w (Deliver c) kind p q m n = still_one v w (λ a. ap (restart_by a) kind) p q m n
  kind_one v w (Fail c) kind p q m n = still_one v w (λ a. ap (restart_by a) kind) p q m n
  kind_one v w (Return d) kind p q m n = still_one v w (λ a. ap (restart_by a) kind) p q m n
  kind_one v w (Answer c bytes) kind p q m n = still_one v w (λ a. ap (restart_by a) kind) p q m n
  kind_one v w (Beat server) kind p q m n = still_one v w (λ a. ap (restart_by a) kind) p q m n
  kind_one v w (Restart server key nonce) kind p q m n = restart_by_one v w server key nonce kind p q
      (subst (λ (k : EventKind). Moves setup (reached k p.0.step) v old ones) kind m)
      (subst (λ (k : EventKind). Moves setup (reached k q.0.step) w old others) kind n)

  pub moved_one : (v w : Weather) → IsNext v setup log event e → IsNext w setup log event f
      → IsMoved setup e v old ones → IsMoved setup f w old others → e ≡ f
  moved_one v w p q m n = kind_one v w event.kind refl p q
      (subst (λ (d : Entry). IsMoved setup d v old ones) p.2 m)
      (subst (λ (d : Entry). IsMoved setup d w old others) q.2 n)

-- two steps of a farm by one event make the same entry
pub steps_one : (setup : Setup) (log : List Entry) (old : List Outside) (hands : List Hand) (event : Event)
    (one other : Farmed)
    → HasApart setup → StepsTo (record { setup = setup; entries = log; outside = old; hands = hands }) event one
    → StepsTo (record { setup = setup; entries = log; outside = old; hands = hands }) event other
    → AllAlike old one.outside other.outside → one.entries ≡ other.entries
steps_one setup log old hands event one other apart (v, e, p, m, first) (w, f, q, n, second) alike =
    let same : e ≡ f = moved_one setup log apart event e f old one.outside other.outside alike v w p q m n in
    ap (λ (d : Farmed). d.entries) first ∙ ap (λ (d : Entry). log ++ d ∷ []) same
    ∙ sym (ap (λ (d : Farmed). d.entries) second)
