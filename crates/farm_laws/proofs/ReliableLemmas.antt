-- Which requests get the reply that their row names, and what a restart keeps.
use Rattle.std.proofs.Common.{◌≡◌, ◌⊎◌, inl, inr, ℕ, suc, ◌+◌, ◌<◌, not, Bool, true, false, cond, List, []}
use Rattle.std.proofs.Common.{length, map, take, drop, Option, Some, None, Result, Ok, refl, ap, ◌∙◌, sym}
use Rattle.std.proofs.Common.{subst}
use Rattle.std.proofs.Common.{arith}
use Rattle.std.specs.Prelude.{slice_get}
use Rattle.std.specs.Option.{option_map}
use Rattle.std.proofs.lemmas.Bool.{eq-eqb}
use Rattle.std.proofs.lemmas.Option.{same_Some}
use Rattle.dist_types.specs.Addr.{same_addr}
use Rattle.dist_types.specs.declared.addr.Addr.{Addr}
use Rattle.dist_types.specs.declared.ids.JobId.{JobId}
use Rattle.dist_wire.specs.declared.run.RunJobHttpRequest.{RunJobHttpRequest}
use Rattle.core_rules.specs.Rule.{rule}
use Rattle.core_rules.specs.Ticket.{Ticket}
use Rattle.core_rules.specs.declared.call.Call.TheVariants as call
use Rattle.core_rules.specs.declared.entry.CoreEntry.{CoreEntry}
use Rattle.core_rules.proofs.AddressLemmas.{same_self}
use Rattle.http_routes.specs.declared.route.Asked.{Asked}
use Rattle.http_routes.specs.declared.route.SchedRouted.TheVariants as asked
use Rattle.http_routes.specs.declared.server_route.ServerAsked.{ServerAsked}
use Rattle.http_routes.specs.declared.server_route.ServerRouted.TheVariants as server_asked
use Rattle.build_server.specs.Books.{held_for}
use Rattle.build_server.specs.Builds.{ran_of, built_of, run_answer}
use Rattle.build_server.specs.declared.run.Outcome.{Outcome}
use Rattle.build_server.specs.declared.run.Outcome.TheVariants as outcome
use Rattle.farm_script.specs.declared.event.Event.{Event}
use Rattle.farm_script.specs.declared.event.EventKind.{EventKind}
use Rattle.farm_script.specs.declared.event.EventKind.TheVariants.{Request, Deliver, Fail, Return, Answer}
use Rattle.farm_script.specs.declared.event.EventKind.TheVariants.{Beat, Restart}
use Rattle.farm_entries.specs.declared.site.Site.{Site as Setup}
use Rattle.farm_entries.specs.declared.site.SiteServer.{SiteServer as SetupServer}
use Rattle.farm_entries.specs.declared.entry.Effect.{Effect}
use Rattle.farm_entries.specs.declared.entry.Entry.{Entry}
use Rattle.farm_entries.specs.declared.entry.OutCall.{OutCall}
use Rattle.farm_entries.specs.declared.entry.Step.{Step}
use Rattle.farm_entries.specs.declared.entry.StepKind.TheVariants as step
use Rattle.farm_entries.specs.declared.pending.Ask.TheVariants.{Assign, Report}
use Rattle.farm_entries.specs.declared.pending.Pending.{Pending}
use Rattle.farm_entries.specs.declared.pending.Told.{Told}
use Rattle.farm_entries.specs.declared.pending.Told.TheVariants as told
use Rattle.farm_entries.specs.Begun.{IsBegunBy, IsFirstCall, IsMadeBy, IsCallOf, outcome_of, completion_at}
use Rattle.farm_entries.specs.Begun.{completion_of}
use Rattle.farm_entries.specs.Builds.{SettlesCall}
use Rattle.farm_entries.specs.Calls.{call_at, delivery_at, settles_by, is_void, waiting_at}
use Rattle.farm_entries.specs.Effects.{effect_of, entry_of}
use Rattle.farm_entries.specs.Next.{GoesOn, IsSettled, IsMade, IsNext, EachNext, IsRun}
use Rattle.farm_entries.specs.Reliable.{IsReserved, AsksAt, IsGranted, EndsBy, AllocationsEnd, SubmissionsEnd}
use Rattle.farm_entries.specs.Reliable.{IsRunBy, reopened, RestartsKeep, IsReliable}
use Rattle.farm_entries.specs.Weather.{Weather, Works, opened_effect, IsRestarted}
use Rattle.toolchain_cache.specs.Archives.{Archives}
use Rattle.dist_types.specs.declared.outgoing.CallFault.{CallFault}
use Rattle.dist_types.specs.declared.results.UpdateJobStateResult.{UpdateJobStateResult}
use Rattle.farm_laws.proofs.FreeLemmas.{each_free}
use Rattle.farm_entries.specs.Seen.{core_log, core_of}
use Rattle.farm_entries.specs.Served.{AsksServer, IsReport, report_of, told_of}
use Rattle.farm_entries.specs.Servers.{ServerNow, restart_by, restarted, stepped, server_after}
use Rattle.farm_entries.specs.Servers.{server_of, server_now}
use Rattle.farm_entries.specs.Settled.{assignment_end, ReadyEnds, StartedEnds, complete_end, ended_response}
use Rattle.farm_entries.specs.Settled.{running, Reports, Lives, ReportsIn}
use Rattle.farm_entries.specs.Ways.{Way, server_way, delivery_way, caller_of, is_inside, restart_way, way_of}
use Rattle.farm_entries.specs.Ways.{brought_by, brought_of, brought_at, bytes_of, to_nothing, to_scheduler}
use Rattle.farm_entries.specs.Ways.{to_nobody, to_server, to_call, to_restart}
use Rattle.farm_laws.proofs.BuildLemmas.{found_now, call_later, no_return, no_outside, no_beat, no_restart}
use Rattle.farm_laws.proofs.OneLemmas.{one_asked, one_server_asked, one_outcome, one_update}
use Rattle.farm_laws.proofs.RepliedLemmas.{size_at, replied_once}
use Rattle.farm_entries.proofs.StepLemmas.{server-push}
use Rattle.farm_entries.proofs.StepLemmas.{reopened_is}
use Rattle.farm_laws.proofs.SettleLemmas.{take_take, get_front, get_take, next_at, way_back, void, settlement}
use Rattle.farm_laws.proofs.TakenLemmas.{take_some}

-- ---- what an entry brings that comes to a server

server_brings : (bytes bs : List ℕ) (o : Option ServerNow) (s : ServerNow)
    → server_way bs o ≡ to_server s bytes → bs ≡ bytes
server_brings bytes bs None s e = absurd cc
server_brings bytes bs (Some t) s e = by_test t.running e
  where
    by_test : (b : Bool) → cond b (to_server t bs) to_nobody ≡ to_server s bytes → bs ≡ bytes
    by_test true h = cc
    by_test false h = absurd cc

way_brings : (b : Bool) (peer : Addr) (bytes bs : List ℕ) (o : Option ServerNow) (s : ServerNow)
    → cond b (to_scheduler peer bs) (server_way bs o) ≡ to_server s bytes → bs ≡ bytes
way_brings true peer bytes bs o s e = absurd cc
way_brings false peer bytes bs o s e = server_brings bytes bs o s e

brought_is : (setup : Setup) (entries : List Entry) (n d : ℕ) (k : EventKind) (s : ServerNow) (bytes : List ℕ)
    → n < d → way_of setup (take n entries) k ≡ to_server s bytes → brought_by (take d entries) k ≡ bytes
brought_is setup entries n d (Request target peer bs) s bytes lt e =
    way_brings (same_addr target setup.scheduler.addr) peer bytes bs
    (server_now setup (take n entries) target) s e
brought_is setup entries n d (Deliver c) s bytes lt e = by_call (call_at (take n entries) c) refl e
  where
    by_call : (o : Option OutCall) → call_at (take n entries) c ≡ o → delivery_way setup (take n entries)
        (caller_of setup (take n entries) (slice_get (take n entries) c)) o ≡ to_server s bytes
        → bytes_of (call_at (take d entries) c) ≡ bytes
    by_call None is h = absurd cc
    by_call (Some oc) is h =
        ap bytes_of (call_later entries c n d oc lt is)
        ∙ way_brings (same_addr oc.target setup.scheduler.addr)
        (caller_of setup (take n entries) (slice_get (take n entries) c)) bytes oc.bytes
        (server_now setup (take n entries) oc.target) s h
brought_is setup entries n d (Fail c) s bytes lt e = absurd cc
brought_is setup entries n d (Return r) s bytes lt e =
    absurd (no_return (delivery_at (take n entries) r) s bytes e)
brought_is setup entries n d (Answer c bs) s bytes lt e =
    absurd (no_outside (is_inside setup (call_at (take n entries) c)) c bs s bytes e)
brought_is setup entries n d (Beat server) s bytes lt e =
    absurd (no_beat (server_now setup (take n entries) server) s bytes e)
brought_is setup entries n d (Restart server key nonce) s bytes lt e =
    absurd (no_restart key nonce (server_now setup (take n entries) server) s bytes e)

-- ---- what is kept of a server's call

begun_is : (setup : Setup) (core : List CoreEntry) (number : ℕ) (s : ServerNow) (bytes : List ℕ) (x : Effect)
    (a : ServerAsked) (t : Told) (p : Pending) → AsksServer s bytes a → told_of a.body a.what ≡ Some t
    → IsBegunBy setup core number (to_server s bytes) x p → p ≡ report_of number a.json s t
begun_is setup core number s bytes x a t p asks begins (b, asks_b, rep) =
    let own : IsReport s number a p = subst (λ (c : ServerAsked). IsReport s number c p)
    (one_server_asked s bytes b a asks_b asks) rep in
    own.is ∙ ap (λ (u : Told). report_of number a.json s u) (same_Some own.told t (sym own.begins ∙ begins))

outcome_same : (o : Outcome) → outcome_of (ran_of o) (built_of o) ≡ o
outcome_same outcome.None = refl
outcome_same (outcome.Unlisted tc) = refl
outcome_same (outcome.Folder tc) = refl
outcome_same (outcome.Built tc result) = refl
outcome_same (outcome.Refused tc) = refl

module _ (setup : Setup) (entries : List Entry) (n : ℕ) (server : Addr) (life : ℕ) (bytes : List ℕ)
    (a : ServerAsked) (q : AsksAt setup entries n server life bytes a) (t : Told)
    (begins : told_of a.body a.what ≡ Some t) where
  abbrev wanted : Pending
  wanted = record { root = n; json = a.json; ask = Report server life t }

  wanted_is : (p : Pending) → p ≡ report_of n a.json q.now t → p ≡ wanted
  wanted_is p e = e ∙ (λ i. record { root = n; json = a.json; ask = Report (q.at i) (q.lives i) t })

  asked_call : (k : ℕ) (p : Pending) → IsCallOf setup (take k entries) n p → p ≡ wanted
  asked_call k p of_call =
      let g = get_front entries n k of_call.entry of_call.there in
      let same : of_call.entry ≡ q.entry = same_Some of_call.entry q.entry (sym g.1 ∙ q.there) in
      let front : IsMadeBy setup (take n entries) (way_of setup (take n entries) of_call.entry.event.kind)
      (effect_of of_call.entry) p =
      subst (λ (l : List Entry). IsMadeBy setup l (way_of setup l of_call.entry.event.kind)
      (effect_of of_call.entry) p) (take_take entries n k (omega (arith, g.0))) of_call.made in
      let own : IsMadeBy setup (take n entries) (way_of setup (take n entries) q.entry.event.kind)
      (effect_of q.entry) p =
      subst (λ (e : Entry). IsMadeBy setup (take n entries) (way_of setup (take n entries) e.event.kind)
      (effect_of e) p) same front in
      let begun : IsBegunBy setup (core_log (take n entries)) (length (take n entries))
      (to_server q.now bytes) (effect_of q.entry) p =
      subst (λ (w : Way). IsMadeBy setup (take n entries) w (effect_of q.entry) p) q.comes own in
      let numbered : IsBegunBy setup (core_log (take n entries)) n (to_server q.now bytes)
      (effect_of q.entry) p =
      subst (λ (m : ℕ). IsBegunBy setup (core_log (take n entries)) m (to_server q.now bytes)
      (effect_of q.entry) p) (size_at entries n q.entry q.there) begun in
      wanted_is p (begun_is setup (core_log (take n entries)) n q.now bytes
      (effect_of q.entry) a t p q.asks begins numbered)

  asked_first : (k : ℕ) (p : Pending) → IsFirstCall setup (take k entries) n p → p ≡ wanted
  asked_first k p first =
      let g = get_front entries n k first.entry first.there in
      let same : first.entry ≡ q.entry = same_Some first.entry q.entry (sym g.1 ∙ q.there) in
      let front : IsBegunBy setup (core_log (take n entries)) n
      (way_of setup (take n entries) first.entry.event.kind) (effect_of first.entry) p =
      subst (λ (l : List Entry). IsBegunBy setup (core_log l) n (way_of setup l first.entry.event.kind)
      (effect_of first.entry) p) (take_take entries n k (omega (arith, g.0))) first.begun in
      let own : IsBegunBy setup (core_log (take n entries)) n
      (way_of setup (take n entries) q.entry.event.kind) (effect_of q.entry) p =
      subst (λ (e : Entry). IsBegunBy setup (core_log (take n entries)) n
      (way_of setup (take n entries) e.event.kind) (effect_of e) p) same front in
      let begun : IsBegunBy setup (core_log (take n entries)) n (to_server q.now bytes)
      (effect_of q.entry) p =
      subst (λ (w : Way). IsBegunBy setup (core_log (take n entries)) n w (effect_of q.entry) p) q.comes own
      in
      wanted_is p (begun_is setup (core_log (take n entries)) n q.now bytes
      (effect_of q.entry) a t p q.asks begins begun)

  asked_brought : (k : ℕ) → n < k → brought_at (take k entries) n ≡ bytes
  asked_brought k lt = ap (brought_of (take k entries)) (get_take entries n k lt ∙ q.there)
      ∙ brought_is setup entries n k q.entry.event.kind q.now bytes lt q.comes

-- ---- a restart

restarts_so : (now : ServerNow) (server : Addr) (key : List ℕ) (nonce : ℕ) (found : Option Archives)
    → now.setup.addr ≡ server
    → stepped (opened_effect now found).step (restarted (restart_by now.setup.addr (Restart server key nonce))
    now) ≡ reopened now key nonce found
restarts_so now server key nonce found own =
    let here : restart_by now.setup.addr (Restart server key nonce) ≡ Some (key, nonce) =
    ap (λ (b : Bool). cond b (Some (key, nonce)) None) (ap (same_addr server) own ∙ same_self server) in
    ap (λ (o : Option (List ℕ × ℕ)). stepped (opened_effect now found).step (restarted o now)) here
    ∙ reopened_is now key nonce found

-- ---- the runs

module _ (w : Weather) (setup : Setup) (events : List Event) (entries : List Entry)
    (each : EachNext w setup [] events entries) where
  next : (n : ℕ) (e : Entry) → slice_get entries n ≡ Some e → IsNext w setup (take n entries) e.event e
  next n e there = next_at w setup [] events entries n e each there

  -- what an entry that settles a call makes of it
  pub record Continued (n k : ℕ) (e : Entry) (reply : Option (List ℕ)) : Type 0 where
    pub before : n < k
    pub way : way_of setup (take k entries) e.event.kind ≡ to_call n reply
    pub x : Effect
    pub is : e ≡ entry_of e.event x
    pub pending : Pending
    pub of_call : IsCallOf setup (take k entries) n pending
    pub goes : GoesOn w setup (take k entries) e.event.at pending.root pending.json reply pending.ask x

  continued : (n k : ℕ) (s : SettlesCall entries n k) (reply : Option (List ℕ))
      → settles_by (take k entries) s.entry.event.kind ≡ Some (n, reply) → Continued n k s.entry reply
  continued n k s reply names =
      let t = settlement n (take k entries) (drop (suc k) entries) s.entry s.settles in
      let (x, made, is) = next k s.entry s.there in
      by_way x is made t.silent (way_back setup (take k entries) s.entry.event.kind n reply names)
    where
      by_wait : (x : Effect) → s.entry ≡ entry_of s.entry.event x → is_void s.entry.word ≡ false
          → way_of setup (take k entries) s.entry.event.kind ≡ to_call n reply
          → (o : Option Entry) → IsSettled w setup (take k entries) s.entry.event.at n reply o x
          → Continued n k s.entry reply
      by_wait x is silent way None h = absurd (void s.entry.event x s.entry is h silent)
      by_wait x is silent way (Some waits) h =
          record {
            before = (get_front entries n k h.1.entry h.1.there).0;
            way = way;
            x = x;
            is = is;
            pending = h.0;
            of_call = h.1;
            goes = h.2;
          }

      by_way : (x : Effect) → s.entry ≡ entry_of s.entry.event x
          → IsMade w setup (take k entries) s.entry.event.at
          (way_of setup (take k entries) s.entry.event.kind)
          x → is_void s.entry.word ≡ false
          → (way_of setup (take k entries) s.entry.event.kind ≡ to_call n reply)
          ⊎ (way_of setup (take k entries) s.entry.event.kind ≡ to_nothing) → Continued n k s.entry reply
      by_way x is made silent (inl same) =
          by_wait x is silent same (waiting_at (take k entries) n)
          (subst (λ (way : Way). IsMade w setup (take k entries) s.entry.event.at way x) same made)
      by_way x is made silent (inr same) =
          absurd (void s.entry.event x s.entry is
          (subst (λ (way : Way). IsMade w setup (take k entries) s.entry.event.at way x) same made) silent)

  -- ---- an allocation

  reserved_call : (n k : ℕ) (json : Bool) (t : Ticket) (q : IsReserved setup entries n json t) (p : Pending)
      → IsCallOf setup (take k entries) n p → p ≡ record { root = n; json = json; ask = Assign t }
  reserved_call n k json t q p of_call =
      let g = get_front entries n k of_call.entry of_call.there in
      let same : of_call.entry ≡ q.entry = same_Some of_call.entry q.entry (sym g.1 ∙ q.there) in
      let front : IsMadeBy setup (take n entries) (way_of setup (take n entries) of_call.entry.event.kind)
      (effect_of of_call.entry) p =
      subst (λ (l : List Entry). IsMadeBy setup l (way_of setup l of_call.entry.event.kind)
      (effect_of of_call.entry) p) (take_take entries n k (omega (arith, g.0))) of_call.made in
      let own : IsMadeBy setup (take n entries) (way_of setup (take n entries) q.entry.event.kind)
      (effect_of q.entry) p =
      subst (λ (e : Entry). IsMadeBy setup (take n entries) (way_of setup (take n entries) e.event.kind)
      (effect_of e) p) same front in
      let begun : IsBegunBy setup (core_log (take n entries)) (length (take n entries))
      (to_scheduler q.peer q.bytes) (effect_of q.entry) p =
      subst (λ (w : Way). IsMadeBy setup (take n entries) w (effect_of q.entry) p) q.comes own in
      let wish : Asked = record { what = asked.Alloc q.tc; json = json } in
      let form : begun.0.json ≡ json = ap (λ (c : Asked). c.json)
      (one_asked setup q.peer q.bytes begun.0 wish begun.1 q.asks) in
      let one : begun.2.ticket ≡ t = same_Some begun.2.ticket t (sym begun.2.reserved ∙ q.reserves) in
      begun.2.is ∙ (λ i. record {
        root = size_at entries n q.entry q.there i;
        json = form i;
        ask = Assign (one i);
      })

  pub allocations_end : AllocationsEnd setup entries
  allocations_end = λ n k json t bytes a q back is_assigned.
      let e : Entry = back.settles.entry in
      let c = continued n k back.settles (Some bytes) back.names in
      let goes : GoesOn w setup (take k entries) e.event.at n json (Some bytes) (Assign t) c.x =
      subst (λ (p : Pending). GoesOn w setup (take k entries) e.event.at p.root p.json (Some bytes) p.ask c.x)
      (reserved_call n k json t q c.pending c.of_call) c.goes in
      let same : c.x ≡ assignment_end (core_of setup (take k entries)) n json e.event.at t (Ok a) =
      goes.2 ∙ ap (assignment_end (core_of setup (take k entries)) n json e.event.at t)
      (one_outcome (Some bytes) goes.0 (Ok a) goes.1 is_assigned) in
      record {
        entry = e;
        there = back.settles.there;
        made = rule (core_of setup (take k entries)) (call.Commit e.event.at t.number t.job a.state);
        commits = refl;
        core = ap (λ (y : Entry). y.core) c.is ∙ ap (λ (z : Effect). z.core) same;
        replies = ap (λ (y : Entry). y.reply) c.is ∙ ap (λ (z : Effect). z.reply) same;
      }

  -- ---- reports that are granted

  module _ (n k : ℕ) (server : Addr) (life : ℕ) (now : ServerNow)
      (g : IsGranted setup entries n k server life now) where
    back : Continued n k g.back.settles.entry (Some g.bytes)
    back = continued n k g.back.settles (Some g.bytes) g.back.names

    reported : (root : ℕ) (json : Bool) (t : Told) (c : Continued n k g.back.settles.entry (Some g.bytes))
        → c.pending ≡ record { root = root; json = json; ask = Report server life t }
        → Reports w setup now (brought_at (take k entries) root) root json (Some g.bytes) t c.x
    reported root json t c same =
        let bs = brought_at (take k entries) root in
        let goes : ReportsIn w setup life bs root json (Some g.bytes) t
        (server_now setup (take k entries) server) c.x =
        subst (λ (p : Pending). GoesOn w setup (take k entries) g.back.settles.entry.event.at p.root p.json
        (Some g.bytes) p.ask c.x) same c.goes in
        let here : ReportsIn w setup life bs root json (Some g.bytes) t (Some now) c.x =
        subst (λ (o : Option ServerNow). ReportsIn w setup life bs root json (Some g.bytes) t o c.x) g.at
        goes in
        subst (λ (b : Bool). Lives w setup life now bs root json (Some g.bytes) t b c.x)
        (ap not (eq-eqb now.life life g.lives)) here

    granted_addr : now.setup.addr ≡ server
    granted_addr = (found_now setup (take k entries) server now g.at).own

  submissions_end : SubmissionsEnd w setup entries
  submissions_end = λ n k server life job json body bytes now q g.
      let a : ServerAsked = record { what = server_asked.Submit job; json = json; body = body } in
      let c = back n k server life now g in
      let r = reported n k server life now g n json (told.Ready job body) c
      (asked_call setup entries n server life bytes a q (told.Ready job body) refl k c.pending c.of_call)
      in
      let brought : drop body (brought_at (take k entries) n) ≡ drop body bytes =
      ap (drop body) (asked_brought setup entries n server life bytes a q (told.Ready job body) refl k
      c.before) in
      let ends : ReadyEnds w now n json job (drop body bytes) (Ok g.answer) c.x =
      subst (λ (bs : List ℕ). ReadyEnds w now n json job bs (Ok g.answer) c.x) brought
      (subst (λ (u : Result UpdateJobStateResult CallFault).
      ReadyEnds w now n json job (drop body (brought_at (take k entries) n)) u c.x)
      (one_update (Some g.bytes) r.0 (Ok g.answer) r.1 g.granted) r.2) in (
        ends.0,
        ends.1,
        record {
          entry = g.back.settles.entry;
          there = g.back.settles.there;
          steps = ap (λ (y : Entry). y.step) c.is ∙ ap (λ (z : Effect). z.step) ends.2
              ∙ ap (λ (addr : Addr). Some (record { server = addr; kind = step.Submitted job ends.0 }))
              (granted_addr n k server life now g);
          replies = ap (λ (y : Entry). y.reply) c.is ∙ ap (λ (z : Effect). z.reply) ends.2;
        },
      )

  -- ---- a run

  module _ (n j : ℕ) (server : Addr) (life : ℕ) (job : JobId) (run : RunJobHttpRequest) (at : ℕ) (json : Bool)
      (body : ℕ) (bytes : List ℕ) (now : ServerNow)
      (q : AsksAt setup entries n server life bytes
      (record { what = server_asked.Run job run at; json = json; body = body }))
      (g : IsGranted setup entries n j server life now) where
    abbrev pub wish : ServerAsked
    wish = record { what = server_asked.Run job run at; json = json; body = body }

    abbrev start : Told
    start = told.Started job run (body + at)

    pub first : Continued n j g.back.settles.entry (Some g.bytes)
    first = back n j server life now g

    pub runs_so : (c : Continued n j g.back.settles.entry (Some g.bytes))
        → StartedEnds w setup now n job run (drop (body + at) bytes) (Ok g.answer) c.x
    runs_so c =
        let r = reported n j server life now g n json start c
        (asked_call setup entries n server life bytes wish q start refl j c.pending c.of_call) in
        subst (λ (bs : List ℕ). StartedEnds w setup now n job run bs (Ok g.answer) c.x)
        (ap (drop (body + at)) (asked_brought setup entries n server life bytes wish q start refl j c.before))
        (subst (λ (u : Result UpdateJobStateResult CallFault).
        StartedEnds w setup now n job run (drop (body + at) (brought_at (take j entries) n)) u c.x)
        (one_update (Some g.bytes) r.0 (Ok g.answer) r.1 g.granted) r.2)

    abbrev pub went : Outcome
    went = (runs_so first).0

    pub works : Works w now (held_for job now.held) run (drop (body + at) bytes) went
    works = (runs_so first).1

    run_is : first.x ≡ running setup server job went
    run_is = (runs_so first).2 ∙ ap (λ (addr : Addr). running setup addr job went)
        (granted_addr n j server life now g)

    ran_step : g.back.settles.entry.step ≡ Some
        (record { server = server; kind = step.Ran job (ran_of went) (built_of went) })
    ran_step = ap (λ (y : Entry). y.step) first.is ∙ ap (λ (z : Effect). z.step) run_is

    pub run_by : IsRunBy setup entries j server job went
    run_by = record {
      entry = g.back.settles.entry;
      there = g.back.settles.there;
      steps = ran_step;
      tells = ap (λ (y : Entry). y.call) first.is ∙ ap (λ (z : Effect). z.call) run_is;
    }

    -- what is kept of the report of the run's end
    last_call : (k : ℕ) (p : Pending) → IsCallOf setup (take k entries) j p
        → p ≡ record { root = n; json = json; ask = Report server life (told.Complete job went) }
    last_call k p of_call =
        let e : Entry = g.back.settles.entry in
        let f = get_front entries j k of_call.entry of_call.there in
        let same : of_call.entry ≡ e = same_Some of_call.entry e (sym f.1 ∙ g.back.settles.there) in
        let front : IsMadeBy setup (take j entries) (way_of setup (take j entries) of_call.entry.event.kind)
        (effect_of of_call.entry) p =
        subst (λ (l : List Entry). IsMadeBy setup l (way_of setup l of_call.entry.event.kind)
        (effect_of of_call.entry) p) (take_take entries j k (omega (arith, f.0))) of_call.made in
        let own : IsMadeBy setup (take j entries) (way_of setup (take j entries) e.event.kind)
        (effect_of e) p =
        subst (λ (d : Entry). IsMadeBy setup (take j entries) (way_of setup (take j entries) d.event.kind)
        (effect_of d) p) same front in
        let made : IsMadeBy setup (take j entries) (to_call n (Some g.bytes)) (effect_of e) p =
        subst (λ (w : Way). IsMadeBy setup (take j entries) w (effect_of e) p) first.way own in
        let began = asked_first setup entries n server life bytes wish q start refl j made.first made.call in
        let told_so : completion_at n json server life e.step ≡ Some p =
        sym (ap (λ (d : Pending). completion_of d d.ask e.step) began) ∙ made.is in
        sym (same_Some _ p (sym (ap (completion_at n json server life) ran_step) ∙ told_so))
        ∙ ap (λ (o : Outcome). record {
          root = n;
          json = json;
          ask = Report server life
              (told.Complete job o);
        }) (outcome_same went)

    run_ends : (k : ℕ) (later : ServerNow) → IsGranted setup entries j k server life later
        → EndsBy entries n k (record { server = server; kind = step.Finished job })
        (ended_response json (run_answer went))
    run_ends k later h =
        let c = back j k server life later h in
        let r = reported j k server life later h n json (told.Complete job went) c
        (last_call k c.pending c.of_call) in
        let same : c.x ≡ complete_end server n json job went (Ok h.answer) =
        r.2 ∙ ap (complete_end later.setup.addr n json job went)
        (one_update (Some h.bytes) r.0 (Ok h.answer) r.1 h.granted)
        ∙ ap (λ (addr : Addr). complete_end addr n json job went (Ok h.answer))
        (granted_addr j k server life later h) in
        record {
          entry = h.back.settles.entry;
          there = h.back.settles.there;
          steps = ap (λ (y : Entry). y.step) c.is ∙ ap (λ (z : Effect). z.step) same;
          replies = ap (λ (y : Entry). y.reply) c.is ∙ ap (λ (z : Effect). z.reply) same;
        }

  restarts_keep : RestartsKeep w setup entries
  restarts_keep = λ k e server key nonce now there is at.
      let (x, made, same) = next k e there in
      let way : way_of setup (take k entries) e.event.kind ≡ to_restart now key nonce =
      ap (way_of setup (take k entries)) is ∙ ap (restart_way key nonce) at in
      let does : IsRestarted w now x =
      subst (λ (v : Way). IsMade w setup (take k entries) e.event.at v x) way made in
      let found : Option Archives = does.0 in
      let steps : e.step ≡ (opened_effect now found).step =
      ap (λ (y : Entry). y.step) same ∙ ap (λ (z : Effect). z.step) does.2 in
      let f = found_now setup (take k entries) server now at in
      let after : server_of f.server (take (suc k) entries) ≡ reopened now key nonce found =
      ap (server_of f.server) (take_some entries k e there) ∙ server-push f.server (take k entries) e
      ∙ ap (λ (s : ServerNow). server_after s e) f.is
      ∙ ap (λ (o : Option Step). stepped o (restarted (restart_by now.setup.addr e.event.kind) now)) steps
      ∙ ap (λ (kd : EventKind). stepped (opened_effect now found).step
      (restarted (restart_by now.setup.addr kd) now)) is
      ∙ restarts_so now server key nonce found f.own in (
        found,
        does.1,
        steps,
        ap (option_map (λ (s : SetupServer). server_of s (take (suc k) entries))) f.found
            ∙ ap (λ (s : ServerNow). Some s) after,
      )

  pub is_reliable : IsReliable w setup entries
  is_reliable = record {
    replied = replied_once setup events entries (each_free w setup [] events entries each);
    allocations = allocations_end;
    submissions = submissions_end;
    runs = λ n j server life job run at json body bytes now q g. (
      went n j server life job run at json body bytes now q g,
      works n j server life job run at json body bytes now q g,
      run_by n j server life job run at json body bytes now q g,
      run_ends n j server life job run at json body bytes now q g,
    );
    restarts = restarts_keep;
  }

pub run_reliable : (w : Weather) (setup : Setup) (entries : List Entry) → IsRun w setup entries
    → IsReliable w setup entries
run_reliable w setup entries run = is_reliable w setup (map (λ (e : Entry). e.event) entries) entries run
