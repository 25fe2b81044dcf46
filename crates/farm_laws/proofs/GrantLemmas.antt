-- The return of a delivery that got a 200 grants what was asked: an assignment, or a server's report.
use Rattle.std.proofs.Common.{◌≡◌, inl, inr, ℕ, ◌<◌, ◌≤◌, ◌^◌, Bool, false, cond, List, [], length, take}
use Rattle.std.proofs.Common.{Option, Some, None, Ok, refl, ap, ◌∙◌, sym, subst, arith}
use Rattle.std.specs.Prelude.{slice_get}
use Rattle.std.proofs.lemmas.Bool.{cases_lt}
use Rattle.std.proofs.lemmas.Option.{same_Some}
use Rattle.dist_types.specs.Addr.{◌>>=◌, IsAddr}
use Rattle.dist_types.specs.declared.addr.Addr.{Addr}
use Rattle.dist_types.specs.declared.ids.JobId.{JobId}
use Rattle.dist_types.specs.declared.results.JobState.{JobState}
use Rattle.dist_types.specs.declared.results.JobState.TheVariants.{Ready, Started, Complete}
use Rattle.dist_types.specs.declared.results.UpdateJobStateResult.TheVariants.{Success}
use Rattle.dist_token.specs.Verdict.{job_verdict}
use Rattle.dist_wire.specs.Reading.{update_at}
use Rattle.dist_wire.specs.declared.run.RunJobHttpRequest.{RunJobHttpRequest}
use Rattle.core_rules.specs.Advance.{advance}
use Rattle.core_rules.specs.Rows.{open_rows}
use Rattle.core_rules.proofs.AddressLemmas.{same_self}
use Rattle.http_head.specs.Head.{IsReply}
use Rattle.http_head.specs.declared.reply.Reply.{Reply as HttpReply}
use Rattle.http_routes.specs.CallReply.{IsAnswer}
use Rattle.http_routes.specs.Replies.{update_reply}
use Rattle.http_routes.specs.Reply.{reply_text}
use Rattle.http_routes.specs.declared.route.Asked.{Asked}
use Rattle.http_routes.specs.declared.route.SchedRouted.TheVariants as asked
use Rattle.http_routes.specs.declared.server_route.ServerAsked.{ServerAsked}
use Rattle.http_routes.specs.declared.server_route.ServerRouted.TheVariants as server_asked
use Rattle.http_routes.proofs.CallLemmas.{begins_assigned}
use Rattle.http_routes.proofs.ServerLemmas.{submissions_asked}
use Rattle.farm_script.specs.declared.event.Event.{Event}
use Rattle.farm_script.specs.declared.event.EventKind.{EventKind}
use Rattle.farm_script.specs.declared.event.EventKind.TheVariants.{Request, Deliver, Fail, Return, Answer}
use Rattle.farm_script.specs.declared.event.EventKind.TheVariants.{Beat, Restart}
use Rattle.farm_entries.specs.declared.site.Site.{Site as Setup}
use Rattle.farm_entries.specs.declared.entry.Effect.{Effect}
use Rattle.farm_entries.specs.declared.entry.Entry.{Entry}
use Rattle.farm_entries.specs.declared.entry.EntryWord.TheVariants.{Void}
use Rattle.farm_entries.specs.declared.entry.OutCall.{OutCall}
use Rattle.farm_entries.specs.declared.entry.Reply.{Reply}
use Rattle.farm_entries.specs.declared.entry.Step.{Step}
use Rattle.farm_entries.specs.Answers.{answer_to}
use Rattle.farm_entries.specs.Builds.{HasWords}
use Rattle.farm_entries.specs.Calls.{call_at, settles_by}
use Rattle.farm_entries.specs.Effects.{word_effect, entry_of}
use Rattle.farm_entries.specs.Next.{IsMade, IsNext, EachNext}
use Rattle.farm_entries.specs.Reliable.{AsksAt, IsReturned, IsGranted, ReturnsGrant}
use Rattle.farm_entries.specs.Seen.{core_of}
use Rattle.farm_entries.specs.Served.{served, state_call}
use Rattle.farm_entries.specs.Servers.{ServerNow, server_now}
use Rattle.farm_entries.specs.Ways.{Way, server_way, stepper, caller_by, caller_of, delivery_way, way_of}
use Rattle.farm_entries.specs.Ways.{to_nothing, to_scheduler}
use Rattle.farm_entries.specs.Weather.{Weather}
use Rattle.farm_laws.proofs.AllocLemmas.{returned, brings}
use Rattle.farm_laws.proofs.BuildLemmas.{get_past, found_now, found_addr, caller_is, delivered}
use Rattle.farm_laws.proofs.BuildLemmas.{run_asked}
use Rattle.farm_laws.proofs.OneLemmas.{one_asked, one_server_asked}
use Rattle.farm_laws.proofs.ReliableLemmas.{allocations_end, run_by}
use Rattle.farm_laws.proofs.ReportLemmas.{state_asked, ok_answers}
use Rattle.farm_laws.proofs.SettleLemmas.{get_front, get_take, next_at}

-- who makes the call of an entry that settles one is the server whose step it tells
settling_caller : (setup : Setup) (log later : List Entry) (step : Option Step) (k : EventKind) (n : ℕ)
    (reply : Option (List ℕ)) → ◌≡◌ {A = Option (ℕ × Option (List ℕ))} (settles_by log k) (Some (n, reply))
    → caller_by setup later step k ≡ stepper step setup.scheduler.addr
settling_caller setup log later step (Request target peer bytes) n reply e = absurd cc
settling_caller setup log later step (Deliver c) n reply e = absurd cc
settling_caller setup log later step (Fail c) n reply e = refl
settling_caller setup log later step (Return d) n reply e = refl
settling_caller setup log later step (Answer c bytes) n reply e = refl
settling_caller setup log later step (Beat server) n reply e = absurd cc
settling_caller setup log later step (Restart server key nonce) n reply e = absurd cc

module _ (w : Weather) (setup : Setup) (words : HasWords setup) (events : List Event) (entries : List Entry)
    (each : EachNext w setup [] events entries) where
  next : (n : ℕ) (e : Entry) → slice_get entries n ≡ Some e → IsNext w setup (take n entries) e.event e
  next n e there = next_at w setup [] events entries n e each there

  -- a report that entry n makes as the server at the address
  module _ (n : ℕ) (c : Entry) (made_at : slice_get entries n ≡ Some c) (server : Addr) (job : JobId)
      (state : JobState) (tells : c.call ≡ Some (state_call setup server job state))
      (by : (d : ℕ) → n < d → caller_by setup (take d entries) c.step c.event.kind ≡ server)
      (is_addr : IsAddr server) (fits : job.0 < 2 ^ 64) where
    abbrev sent : OutCall
    sent = state_call setup server job state

    module _ (d : ℕ) (e : Entry) (there : slice_get entries d ≡ Some e) (delivers : e.event.kind ≡ Deliver n)
        (r : Reply) (replies : e.reply ≡ Some r) (x : Effect)
        (made : IsMade w setup (take d entries) e.event.at (way_of setup (take d entries) e.event.kind) x)
        (is : e ≡ entry_of e.event x) where
      nothing : d ≤ n → ⊥
      nothing past =
          let none : call_at (take d entries) n ≡ None = ap (λ (o : Option Entry). o >>= λ y. y.call)
          (get_past entries n d past) in
          let way : way_of setup (take d entries) e.event.kind ≡ to_nothing =
          ap (way_of setup (take d entries)) delivers
          ∙ ap (λ (o : Option OutCall). delivery_way setup (take d entries)
          (caller_of setup (take d entries) (slice_get (take d entries) n)) o) none in
          let void : x ≡ word_effect Void = subst (λ (v : Way). IsMade w setup (take d entries) e.event.at v
          x)
          way made in
          let no : None ≡ Some r = sym (ap (λ (z : Effect). z.reply) void)
          ∙ sym (ap (λ (y : Entry). y.reply) is) ∙ replies in
          cc

      arrives : n < d → way_of setup (take d entries) e.event.kind ≡ to_scheduler server sent.bytes
      arrives lt =
          let here : slice_get (take d entries) n ≡ Some c = get_take entries n d lt ∙ made_at in
          let caller : Addr = caller_by setup (take d entries) c.step c.event.kind in
          ap (way_of setup (take d entries)) delivers
          ∙ (λ i. delivery_way setup (take d entries) (caller_of setup (take d entries) (here i))
          ((ap (λ (o : Option Entry). o >>= λ y. y.call) here ∙ tells) i))
          ∙ ap (λ (b : Bool). cond b (to_scheduler caller sent.bytes)
          (server_way sent.bytes (server_now setup (take d entries) setup.scheduler.addr)))
          (same_self setup.scheduler.addr)
          ∙ ap (λ (a : Addr). to_scheduler a sent.bytes) (by d lt)

      answered : n < d → (seen : HttpReply) → IsReply r.bytes seen → seen.code ≡ 200
          → IsAnswer update_at r.bytes (Ok Success)
      answered lt seen is_reply ok =
          let s = core_of setup (take d entries) in
          let (a, shown, x_is) = subst (λ (v : Way). IsMade w setup (take d entries) e.event.at v x)
          (arrives lt) made in
          let wanted : Asked = record { what = asked.Update server job state; json = false } in
          let one : a ≡ wanted = one_asked setup server sent.bytes a wanted shown
          (state_asked setup server job state words is_addr fits) in
          let answer = advance (open_rows s.log) server job state in
          let same : x ≡ answer_to s (length (take d entries)) e.event.at false
          (asked.Update server job state) =
          x_is ∙ ap (λ (b : Asked). answer_to s (length (take d entries)) e.event.at b.json b.what) one in
          let reply_is : r.bytes ≡ reply_text (update_reply false answer server job state) =
          ap (λ (y : Reply). y.bytes)
          (same_Some r _ (sym replies ∙ ap (λ (y : Entry). y.reply) is
          ∙ ap (λ (z : Effect). z.reply) same)) in
          subst (λ (b : List ℕ). IsAnswer update_at b (Ok Success)) (sym reply_is)
          (ok_answers answer server job state seen fits is_addr
          (subst (λ (b : List ℕ). IsReply b seen) reply_is is_reply) ok)

    granted : (k life : ℕ) (now : ServerNow) → IsReturned setup entries n k server life now
        → IsGranted setup entries n k server life now
    granted k life now q =
        let v = delivered (take k entries) q.delivery n q.bytes
        (returned (take k entries) q.back.settles.entry.event.kind q.delivery n q.bytes q.returns
        q.back.names) in
        let g = get_front entries q.delivery k v.entry v.there in
        let (x, made, is) = next q.delivery v.entry g.1 in
        let reply : IsReply v.reply.bytes q.reply = subst (λ (b : List ℕ). IsReply b q.reply)
        (sym v.text) q.is in
        let told : n < q.delivery → IsAnswer update_at q.bytes (Ok Success) =
        λ lt. subst (λ (b : List ℕ). IsAnswer update_at b (Ok Success)) v.text
        (answered q.delivery v.entry g.1 v.delivers v.reply v.replies x made is lt q.reply reply q.ok) in
        let lt : n < q.delivery = elim (cases_lt n q.delivery) [
          | inl before ↦ before
          | inr past ↦ absurd (nothing q.delivery v.entry g.1 v.delivers v.reply v.replies x made is past)
        ] in
        record {
          bytes = q.bytes;
          back = q.back;
          answer = Success;
          granted = told lt;
          at = q.at;
          lives = q.lives;
        }

  -- what a request that comes to a server makes
  asked_does : (n : ℕ) (server : Addr) (life : ℕ) (bytes : List ℕ) (a : ServerAsked)
      (q : AsksAt setup entries n server life bytes a)
      → q.entry.call ≡ (served setup q.now (length (take n entries)) a.json a.what).call
  asked_does n server life bytes a q =
      let (x, made, is) = next n q.entry q.there in
      let own = subst (λ (v : Way). IsMade w setup (take n entries) q.entry.event.at v x) q.comes made in
      let one : own.0 ≡ a = one_server_asked q.now bytes own.0 a own.1 q.asks in
      ap (λ (y : Entry). y.call) is ∙ ap (λ (z : Effect). z.call) own.2
      ∙ ap (λ (b : ServerAsked). (served setup q.now (length (take n entries)) b.json b.what).call) one

  asked_by_it : (n : ℕ) (server : Addr) (life : ℕ) (bytes : List ℕ) (a : ServerAsked)
      (q : AsksAt setup entries n server life bytes a) (d : ℕ) → n < d
      → caller_by setup (take d entries) q.entry.step q.entry.event.kind ≡ server
  asked_by_it n server life bytes a q d lt = caller_is setup entries n d q.entry.step q.entry.event.kind q.now
      bytes lt q.comes ∙ q.at

  addr_of : (k : ℕ) (server : Addr) (now : ServerNow) → server_now setup (take k entries) server ≡ Some now
      → IsAddr server
  addr_of k server now at = found_addr setup (take k entries) server now words
      (found_now setup (take k entries) server now at)

  run_fits : (n : ℕ) (server : Addr) (life : ℕ) (job : JobId) (run : RunJobHttpRequest) (at : ℕ) (json : Bool)
      (body : ℕ) (bytes : List ℕ)
      → AsksAt setup entries n server life bytes
      (record { what = server_asked.Run job run at; json = json; body = body }) → job.0 < 2 ^ 64
  run_fits n server life job run at json body bytes q =
      let p = run_asked (job_verdict q.now.key) bytes
      (record { what = server_asked.Run job run at; json = json; body = body }) job run at q.asks refl in
      omega (arith, p.2.says.1, p.2.says.2)

  pub returns_grant : ReturnsGrant setup entries
  returns_grant = record {
    allocations = λ n k json t bytes q back.
        let (a, is) = brings w setup words events entries each n json t q k bytes back in (
          a,
          is,
          begins_assigned bytes a is,
          allocations_end w setup events entries each n k json t bytes a q back.back is,
        );
    submissions = λ n k server life job json body bytes now q back.
        let a : ServerAsked = record { what = server_asked.Submit job; json = json; body = body } in
        let (r, x, s, form, place) = (submissions_asked (job_verdict q.now.key) bytes json body job).0 q.asks
        in
        let fits : job.0 < 2 ^ 64 = omega (arith, s.names.says.1, s.names.says.2) in
        let tells : q.entry.call ≡ Some (state_call setup server job Ready) =
        asked_does n server life bytes a q ∙ ap (λ (addr : Addr). Some (state_call setup addr job Ready)) q.at
        in
        granted n q.entry q.there server job Ready tells (asked_by_it n server life bytes a q)
        (addr_of k server now back.at) fits k life now back;
    starts = λ n j server life job run at json body bytes now q back.
        let a : ServerAsked = record { what = server_asked.Run job run at; json = json; body = body } in
        let tells : q.entry.call ≡ Some (state_call setup server job Started) =
        asked_does n server life bytes a q ∙ ap (λ (addr : Addr). Some (state_call setup addr job Started))
        q.at in
        granted n q.entry q.there server job Started tells (asked_by_it n server life bytes a q)
        (addr_of j server now back.at) (run_fits n server life job run at json body bytes q) j life now
        back;
    ends = λ n j k server life job run at json body bytes now later q g back.
        let ran = run_by w setup events entries each n j server life job run at json body bytes now q g in
        let same : ran.entry ≡ g.back.settles.entry = same_Some ran.entry g.back.settles.entry
        (sym ran.there ∙ g.back.settles.there) in
        let names : ◌≡◌ {A = Option (ℕ × Option (List ℕ))} (settles_by (take j entries) ran.entry.event.kind)
        (Some (n, Some g.bytes)) = ap (λ (y : Entry). settles_by (take j entries) y.event.kind) same
        ∙ g.back.names in
        granted j ran.entry ran.there server job Complete ran.tells
        (λ d lt. settling_caller setup (take j entries) (take d entries) ran.entry.step ran.entry.event.kind n
        (Some g.bytes) names ∙ ap (λ (o : Option Step). stepper o setup.scheduler.addr) ran.steps)
        (addr_of k server later back.at) (run_fits n server life job run at json body bytes q) k life later
        back;
  }
