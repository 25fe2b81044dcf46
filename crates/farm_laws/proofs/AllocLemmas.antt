-- The return of a delivery that got a 200 brings a request for a job an assignment.
use Rattle.std.proofs.Common.{◌≡◌, inl, inr, ℕ, ◌+◌, ◌<◌, ◌≤◌, ◌^◌, Bool, true, false, cond, List, []}
use Rattle.std.proofs.Common.{length, take, Option, Some, None, Ok, refl, ap, ◌∙◌, sym, subst}
use Rattle.std.specs.Prelude.{slice_get, is_some}
use Rattle.std.proofs.lemmas.Bool.{cases_lt}
use Rattle.std.proofs.lemmas.Option.{same_Some}
use Rattle.dist_types.specs.Addr.{◌>>=◌, same_addr, IsAddr}
use Rattle.dist_types.specs.declared.addr.Addr.{Addr}
use Rattle.dist_types.specs.declared.results.AssignJobResult.{AssignJobResult}
use Rattle.dist_token.specs.Token.{token_text, job_claims_text}
use Rattle.dist_token.specs.Verdict.{job_verdict}
use Rattle.core_rules.specs.Pick.{pick}
use Rattle.core_rules.specs.Reservation.{bookings}
use Rattle.core_rules.specs.Rows.{servers_of}
use Rattle.core_rules.specs.Rule.{rule}
use Rattle.core_rules.specs.Ticket.{Ticket}
use Rattle.core_rules.specs.declared.call.Call.TheVariants as call
use Rattle.core_rules.proofs.AddressLemmas.{same_is}
use Rattle.build_server.specs.Books.{held_for, is_listed}
use Rattle.http_head.specs.Head.{IsReply}
use Rattle.http_head.specs.declared.reply.Reply.{Reply as HttpReply}
use Rattle.http_head.specs.declared.request.Request.{Request}
use Rattle.http_routes.specs.CallReply.{IsAssigned}
use Rattle.http_routes.specs.Refusal.{refusal_response}
use Rattle.http_routes.specs.Reply.{reply_text}
use Rattle.http_routes.specs.declared.refusal.Refusal.TheVariants.{NoRoute}
use Rattle.http_routes.specs.declared.route.Asked.{Asked}
use Rattle.http_routes.specs.declared.route.SchedRouted.{SchedRouted}
use Rattle.http_routes.specs.declared.route.SchedRouted.TheVariants as asked
use Rattle.http_routes.specs.declared.server_route.ServerRouted.{ServerRouted}
use Rattle.http_routes.specs.declared.server_route.ServerRouted.TheVariants as server_asked
use Rattle.farm_script.specs.declared.event.Event.{Event}
use Rattle.farm_script.specs.declared.event.EventKind.{EventKind}
use Rattle.farm_script.specs.declared.event.EventKind.TheVariants.{Deliver, Return}
use Rattle.farm_entries.specs.declared.site.Site.{Site as Setup}
use Rattle.farm_entries.specs.declared.entry.Effect.{Effect}
use Rattle.farm_entries.specs.declared.entry.Entry.{Entry}
use Rattle.farm_entries.specs.declared.entry.EntryWord.{EntryWord}
use Rattle.farm_entries.specs.declared.entry.EntryWord.TheVariants.{Void, Down}
use Rattle.farm_entries.specs.declared.entry.OutCall.{OutCall}
use Rattle.farm_entries.specs.declared.entry.Reply.{Reply}
use Rattle.farm_entries.specs.Answers.{assign_call, alloc_effect, answer_to}
use Rattle.farm_entries.specs.Builds.{HasWords}
use Rattle.farm_entries.specs.Calls.{call_at, delivery_at, settles_by}
use Rattle.farm_entries.specs.Effects.{word_effect, entry_of}
use Rattle.farm_entries.specs.Next.{IsMade, IsNext, EachNext}
use Rattle.farm_entries.specs.Reliable.{IsReserved, ReturnsOk}
use Rattle.farm_entries.specs.Seen.{core_log, core_of}
use Rattle.farm_entries.specs.Served.{served, books_of}
use Rattle.farm_entries.specs.Servers.{ServerNow, server_now}
use Rattle.farm_entries.specs.Tickets.{ticket_by, ticket_of}
use Rattle.farm_entries.specs.Ways.{Way, server_way, caller_by, caller_of, delivery_way, way_of}
use Rattle.farm_entries.specs.Ways.{to_nothing, to_nobody, to_scheduler, to_server}
use Rattle.farm_entries.specs.Weather.{Weather}
use Rattle.farm_laws.proofs.AssignLemmas.{asks_long, ticket_token, ticket_fits, alloc_calls, IsRead, assign_read}
use Rattle.farm_laws.proofs.AssignLemmas.{at_no_route, refused_code, Takes, at_server, assigned_ok}
use Rattle.farm_laws.proofs.BuildLemmas.{mapped, get_past, found_now, found_addr, delivered}
use Rattle.farm_laws.proofs.NextLemmas.{allocated_core}
use Rattle.farm_laws.proofs.OneLemmas.{one_asked}
use Rattle.farm_laws.proofs.SettleLemmas.{get_front, get_take, next_at}

-- what a return settles, it does by the reply of the delivery
pub returned : (log : List Entry) (k : EventKind) (d n : ℕ) (bytes : List ℕ) → k ≡ Return d
    → ◌≡◌ {A = Option (ℕ × Option (List ℕ))} (settles_by log k) (Some (n, Some bytes))
    → ◌≡◌ {A = Option (ℕ × List ℕ)} (delivery_at log d) (Some (n, bytes))
returned log k d n bytes is e =
    let own : ◌≡◌ {A = Option (ℕ × Option (List ℕ))} (settles_by log (Return d)) (Some (n, Some bytes)) =
    ap (settles_by log) (sym is) ∙ e in
    let m = mapped (λ (p : ℕ × List ℕ). let q : ℕ × Option (List ℕ) = (p.0, Some p.1) in q)
    (delivery_at log d) (n, Some bytes) own in
    let number : m.0.0 ≡ n = ap (λ (p : ℕ × Option (List ℕ)). p.0) m.2 in
    let reply : m.0.1 ≡ bytes = same_Some m.0.1 bytes (ap (λ (p : ℕ × Option (List ℕ)). p.1) m.2) in
    m.1 ∙ (λ i. let p : ℕ × List ℕ = (number i, reply i) in Some p)

-- an assignment that bytes tell
abbrev Assigned : List ℕ → Type 0
Assigned bytes = (a : AssignJobResult) × IsAssigned bytes (Ok a)

module _ (w : Weather) (setup : Setup) (words : HasWords setup) (events : List Event) (entries : List Entry)
    (each : EachNext w setup [] events entries) where
  next : (n : ℕ) (e : Entry) → slice_get entries n ≡ Some e → IsNext w setup (take n entries) e.event e
  next n e there = next_at w setup [] events entries n e each there

  -- entry n asks the server of its reservation to take the job
  module _ (n : ℕ) (json : Bool) (t : Ticket) (q : IsReserved setup entries n json t) where
    record Asking : Type 0 where
      tells : q.entry.call ≡ Some (assign_call q.tc t)
      fits : t.job.0 < 2 ^ 64
      key : List ℕ
      auth : t.auth ≡ token_text key (job_claims_text t.job.0)

    asking : Asking
    asking =
        let at = q.entry.event.at in
        let number = length (take n entries) in
        let s = core_of setup (take n entries) in
        let (x, made, is) = next n q.entry q.there in
        let own = subst (λ (v : Way). IsMade w setup (take n entries) at v x) q.comes made in
        let wish : Asked = record { what = asked.Alloc q.tc; json = json } in
        let one : own.0 ≡ wish = one_asked setup q.peer q.bytes own.0 wish own.1 q.asks in
        let booked = rule s (call.Reserve at) in
        let same : x ≡ alloc_effect s number json q.tc booked booked.kind =
        own.2 ∙ ap (λ (a : Asked). answer_to s number at a.json a.what) one in
        let core_is : q.entry.core ≡ Some booked = ap (λ (y : Entry). y.core) is
        ∙ ap (λ (z : Effect). z.core) same ∙ allocated_core s number json q.tc booked booked.kind in
        let ticket : ticket_by (core_log (take n entries)) booked.kind ≡ Some t =
        ap (ticket_of (core_log (take n entries))) (sym core_is) ∙ q.reserves in
        let token = ticket_token (core_log (take n entries)) booked.kind t ticket in
        record {
          tells = ap (λ (y : Entry). y.call) is ∙ ap (λ (z : Effect). z.call) same
              ∙ alloc_calls s number json q.tc booked booked.kind t ticket;
          fits = ticket_fits (core_log (take n entries)) (pick (servers_of s.log)) (servers_of s.log) at
              s.start.base (s.start.count + length (bookings s.log)) t ticket;
          key = token.0;
          auth = token.1;
        }

    abbrev sent : OutCall
    sent = assign_call q.tc t

    -- what a reader sees of it, where its server has an address
    read : IsAddr t.server → (r : Request) × IsRead q.tc t r
    read is = assign_read q.tc t asking.key (asks_long setup q.peer q.bytes q.tc json q.asks) is asking.fits
        asking.auth

    -- entry d delivers it, with that reply
    module _ (d : ℕ) (e : Entry) (there : slice_get entries d ≡ Some e) (delivers : e.event.kind ≡ Deliver n)
        (reply : Reply) (replies : e.reply ≡ Some reply) (x : Effect) (is : e ≡ entry_of e.event x)
        (seen : HttpReply) (is_reply : IsReply reply.bytes seen) (ok : seen.code ≡ 200) where
      said : x.reply ≡ Some reply
      said = sym (ap (λ (y : Entry). y.reply) is) ∙ replies

      silent : (word : EntryWord) → x ≡ word_effect word → Assigned reply.bytes
      silent word none =
          let no : None ≡ Some reply = sym (ap (λ (z : Effect). z.reply) none) ∙ said in
          absurd cc

      by_scheduler : (caller : Addr) → IsAddr t.server
          → IsMade w setup (take d entries) e.event.at (to_scheduler caller sent.bytes) x
          → Assigned reply.bytes
      by_scheduler caller address (a, shown, x_is) =
          let r = read address in
          let s = core_of setup (take d entries) in
          let number = length (take d entries) in
          let what = at_no_route setup q.tc t r.0 caller a r.1 shown in
          let same : x ≡ answer_to s number e.event.at a.json (asked.Done (refusal_response NoRoute)) =
          x_is ∙ ap (λ (y : SchedRouted). answer_to s number e.event.at a.json y) what in
          let bytes : reply_text (refusal_response NoRoute) ≡ reply.bytes =
          ap (λ (y : Reply). y.bytes) (same_Some _ reply (sym (ap (λ (z : Effect). z.reply) same) ∙ said)) in
          absurd (refused_code NoRoute tt seen
          (subst (λ (b : List ℕ). IsReply b seen) (sym bytes) is_reply) ok)

      by_server : (s : ServerNow) → IsAddr t.server
          → IsMade w setup (take d entries) e.event.at (to_server s sent.bytes) x → Assigned reply.bytes
      by_server s address (a, shown, x_is) =
          let r = read address in
          let p = at_server (job_verdict s.key) q.tc t r.0 a asking.fits r.1 shown in
          by_takes p.0 p.1
        where
          number : ℕ
          number = length (take d entries)

          by_takes : a.json ≡ false → Takes t.job a.what → Assigned reply.bytes
          by_takes form (inl (tc, what)) =
              let same : x ≡ served setup s number false (server_asked.Assign t.job tc) =
              x_is ∙ (λ i. served setup s number (form i) (what i)) in
              assigned_ok s.setup.addr number t.job tc (is_some (held_for t.job (books_of s).held))
              (is_listed tc (books_of s).archives) reply seen asking.fits
              (sym (ap (λ (z : Effect). z.reply) same) ∙ said) is_reply ok
          by_takes form (inr (f, own, what)) =
              let same : x ≡ served setup s number a.json (server_asked.Done (refusal_response f)) =
              x_is ∙ ap (λ (y : ServerRouted). served setup s number a.json y) what in
              let bytes : reply_text (refusal_response f) ≡ reply.bytes = ap (λ (y : Reply). y.bytes)
              (same_Some _ reply (sym (ap (λ (z : Effect). z.reply) same) ∙ said)) in
              absurd (refused_code f own seen (subst (λ (b : List ℕ). IsReply b seen) (sym bytes) is_reply)
              ok)

      by_running : (s : ServerNow) → IsAddr t.server → (b : Bool)
          → IsMade w setup (take d entries) e.event.at (cond b (to_server s sent.bytes) to_nobody) x
          → Assigned reply.bytes
      by_running s address true made = by_server s address made
      by_running s address false made = silent Down made

      by_target : (caller : Addr) (b : Bool) → same_addr t.server setup.scheduler.addr ≡ b
          → (o : Option ServerNow) → server_now setup (take d entries) t.server ≡ o
          → IsMade w setup (take d entries) e.event.at
          (cond b (to_scheduler caller sent.bytes) (server_way sent.bytes o)) x
          → Assigned reply.bytes
      by_target caller true at o now made =
          by_scheduler caller (subst IsAddr (sym (same_is t.server setup.scheduler.addr at)) words.scheduler)
          made
      by_target caller false at None now made = silent Down made
      by_target caller false at (Some s) now made =
          by_running s (found_addr setup (take d entries) t.server s words
          (found_now setup (take d entries) t.server s now)) s.running made

      module _ (made : IsMade w setup (take d entries) e.event.at
          (way_of setup (take d entries) e.event.kind) x) where
        past : d ≤ n → Assigned reply.bytes
        past h =
            let none : call_at (take d entries) n ≡ None = ap (λ (o : Option Entry). o >>= λ y. y.call)
            (get_past entries n d h) in
            let way : way_of setup (take d entries) e.event.kind ≡ to_nothing =
            ap (way_of setup (take d entries)) delivers
            ∙ ap (λ (o : Option OutCall). delivery_way setup (take d entries)
            (caller_of setup (take d entries) (slice_get (take d entries) n)) o) none in
            silent Void (subst (λ (v : Way). IsMade w setup (take d entries) e.event.at v x) way made)

        later : n < d → Assigned reply.bytes
        later lt =
            let here : slice_get (take d entries) n ≡ Some q.entry = get_take entries n d lt ∙ q.there in
            let caller : Addr = caller_by setup (take d entries) q.entry.step q.entry.event.kind in
            let way : way_of setup (take d entries) e.event.kind
            ≡ delivery_way setup (take d entries) caller (Some sent) =
            ap (way_of setup (take d entries)) delivers
            ∙ (λ i. delivery_way setup (take d entries) (caller_of setup (take d entries) (here i))
            ((ap (λ (o : Option Entry). o >>= λ y. y.call) here ∙ asking.tells) i)) in
            by_target caller (same_addr t.server setup.scheduler.addr) refl
            (server_now setup (take d entries) t.server) refl
            (subst (λ (v : Way). IsMade w setup (take d entries) e.event.at v x) way made)

        told : Assigned reply.bytes
        told = elim (cases_lt n d) [
          | inl before ↦ later before
          | inr after ↦ past after
        ]

    -- what its return brings
    pub brings : (k : ℕ) (bytes : List ℕ) → ReturnsOk entries n k bytes → Assigned bytes
    brings k bytes b =
        let v = delivered (take k entries) b.delivery n bytes
        (returned (take k entries) b.back.settles.entry.event.kind b.delivery n bytes b.returns b.back.names)
        in
        let g = get_front entries b.delivery k v.entry v.there in
        let (x, made, is) = next b.delivery v.entry g.1 in
        subst Assigned v.text
        (told b.delivery v.entry g.1 v.delivers v.reply v.replies x is b.reply
        (subst (λ (y : List ℕ). IsReply y b.reply) (sym v.text) b.is) b.ok made)
