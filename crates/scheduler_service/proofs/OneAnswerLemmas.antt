-- Two connections that meet the same, step by step.
use Rattle.std.proofs.Common.{◌≡◌, ◌≢◌, ℕ, Bool, List, [], ◌∷◌, ◌++◌, append-nil, drop, length, map, refl}
use Rattle.std.proofs.Common.{Option, Some, None, Result, Ok, Err, inl, inr, sym, ap, ◌∙◌, subst}
use Rattle.std.specs.Prelude.{IfSome, option_map, slice_get, ⊤}
use Rattle.dist_types.specs.Clock.{next_moment}
use Rattle.dist_types.specs.Content.{Added}
use Rattle.dist_types.specs.Outgoing.{Assigned}
use Rattle.dist_types.specs.declared.addr.Addr.{Addr}
use Rattle.dist_types.specs.declared.dialer.Asked.{Asked}
use Rattle.dist_types.specs.declared.ids.JobId.{JobId}
use Rattle.dist_types.specs.declared.outgoing.CallFault.{CallFault}
use Rattle.dist_types.specs.declared.outgoing.CallFault.TheVariants.{Memory}
use Rattle.dist_types.specs.declared.rules.Rules.{Rules}
use Rattle.dist_types.specs.declared.results.AssignJobResult.{AssignJobResult}
use Rattle.dist_types.specs.declared.token_error.TokenError.{TokenError}
use Rattle.dist_wire.specs.Reading.{assign_at}
use Rattle.core_rules.specs.Answers.{IsTicket}
use Rattle.core_rules.specs.Log.{Core}
use Rattle.core_rules.specs.Rule.{rule}
use Rattle.core_rules.specs.Ticket.{Ticket}
use Rattle.core_rules.specs.declared.call.Call.TheVariants as call
use Rattle.core_rules.specs.declared.entry.CoreEntry.{CoreEntry}
use Rattle.core_rules.specs.declared.entry.CoreKind.{CoreKind}
use Rattle.core_rules.specs.declared.entry.CoreKind.TheVariants as core
use Rattle.core_rules.specs.declared.entry.Reserved.TheVariants.{Job, NoRoom, Spent}
use Rattle.sched_core.specs.Picked.{IsPicked}
use Rattle.sched_core.specs.declared.answers.Picked.TheVariants.{Reserved}
use Rattle.scheduler_steps.specs.Settling.{judged, spend_call}
use Rattle.scheduler_replies.specs.ByEntry.{reply_by, settled_reply, RepliesAt}
use Rattle.http_head.specs.declared.request.Request.{Request}
use Rattle.http_routes.specs.Admission.{client_token, admission_by, Admits}
use Rattle.http_routes.specs.Reply.{reply_text}
use Rattle.http_routes.specs.Route.{asked_of, answered}
use Rattle.http_routes.specs.declared.admission.Admission.{Admission}
use Rattle.http_routes.specs.declared.reply.Response.{Response}
use Rattle.http_routes.specs.declared.route.SchedRouted.{SchedRouted}
use Rattle.http_routes.specs.declared.route.SchedRouted.TheVariants as asked
use Rattle.http_connections.specs.Alike.{HearAlike, GrowAlike}
use Rattle.http_connections.specs.Form.{form_of}
use Rattle.http_connections.specs.Hearing.{Hears}
use Rattle.http_connections.specs.Served.{Shown, Took, IsServedBy}
use Rattle.http_connections.specs.Taking.{TakesCut}
use Rattle.http_connections.specs.declared.served.Served.TheVariants.{Answered}
use Rattle.http_connections.proofs.AlikeLemmas.{some_same, drop_front, head_same, same_taken, hears_once}
use Rattle.sched.specs.Outside.{Moments, IsRead, IsReadAt, IsCalled, row_for}
use Rattle.sched.specs.Pass.{Told, Adds}
use Rattle.sched.specs.Turn.{core_before, place_made}
use Rattle.scheduler_service.specs.ByEntries.{IsAnswered, IsAskedAt, IsDoneAt}
use Rattle.scheduler_service.specs.Connection.{Around, Routing, Asks, Does, IsReplied}
use Rattle.scheduler_service.specs.OneAnswer.{found_by, made_by, SaysOne, BecomesOne, MeetAlike, DoAlike}
use Rattle.scheduler_service.specs.OneAnswer.{EndAlike}
use Rattle.scheduler_service.specs.Replied.{Means, requests_over, job_token}
use Rattle.scheduler_service.specs.Requested.{IsAskedFor}

ok_same : {X E : Type 0} (x y : X) → ◌≡◌ {A = Result X E} (Ok x) (Ok y) → x ≡ y
ok_same x y is = cc is

-- ---- lists

drop_all : {X : Type 0} (xs : List X) → drop (length xs) xs ≡ []
drop_all [] = refl
drop_all (x ∷ xs) = drop_all xs

second_same : {X : Type 0} (w x y z : X) (xs ys : List X) → w ∷ x ∷ xs ≡ y ∷ z ∷ ys → x ≡ z
second_same w x y z xs ys is = cc is

none_more : {Row : Type 0} (rows : Option (List Row)) → rows ≡ option_map (λ (l : List Row). l ++ []) rows
none_more None = refl
none_more (Some l) = ap (λ x. Some x) (sym (append-nil l))

grow_none : {Row : Type 0} (old new before after : Option (List Row)) → new ≡ old → after ≡ before
    → GrowAlike old new before after
grow_none old new before after a b = ([], a ∙ none_more old, b ∙ none_more before)

grow_some : {Row : Type 0} (old new before after : Option (List Row)) (first other more : List Row)
    → old ≡ Some first → new ≡ Some (first ++ more) → before ≡ Some other → after ≡ Some (other ++ more)
    → GrowAlike old new before after
grow_some {Row} old new before after first other more old_is new_is before_is after_is = (
  more,
  new_is ∙ sym (ap (option_map (λ (l : List Row). l ++ more)) old_is),
  after_is ∙ sym (ap (option_map (λ (l : List Row). l ++ more)) before_is),
)

-- ---- moments

moments_same : (a b : Moments) → a.coming ≡ b.coming → a.last ≡ b.last → a ≡ b
moments_same a b x y = λ i. record { coming = x i; last = y i }

one_less : Option (List ℕ) → Option (List ℕ)
one_less o = option_map (λ (c : List ℕ). drop 1 c) o

same_read : (old new before after : Moments) (coming : List ℕ) → old.coming ≡ Some coming → before ≡ old
    → IsRead old new → IsRead before after → new ≡ after
unfolding one_less
same_read old new before after coming told is a b =
    let there : before.coming ≡ Some coming = ap (λ (m : Moments). m.coming) is ∙ told in
    let one : new.last ≡ next_moment coming old.last =
    subst (λ o. IfSome o (λ c. new.last ≡ next_moment c old.last)) told a.last in
    let two : after.last ≡ next_moment coming before.last =
    subst (λ o. IfSome o (λ c. after.last ≡ next_moment c before.last)) there b.last in
    moments_same new after (a.left ∙ (ap one_less (told ∙ sym there) ∙ sym b.left))
    (one ∙ (ap (λ (m : Moments). next_moment coming m.last) (sym is) ∙ sym two))

same_read_at : (now at : ℕ) (old new before after : Moments) (coming : List ℕ) → old.coming ≡ Some coming
    → before ≡ old → IsReadAt now old new → IsReadAt at before after → (now ≡ at) × (new ≡ after)
unfolding one_less
same_read_at now at old new before after coming told is a b =
    let there : before.coming ≡ Some coming = ap (λ (m : Moments). m.coming) is ∙ told in
    let one : now ≡ next_moment coming old.last =
    subst (λ o. IfSome o (λ c. now ≡ next_moment c old.last)) told a.given in
    let two : at ≡ next_moment coming before.last =
    subst (λ o. IfSome o (λ c. at ≡ next_moment c before.last)) there b.given in
    let same : now ≡ at = one ∙ (ap (λ (m : Moments). next_moment coming m.last) (sym is) ∙ sym two) in (
      same,
      moments_same new after (a.left ∙ (ap one_less (told ∙ sym there) ∙ sym b.left))
          (a.last ∙ (same ∙ sym b.last)),
    )

-- the moments behind one that was given
left_told : (old new : Moments) (coming : List ℕ) → old.coming ≡ Some coming → new.coming ≡ one_less
    old.coming
    → new.coming ≡ Some (drop 1 coming)
unfolding one_less
left_told old new coming told left = left ∙ ap one_less told

-- ---- what is asked

same_shown : (f g : TokenError → List ℕ) (v : Result ⊤ TokenError) → ((e : TokenError) → f e ≡ g e)
    → admission_by f v ≡ admission_by g v
same_shown f g v same = λ i. admission_by (λ (e : TokenError). same e i) v

same_admits : {K : Type 0} (may_answer : K → ℕ → List ℕ → Result ⊤ TokenError → K → Type 0)
    (shown : K → TokenError → List ℕ) (token : Option (List ℕ)) (now : ℕ) (old before new after : K)
    (said told : Option Admission) → before ≡ old → SaysOne may_answer shown old new after
    → Admits may_answer shown token now old said new → Admits may_answer shown token now before told after
    → (said ≡ told) × (BecomesOne may_answer old new after → new ≡ after)
same_admits may_answer shown None now old before new after said told is says a b =
    (a.0 ∙ sym b.0, λ one. a.1 ∙ (sym is ∙ sym b.1))
same_admits may_answer shown (Some token) now old before new after said told is says (x, x_is, a) (
  y,
  y_is,
  b,
) =
    let answers = subst (λ k. may_answer k now token b.answer after) is b.answers in
    let both = says now token a.answer b.answer a.answers answers a.known b.known in
    let same : x ≡ y = a.told ∙ (ap (λ v. admission_by (shown new) v) both.0
    ∙ (same_shown (shown new) (shown after) b.answer both.1 ∙ sym b.told)) in
    (x_is ∙ (ap (λ (v : Admission). Some v) same ∙ sym y_is), λ one. one now token a.answer b.answer a.answers answers)

same_routing : {K : Type 0} (rules : Rules) (may_answer : K → ℕ → List ℕ → Result ⊤ TokenError → K → Type 0)
    (shown : K → TokenError → List ℕ) (serves : List ℕ → Option Addr) (peer : Addr) (request : Option Request)
    (now : ℕ) (old before new after : K) (routed other : SchedRouted) → before ≡ old
    → SaysOne may_answer shown old new after
    → Asks rules may_answer shown serves peer request now old (Ok routed) new
    → Asks rules may_answer shown serves peer request now before (Ok other) after
    → (routed ≡ other) × (BecomesOne may_answer old new after → new ≡ after)
same_routing rules may_answer shown serves peer None now old before new after routed other is says a b =
    (a.0 ∙ sym b.0, λ one. a.1 ∙ (sym is ∙ sym b.1))
same_routing rules may_answer shown serves peer (Some request) now old before new after routed other is says a b =
    let both = same_admits may_answer shown (client_token request) now old before new after a.said b.said is
    says a.admits b.admits in
    (a.routes ∙ (ap (λ s. answered (asked_of rules serves request peer s)) both.0 ∙ sym b.routes), both.1)

-- ---- what is done

-- what is replied, what is left of the clock, which entries were made, and what was asked
abbrev SameEnd : Means → Means → Means → Means → Response → Response → Type 0
SameEnd old new before after r s = (r ≡ s) × (new.clock ≡ after.clock)
    × (made_by old.pass new.pass ≡ made_by before.pass after.pass)
    × GrowAlike old.asked new.asked before.asked after.asked

new_places : (old new : Told) (places : List ℕ) → Adds places old new → drop (length old.own) new.own ≡ places
new_places old new places added = ap (drop (length old.own)) added.own ∙ drop_front old.own places

same_reply : (json : Bool) (what : SchedRouted) (now : ℕ) (s : Core) (e d : Option CoreEntry) (r q : Response)
    → RepliesAt json what now s e r → RepliesAt json what now s d q → (e ≡ d) × (r ≡ q)
same_reply json what now s (Some e) (Some d) r q x y =
    let call : x.0 ≡ y.0 = some_same x.0 y.0 (sym x.1 ∙ y.1) in
    let entry : e ≡ d = x.2 ∙ (ap (rule s) call ∙ sym y.2) in (
      ap (λ (k : CoreEntry). Some k) entry,
      some_same r q (sym x.3 ∙ (ap (λ (k : CoreEntry). reply_by json what k.kind) entry ∙ y.3)),
    )
same_reply json what now s (Some e) None r q x y = absurd (cc (sym x.1 ∙ y.0))
same_reply json what now s None (Some d) r q x y = absurd (cc (sym y.1 ∙ x.0))
same_reply json what now s None None r q x y = (refl, some_same r q (sym x.1 ∙ y.1))

same_entry : (json : Bool) (what : SchedRouted) (now : ℕ) (pass other : Told) (p q : ℕ) (e d : Option
    CoreEntry)
    (r s : Response)
    → IfSome e (λ x. slice_get pass.front p ≡ Some x) → IfSome d (λ x. slice_get other.front q ≡ Some x)
    → map (λ place. core_before pass place) (place_made p e) ≡ map (λ place. core_before other place)
    (place_made q d)
    → RepliesAt json what now (core_before pass p) e r → RepliesAt json what now (core_before other q) d s
    → (r ≡ s) × (map (λ place. slice_get pass.front place) (place_made p e)
    ≡ map (λ place. slice_get other.front place) (place_made q d))
same_entry json what now pass other p q (Some e) (Some d) r s there here found x y =
    let same : core_before pass p ≡ core_before other q =
    head_same (core_before pass p) (core_before other q) [] [] found in
    let both = same_reply json what now (core_before pass p) (Some e) (Some d) r s x
    (subst (λ c. RepliesAt json what now c (Some d) s) (sym same) y) in
    (both.1, ap (λ (k : Option CoreEntry). k ∷ []) (there ∙ (both.0 ∙ sym here)))
same_entry json what now pass other p q (Some e) None r s there here found x y = absurd (cc found)
same_entry json what now pass other p q None (Some d) r s there here found x y = absurd (cc found)
same_entry json what now pass other p q None None r s there here found x y =
    ((same_reply json what now (core_before pass p) None None r s x y).1, refl)

same_answer : (json : Bool) (what : SchedRouted) (old new before after : Means) (r s : Response)
    (coming : List ℕ) → old.clock.coming ≡ Some coming → before.clock ≡ old.clock
    → found_by old.pass new.pass ≡ found_by before.pass after.pass
    → IsAnswered json what old new (Ok r) → IsAnswered json what before after (Ok s)
    → SameEnd old new before after r s
same_answer json what old new before after r s coming told clock found a b =
    let at = same_read_at a.now b.now old.clock new.clock before.clock after.clock coming told clock a.read
    b.read in
    let mine = new_places old.pass new.pass (place_made a.place a.entry) a.added in
    let theirs = new_places before.pass after.pass (place_made b.place b.entry) b.added in
    let cores = ap (map (λ place. core_before new.pass place)) (sym mine)
    ∙ (found ∙ ap (map (λ place. core_before after.pass place)) theirs) in
    let both = same_entry json what a.now new.pass after.pass a.place b.place a.entry b.entry r s a.there
    b.there
    cores a.replies
    (subst (λ n. RepliesAt json what n (core_before after.pass b.place) b.entry s) (sym at.0) b.replies) in (
      both.0,
      at.1,
      ap (map (λ place. slice_get new.pass.front place)) mine
          ∙ (both.1 ∙ ap (map (λ place. slice_get after.pass.front place)) (sym theirs)),
      grow_none old.asked new.asked before.asked after.asked a.unasked.asked b.unasked.asked,
    )

same_ticket : (log : List CoreEntry) (job : JobId) (reg : ℕ) (r q : Ticket)
    → IsTicket (λ (key : List ℕ). key) job_token log job reg r
    → IsTicket (λ (key : List ℕ). key) job_token log job reg q → r ≡ q
same_ticket log job reg r q a b =
    let number : r.number ≡ q.number = a.number ∙ sym b.number in
    let same_job : r.job ≡ q.job = a.job ∙ sym b.job in
    let same_reg : r.reg ≡ q.reg = a.reg ∙ sym b.reg in
    let server : r.server ≡ q.server = some_same r.server q.server (sym a.server ∙ b.server) in
    let key : a.token.0 ≡ b.token.0 = some_same a.token.0 b.token.0 (sym a.token.1 ∙ b.token.1) in
    let auth : r.auth ≡ q.auth = a.token.2 ∙ (ap (λ k. job_token k job.0) key ∙ sym b.token.2) in
    λ i. record { number = number i; job = same_job i; server = server i; reg = same_reg i; auth = auth i }

picked_once : (log : List CoreEntry) (k : CoreKind) (r q : Ticket)
    → IsPicked (λ (key : List ℕ). key) job_token log k (Reserved r)
    → IsPicked (λ (key : List ℕ). key) job_token log k (Reserved q) → r ≡ q
picked_once log (core.Reserve (Job job reg forgiven)) r q a b = same_ticket log job reg r q a b
picked_once log (core.Reserve (NoRoom n)) r q a b = absurd a
picked_once log (core.Reserve Spent) r q a b = absurd a
picked_once log (core.Commit job state kept) r q a b = absurd a
picked_once log (core.Undo job noted ended) r q a b = absurd a
picked_once log (core.Beat server nonce cpus key pruned reaped replaced is_new) r q a b = absurd a
picked_once log (core.Update server job state answer) r q a b = absurd a
picked_once log (core.Status pruned servers cpus jobs) r q a b = absurd a
picked_once log (core.Drain server nonce on reg) r q a b = absurd a

-- the one row of a dialer that was lent
pub one_row : (name : ℕ) (r : Ticket) (tc : List ℕ) (heard : Result AssignJobResult CallFault) (old new : Means)
    (first last : List Asked)
    → IsCalled IsAskedFor r tc heard (requests_over name old) (requests_over name new) → heard ≢ Err Memory
    → old.asked ≡ Some first → new.asked ≡ Some last
    → (x : Asked) × (drop (length first) last ≡ x ∷ []) × IsAskedFor (row_for r tc heard) x
    × (last ≡ first ++ x ∷ [])
one_row name r tc heard old new first last called whole is new_is =
    let sent = called.lent.sent whole in
    let one = subst (λ o. IfSome o (λ rows. (a : Asked) × (new.asked ≡ Some (rows ++ a ∷ []))
    × IsAskedFor (row_for r tc heard) a)) is sent.one in
    let grown : last ≡ first ++ one.0 ∷ [] = some_same last (first ++ one.0 ∷ []) (sym new_is ∙ one.1) in (
      one.0,
      ap (drop (length first)) grown ∙ drop_front first (one.0 ∷ []),
      one.2,
      grown,
    )

same_row : (row : Assigned) (a b : Asked) → IsAskedFor row a → IsAskedFor row b → a.answer ≡ b.answer → a ≡ b
same_row row a b p q is =
    let host : a.host ≡ b.host = p.host ∙ sym q.host in
    let port : a.port ≡ b.port = p.port ∙ sym q.port in
    let request : a.request ≡ b.request = p.request ∙ sym q.request in
    λ i. record { host = host i; port = port i; request = request i; answer = is i }

same_heard : (name other : ℕ) (r q : Ticket) (tc : List ℕ) (h k : Result AssignJobResult CallFault)
    (old new before after : Means) → r ≡ q
    → IsCalled IsAskedFor r tc h (requests_over name old) (requests_over name new)
    → IsCalled IsAskedFor q tc k (requests_over other before) (requests_over other after)
    → h ≢ Err Memory → k ≢ Err Memory → HearAlike old.asked new.asked before.asked after.asked
    → (h ≡ k) × GrowAlike old.asked new.asked before.asked after.asked
same_heard name other r q tc h k old new before after ticket a b some too alike =
    let x = one_row name r tc h old new alike.first alike.last a some alike.old_is alike.new_is in
    let y = one_row other q tc k before after alike.other alike.since b too alike.before_is alike.after_is in
    let answers = ap (map (λ (z : Asked). z.answer)) (sym x.1)
    ∙ (alike.heard ∙ ap (map (λ (z : Asked). z.answer)) y.1) in
    let same : x.0.answer ≡ y.0.answer = head_same x.0.answer y.0.answer [] [] answers in
    let heard : h ≡ k = hears_once assign_at x.0.answer h k some too x.2.answer
    (subst (λ v. Hears assign_at v k) (sym same) y.2.answer) in
    let rows : row_for r tc h ≡ row_for q tc k = λ i. row_for (ticket i) tc (heard i) in
    let row : x.0 ≡ y.0 = same_row (row_for r tc h) x.0 y.0 x.2
    (subst (λ w. IsAskedFor w y.0) (sym rows) y.2) same in (
      heard,
      grow_some old.asked new.asked before.asked after.asked alike.first alike.other (x.0 ∷ []) alike.old_is
          (alike.new_is ∙ ap (λ (l : List Asked). Some l) x.3) alike.before_is
          (alike.after_is ∙ (ap (λ (l : List Asked). Some l) y.3
          ∙ ap (λ (z : Asked). Some (alike.other ++ z ∷ [])) (sym row))),
    )

same_asked : (json : Bool) (tc : List ℕ) (old new before after : Means) (r s : Response) (coming : List ℕ)
    → old.clock.coming ≡ Some coming → before.clock ≡ old.clock
    → found_by old.pass new.pass ≡ found_by before.pass after.pass
    → HearAlike old.asked new.asked before.asked after.asked
    → IsAskedAt json tc old new (Ok r) → IsAskedAt json tc before after (Ok s)
    → SameEnd old new before after r s
unfolding one_less
same_asked json tc old new before after r s coming told clock found alike a b =
    let mine = new_places old.pass new.pass (a.place ∷ a.spent ∷ []) a.added in
    let theirs = new_places before.pass after.pass (b.place ∷ b.spent ∷ []) b.added in
    let cores = ap (map (λ place. core_before new.pass place)) (sym mine)
    ∙ (found ∙ ap (map (λ place. core_before after.pass place)) theirs) in
    let first : core_before new.pass a.place ≡ core_before after.pass b.place = head_same _ _ _ _ cores in
    let second : core_before new.pass a.spent ≡ core_before after.pass b.spent =
    second_same _ _ _ _ _ _ cores in
    let one = same_read_at a.reserved.now b.reserved.now old.clock a.ticking before.clock b.ticking coming
    told
    clock a.reserved.read b.reserved.read in
    let two = same_read_at a.now b.now a.ticking new.clock b.ticking after.clock (drop 1 coming)
    (left_told old.clock a.ticking coming told a.reserved.read.left) (sym one.1) a.read b.read in
    let rules : rule (core_before new.pass a.place) (call.Reserve a.reserved.now)
    ≡ rule (core_before after.pass b.place) (call.Reserve b.reserved.now) =
    λ i. rule (first i) (call.Reserve (one.0 i)) in
    let reserving : a.reserving ≡ b.reserving = a.reserved.gives.0 ∙ (rules ∙ sym b.reserved.gives.0) in
    let ticket : a.r ≡ b.r = picked_once (core_before new.pass a.place).log a.reserving.kind a.r b.r
    a.reserved.gives.1
    (subst (λ (c : Core). IsPicked (λ (key : List ℕ). key) job_token c.log a.reserving.kind (Reserved b.r))
    (sym first)
    (subst (λ (e : CoreEntry). IsPicked (λ (key : List ℕ). key) job_token (core_before after.pass b.place).log
    e.kind (Reserved b.r)) (sym reserving) b.reserved.gives.1)) in
    let told_too = same_heard a.name b.name a.r b.r tc a.heard b.heard old new before after ticket
    a.called b.called (λ is. a.replies.0 (ap judged is)) (λ is. b.replies.0 (ap judged is)) alike in
    let heard : a.heard ≡ b.heard = told_too.0 in
    let spends : rule (core_before new.pass a.spent) (spend_call a.now a.r (judged a.heard))
    ≡ rule (core_before after.pass b.spent) (spend_call b.now b.r (judged b.heard)) =
    λ i. rule (second i) (spend_call (two.0 i) (ticket i) (judged (heard i))) in
    let spending : a.spending ≡ b.spending = a.ruled ∙ (spends ∙ sym b.ruled) in
    let replies : settled_reply json a.r (judged a.heard) a.spending.kind
    ≡ settled_reply json b.r (judged b.heard) b.spending.kind =
    λ i. settled_reply json (ticket i) (judged (heard i)) (spending i).kind in
    let at : slice_get new.pass.front a.place ≡ slice_get after.pass.front b.place =
    a.reserved.there ∙ (ap (λ (e : CoreEntry). Some e) reserving ∙ sym b.reserved.there) in
    let behind : slice_get new.pass.front a.spent ≡ slice_get after.pass.front b.spent =
    a.there ∙ (ap (λ (e : CoreEntry). Some e) spending ∙ sym b.there) in
    let both : slice_get new.pass.front a.place ∷ slice_get new.pass.front a.spent ∷ []
    ≡ slice_get after.pass.front b.place ∷ slice_get after.pass.front b.spent ∷ [] =
    λ i. at i ∷ behind i ∷ [] in (
      a.replies.1 ∙ (replies ∙ sym b.replies.1),
      two.1,
      ap (map (λ place. slice_get new.pass.front place)) mine
          ∙ (both ∙ ap (map (λ place. slice_get after.pass.front place)) (sym theirs)),
      told_too.1,
    )

-- one call makes fewer entries than two
fewer : (f : ℕ → Core) (place : ℕ) (entry : Option CoreEntry) (c d : Core)
    → map f (place_made place entry) ≡ c ∷ d ∷ [] → ⊥
fewer f place None c d is = absurd (cc is)
fewer f place (Some e) c d is = absurd (cc is)

unlike : (json too : Bool) (what : SchedRouted) (tc : List ℕ) (old new before after : Means) (r s : Response)
    → found_by old.pass new.pass ≡ found_by before.pass after.pass
    → IsAnswered json what old new (Ok r) → IsAskedAt too tc before after (Ok s) → ⊥
unlike json too what tc old new before after r s found a b =
    let mine = new_places old.pass new.pass (place_made a.place a.entry) a.added in
    let theirs = new_places before.pass after.pass (b.place ∷ b.spent ∷ []) b.added in
    fewer (λ place. core_before new.pass place) a.place a.entry (core_before after.pass b.place)
    (core_before after.pass b.spent)
    (ap (map (λ place. core_before new.pass place)) (sym mine)
    ∙ (found ∙ ap (map (λ place. core_before after.pass place)) theirs))

none_made : (pass : Told) → made_by pass pass ≡ []
none_made pass = ap (map (λ place. slice_get pass.front place)) (drop_all pass.own)

same_done : (json : Bool) (what : SchedRouted) (old new before after : Means) (r s : Response) (coming :
    List ℕ)
    → old.clock.coming ≡ Some coming → before.clock ≡ old.clock
    → found_by old.pass new.pass ≡ found_by before.pass after.pass
    → HearAlike old.asked new.asked before.asked after.asked
    → IsDoneAt json what old new (Ok r) → IsDoneAt json what before after (Ok s)
    → SameEnd old new before after r s
same_done json (asked.Alloc tc) old new before after r s coming told clock found alike (inl a) (inl b) =
    same_answer json (asked.Alloc tc) old new before after r s coming told clock found a b
same_done json (asked.Alloc tc) old new before after r s coming told clock found alike (inr a) (inr b) =
    same_asked json tc old new before after r s coming told clock found alike a b
same_done json (asked.Alloc tc) old new before after r s coming told clock found alike (inl a) (inr b) =
    absurd (unlike json json (asked.Alloc tc) tc old new before after r s found a b)
same_done json (asked.Alloc tc) old new before after r s coming told clock found alike (inr a) (inl b) =
    absurd (unlike json json (asked.Alloc tc) tc before after old new s r (sym found) b a)
same_done json (asked.Beat server beat) old new before after r s coming told clock found alike a b =
    same_answer json (asked.Beat server beat) old new before after r s coming told clock found a b
same_done json (asked.Update server job state) old new before after r s coming told clock found alike a b =
    same_answer json (asked.Update server job state) old new before after r s coming told clock found a b
same_done json asked.Status old new before after r s coming told clock found alike a b =
    same_answer json asked.Status old new before after r s coming told clock found a b
same_done json (asked.Drain server drain) old new before after r s coming told clock found alike a b =
    same_answer json (asked.Drain server drain) old new before after r s coming told clock found a b
same_done json (asked.Done response) old new before after r s coming told clock found alike a b = (
  ok_same r s (a.0 ∙ sym b.0),
  ap (λ (m : Means). m.clock) a.1 ∙ (sym clock ∙ sym (ap (λ (m : Means). m.clock) b.1)),
  ap (λ (m : Means). made_by old.pass m.pass) a.1
      ∙ (none_made old.pass
      ∙ (sym (none_made before.pass) ∙ sym (ap (λ (m : Means). made_by before.pass m.pass) b.1))),
  grow_none old.asked new.asked before.asked after.asked (ap (λ (m : Means). m.asked) a.1)
      (ap (λ (m : Means). m.asked) b.1),
)

-- ---- a whole connection

same_replied : {K : Type 0} (may_answer : K → ℕ → List ℕ → Result ⊤ TokenError → K → Type 0)
    (shown : K → TokenError → List ℕ) (serves : List ℕ → Option Addr) (peer : Addr) (request : Option Request)
    (old new before after : Around K) (r s : Response) (between other : Moments) (routing asked_too : Routing)
    → IsRead old.means.clock between → IsRead before.means.clock other
    → Asks old.means.pass.start.rules may_answer shown serves peer request between.last old.client routing
    new.client
    → Asks before.means.pass.start.rules may_answer shown serves peer request other.last before.client asked_too
    after.client
    → Does (form_of request) routing (record old.means { clock = between }) new.means (Ok r)
    → Does (form_of request) asked_too (record before.means { clock = other }) after.means (Ok s)
    → MeetAlike may_answer shown old new before after
    → SameEnd old.means new.means before.means after.means r s
    × (BecomesOne may_answer old.client new.client after.client → new.client ≡ after.client)
unfolding one_less
same_replied may_answer shown serves peer request old new before after r s between other (Err e) asked_too
    read
    read_too asks asks_too done done_too meet = absurd (cc done.0)
same_replied may_answer shown serves peer request old new before after r s between other (Ok routed) (Err e)
    read
    read_too asks asks_too done done_too meet = absurd (cc done_too.0)
same_replied may_answer shown serves peer request old new before after r s between other (Ok routed) (Ok
    what) read
    read_too asks asks_too done done_too meet =
    let same = same_read old.means.clock between before.means.clock other meet.coming meet.told meet.clock
    read
    read_too in
    let routes = same_routing old.means.pass.start.rules may_answer shown serves peer request between.last
    old.client before.client new.client
    after.client routed what meet.client meet.says asks
    (subst (λ v. Asks v may_answer shown serves peer request between.last before.client (Ok what) after.client)
    meet.rules
    (subst (λ (m : Moments). Asks before.means.pass.start.rules may_answer shown serves peer request m.last
    before.client (Ok what) after.client)
    (sym same) asks_too)) in
    let end = same_done (form_of request) routed (record old.means { clock = between }) new.means
    (record before.means { clock = other }) after.means r s (drop 1 meet.coming)
    (left_told old.means.clock between meet.coming meet.told read.left) (sym same) meet.found meet.heard done
    (subst (λ w. IsDoneAt (form_of request) w (record before.means { clock = other }) after.means (Ok s))
    (sym routes.0) done_too) in
    ((end.0, end.1, end.2, end.3), routes.1)

pub one_reply : {K : Type 0} (may_answer : K → ℕ → List ℕ → Result ⊤ TokenError → K → Type 0)
    (shown : K → TokenError → List ℕ) (serves : List ℕ → Option Addr) (peer : Addr) (request : Option Request)
    (r s : Response) (old new before after : Around K)
    → IsReplied may_answer shown serves peer request old new (Ok r)
    → IsReplied may_answer shown serves peer request before after (Ok s)
    → MeetAlike may_answer shown old new before after
    → (r ≡ s) × DoAlike may_answer old new before after
one_reply may_answer shown serves peer request r s old new before after a b meet =
    let same = same_replied may_answer shown serves peer request old new before after r s a.between b.between
    a.routing b.routing a.read b.read a.asks b.asks a.done b.done meet in
    (same.0.0, record { entries = same.0.2; clock = same.0.1; asked = same.0.3; client = same.1 })

pub one_answer : {K : Type 0} (may_answer : K → ℕ → List ℕ → Result ⊤ TokenError → K → Type 0)
    (shown : K → TokenError → List ℕ) (serves : List ℕ → Option Addr) (peer : Addr) (bytes : List ℕ)
    (begun done begun_too done_too : Shown) (old new before after : Around K)
    → begun.left ≡ Some bytes → begun_too.left ≡ Some bytes
    → IsServedBy (IsReplied may_answer shown serves peer) begun done old new Answered
    → IsServedBy (IsReplied may_answer shown serves peer) begun_too done_too before after Answered
    → MeetAlike may_answer shown old new before after
    → EndAlike may_answer shown serves peer begun done begun_too done_too old new before after
one_answer {K} may_answer shown serves peer bytes begun done begun_too done_too old new before after is
    is_too a b
    meet =
    let x = a.serves in
    let y = b.serves in
    let cut = subst (λ o. IfSome o (λ l. TakesCut l done.left x.0)) is x.2 in
    let cut_too = subst (λ o. IfSome o (λ l. TakesCut l done_too.left y.0)) is_too y.2 in
    let taken = same_taken bytes done.left done_too.left x.0 y.0 cut cut_too in
    let z = subst (λ r. IsReplied may_answer shown serves peer r before after (Ok y.1)) (sym taken.0) y.3 in
    let same = one_reply may_answer shown serves peer x.0 x.1 y.1 old new before after x.3 z meet in
    record {
      left = taken.1;
      request = x.0;
      reply = x.1;
      took = x.2;
      took_too = subst (λ q. Took begun_too done_too q) (sym taken.0) y.2;
      replied = x.3;
      replied_too = subst (λ w. IsReplied may_answer shown serves peer x.0 before after (Ok w)) (sym same.0) z;
      written = x.4;
      written_too = subst (λ (w : Response). Added (reply_text w) begun_too.held done_too.held) (sym same.0) y.4;
      did = same.1;
    }
