-- Two connections of build servers that meet the same, step by step.
use Rattle.std.proofs.Common.{◌≡◌, ◌≢◌, ◌⊎◌, ◌<◌, ◌≤◌, ℕ, Bool, List, [], ◌∷◌, ◌++◌, length, append-nil, refl}
use Rattle.std.proofs.Common.{Option, Some, None, Result, Ok, Err, sym, ap, subst, ◌∙◌, inl, inr, arith}
use Rattle.std.specs.Prelude.{IfSome, IfOk, ⊤}
use Rattle.dist_types.specs.Cause.{Rose}
use Rattle.dist_types.specs.Content.{Taken, Added, IsAtEnd}
use Rattle.dist_types.specs.Outgoing.{Peer}
use Rattle.dist_types.specs.declared.dialer.Asked.{Asked}
use Rattle.dist_types.specs.declared.ids.JobId.{JobId}
use Rattle.dist_types.specs.declared.outgoing.CallFault.TheVariants as call
use Rattle.dist_types.specs.declared.results.JobState.TheVariants.{Ready}
use Rattle.dist_types.specs.declared.results.RunJobResult.{RunJobResult}
use Rattle.dist_types.specs.declared.results.SubmitToolchainResult.{SubmitToolchainResult}
use Rattle.dist_types.specs.declared.results.SubmitToolchainResult.TheVariants.{CannotCache}
use Rattle.dist_types.specs.declared.results.UpdateJobStateResult.{UpdateJobStateResult}
use Rattle.dist_types.specs.declared.source.ReadError.{ReadError}
use Rattle.dist_types.specs.declared.source.ReadError.TheVariants as read
use Rattle.dist_types.specs.declared.token_error.TokenError.{TokenError}
use Rattle.folders.specs.Files.{Files}
use Rattle.folders.specs.Held.{Held}
use Rattle.build_server.specs.Books.{Books, held_for, Fails}
use Rattle.build_server.specs.Builds.{Order}
use Rattle.build_server.specs.Rows.{Reading, Ends, Fetches, Submitting, submit_answer}
use Rattle.build_server.specs.Rules.{Update, Assigns, Submits, TellsUpdate, Turns, Comes, submit_verdict}
use Rattle.build_server.specs.Rules.{submit_result, archives_after_submit}
use Rattle.build_server.specs.Rules as server
use Rattle.build_server.specs.declared.fault.ServerFault.{ServerFault}
use Rattle.build_server.specs.declared.fault.ServerFault.TheVariants as fault
use Rattle.build_server.specs.declared.submit.Submitted.{Submitted}
use Rattle.build_server.specs.declared.submit.Submitted.TheVariants as submitted
use Rattle.http_head.specs.declared.request.Request.{Request}
use Rattle.http_routes.specs.Replies.{assign_response, submit_response, run_response}
use Rattle.http_routes.specs.Reply.{reply_text}
use Rattle.http_routes.specs.declared.fault.RouteFault.{RouteFault}
use Rattle.http_routes.specs.declared.reply.Response.{Response}
use Rattle.http_routes.specs.declared.server_route.ServerRouted.{ServerRouted}
use Rattle.http_routes.specs.declared.server_route.ServerRouted.TheVariants as asked
use Rattle.http_connections.specs.Alike.{GrowAlike}
use Rattle.http_connections.specs.Form.{form_of}
use Rattle.http_connections.specs.Served.{Shown, Took, IsServedBy}
use Rattle.http_connections.specs.Taking.{TakesCut}
use Rattle.http_connections.specs.declared.served.Served.TheVariants.{Answered}
use Rattle.http_connections.proofs.AlikeLemmas.{some_same, head_same, same_taken}
use Rattle.server_service.specs.OneAnswer.{KeptAlike, KeepAlike, MeetAlike, DoAlike, EndAlike, RouteAlike}
use Rattle.server_service.specs.Replied.{fault_of, IsTold, Replies, Means, telling, IsAssignedAndTold, IsSubmitted}
use Rattle.server_service.specs.Replied.{order_of, IsRun, IsDone, Routing, Does}
use Rattle.server_service.specs.Replied.{IsReplied}
use Rattle.server_service.specs.Routed.{routed_of, body_of}
use Rattle.server_service.proofs.OneRunLemmas.{turned_by, keep_same, keep_stayed, failed_rose, grow_none}
use Rattle.server_service.proofs.OneRunLemmas.{grow_some, same_first, told_row, same_report, went, same_went}

-- ---- replies

-- want of memory is not told
pub told_some : {X : Type 0} (message : X → Response) (answer : Result X ServerFault) (r : Response)
    → Replies message answer r → answer ≢ Err fault.Memory
told_some message answer r told = λ is. subst (λ a. Replies message a r) is told

one_fault : (f : Option RouteFault) (r s : Response) → IsTold f r → IsTold f s → r ≡ s
one_fault None r s p q = absurd p
one_fault (Some f) r s p q = p ∙ sym q

one_reply : {X : Type 0} (message : X → Response) (answer : Result X ServerFault) (r s : Response)
    → Replies message answer r → Replies message answer s → r ≡ s
one_reply message (Ok x) r s p q = p ∙ sym q
one_reply message (Err e) r s p q = one_fault (fault_of e) r s p q

same_reply : {X : Type 0} (message : X → Response) (a b : Result X ServerFault) (r s : Response) → a ≡ b
    → Replies message a r → Replies message b s → r ≡ s
same_reply message a b r s is p q = one_reply message a r s p (subst (λ x. Replies message x s) (sym is) q)

-- ---- assigning

assigned_once : (job : JobId) (tc : List ℕ) (books a b : Books) (answer : Result _ ServerFault)
    → Assigns job tc books a answer → Assigns job tc books b answer → a ≡ b
assigned_once job tc books a b (Ok x) p q = p.ok ∙ sym q.ok
assigned_once job tc books a b (Err e) p q = p.err ∙ sym q.err

same_assigned : (json : Bool) (job : JobId) (tc : List ℕ) (old new before after : Option Books) (r s : Response)
    → KeptAlike old new before after
    → IsAssignedAndTold json job tc old new (Ok r) → IsAssignedAndTold json job tc before after (Ok s)
    → (r ≡ s) × KeepAlike old new after
same_assigned json job tc old new before after r s k a b =
    let mine = turned_by (λ x y. Assigns job tc x y a.answer) old new k.books k.turned k.old_is k.new_is a.turns in
    let theirs = turned_by (λ x y. Assigns job tc x y b.answer) before after k.books k.other k.before_is k.after_is
    b.turns in
    let same : a.answer ≡ b.answer = mine.answer (told_some (assign_response json) a.answer r a.told)
    ∙ sym (theirs.answer (told_some (assign_response json) b.answer s b.told)) in (
      same_reply (assign_response json) a.answer b.answer r s same a.told b.told,
      keep_same old new before after k (assigned_once job tc k.books k.turned k.other b.answer
          (subst (λ v. Assigns job tc k.books k.turned v) same mine) theirs),
    )

-- ---- submitting

-- how a submission came out, where its folder did not fail or did
abbrev SteadyOrFailed : Submitted → Submitted → Held → Held → Type 0
SteadyOrFailed verdict outcome before a = ((outcome ≡ verdict) × (a.faults ≡ before.faults))
    ⊎ ((submit_result outcome ≡ CannotCache) × Fails before a)

steady_or_failed : (verdict outcome : Submitted) (before a : Held) → Comes verdict outcome before a
    → SteadyOrFailed verdict outcome before a
steady_or_failed verdict submitted.None before a c = inl c
steady_or_failed verdict submitted.Listed before a c = inl c
steady_or_failed verdict (submitted.Stored size dropped) before a c = inl c
steady_or_failed verdict submitted.Digest before a c = inl c
steady_or_failed verdict submitted.Capacity before a c = inl c
steady_or_failed verdict (submitted.Folder dropped) before a c = inr (refl, c.1)

came_once : (verdict o p : Submitted) (before a b : Held) (files : Files) → before.files ≡ Some files
    → before.faults < 18446744073709551615 → a.faults ≡ b.faults
    → SteadyOrFailed verdict o before a → SteadyOrFailed verdict p before b
    → (submit_result o ≡ submit_result p) × (a.faults ≡ before.faults → o ≡ p)
came_once verdict o p before a b files told below same (inl x) (inl y) =
    (ap submit_result (x.0 ∙ sym y.0), λ e. x.0 ∙ sym y.0)
came_once verdict o p before a b files told below same (inr x) (inr y) =
    (x.0 ∙ sym y.0, λ e. absurd (failed_rose before a files told below x.1 e))
came_once verdict o p before a b files told below same (inl x) (inr y) =
    absurd (failed_rose before b files told below y.1 (sym same ∙ x.1))
came_once verdict o p before a b files told below same (inr x) (inl y) =
    absurd (failed_rose before a files told below x.1 (same ∙ y.1))

keep_submitted : (old new before after : Option Books) (k : KeptAlike old new before after) (job : JobId)
    (body : List ℕ) (o p : Submitted)
    → server.IsSubmitted job body k.books k.turned o → server.IsSubmitted job body k.books k.other p
    → (submit_result o ≡ submit_result p) × KeepAlike old new after
keep_submitted old new before after k job body o p a b =
    let verdict = submit_verdict k.books (held_for job k.books.held) body in
    let once = came_once verdict o p k.books.folder k.turned.folder k.other.folder k.files k.told k.counts k.failed
    (steady_or_failed verdict o k.books.folder k.turned.folder a.comes)
    (steady_or_failed verdict p k.books.folder k.other.folder b.comes) in (
      once.0,
      record {
        books = k.books;
        turned = k.turned;
        other = k.other;
        old_is = k.old_is;
        new_is = k.new_is;
        after_is = k.after_is;
        held = a.held ∙ sym b.held;
        capacity = a.place.capacity ∙ sym b.place.capacity;
        path = a.place.path ∙ sym b.place.path;
        archives = λ e. a.archives
            ∙ (ap (λ w. archives_after_submit (held_for job k.books.held) w k.books.archives) (once.1 e)
            ∙ sym b.archives);
      },
    )

-- a submission whose archive was read as a whole ended by what it comes to
ended_ok : (job : JobId) (x : UpdateJobStateResult) (body : List ℕ) (kept turned : Option Books)
    (books later : Books) → kept ≡ Some books → turned ≡ Some later
    → (answer : Result SubmitToolchainResult ServerFault) → answer ≢ Err fault.Memory
    → (ended : Result Submitted ServerFault)
    → Turns (λ old new. Submits job (Ok x) body old new ended) kept turned → TellsUpdate (Ok x) ended
    → answer ≡ submit_answer ended
    → (outcome : Submitted) × (answer ≡ Ok (submit_result outcome))
    × server.IsSubmitted job body books later outcome
ended_ok job x body kept turned books later is is_too answer some (Ok outcome) turns tells gives = (
  outcome,
  gives,
  turned_by (λ old new. Submits job (Ok x) body old new (Ok outcome)) kept turned books later is is_too turns,
)
ended_ok job x body kept turned books later is is_too answer some (Err e) turns tells gives =
    absurd (some (subst (λ f. answer ≡ Err f) tells gives))

whole_body : (bytes body : List ℕ) (left : Option (List ℕ)) → Taken bytes (Some body) left → IsAtEnd left
    → bytes ≡ body
whole_body bytes body None t e = absurd (cc t)
whole_body bytes body (Some []) t e =
    sym (some_same body bytes (t ∙ ap (λ (l : List ℕ). Some l) (append-nil bytes)))
whole_body bytes body (Some (x ∷ xs)) t e = absurd (cc e)

-- a body is an archive, or is longer than one
abbrev Came : JobId → UpdateJobStateResult → List ℕ → Option Books → Option Books
    → Result SubmitToolchainResult ServerFault → Type 0
Came job x body kept turned answer = ((length body ≤ 1073741824) × Ends job (Ok x) body kept turned answer)
    ⊎ ((1073741824 < length body) × (answer ≡ Ok CannotCache) × (turned ≡ kept))

came : (job : JobId) (x : UpdateJobStateResult) (body : List ℕ) (kept turned : Option Books)
    (left : Option (List ℕ)) (answer : Result SubmitToolchainResult ServerFault)
    (fetched : Result (List ℕ) ReadError) → answer ≢ Err fault.Memory
    → Fetches job (Ok x) fetched kept turned (record { left = Some body; faults = 0 })
    (record { left = left; faults = 0 }) answer
    → Came job x body kept turned answer
came job x body kept turned left answer (Ok bytes) some f =
    let is : bytes ≡ body = whole_body bytes body left f.0.all f.0.at_end in
    inl (subst (λ b. length b ≤ 1073741824) is f.0.short, subst (λ b. Ends job (Ok x) b kept turned answer) is f.1)
came job x body kept turned left answer (Err read.Failed) some f =
    let rose : Rose 0 0 = f.0.0 in absurd (omega (arith, rose))
came job x body kept turned left answer (Err read.TooLong) some f = inr (f.0.1, f.0.3, f.1)
came job x body kept turned left answer (Err read.Memory) some f = absurd (some f.0.2)

same_came : (old new before after : Option Books) (k : KeptAlike old new before after) (job : JobId)
    (x : UpdateJobStateResult) (body : List ℕ) (answer other : Result SubmitToolchainResult ServerFault)
    → answer ≢ Err fault.Memory → other ≢ Err fault.Memory
    → Came job x body old new answer → Came job x body before after other
    → (answer ≡ other) × KeepAlike old new after
same_came old new before after k job x body answer other some too (inl a) (inl b) =
    let mine = ended_ok job x body old new k.books k.turned k.old_is k.new_is answer some a.1.ended a.1.turns
    a.1.tells a.1.gives in
    let theirs = ended_ok job x body before after k.books k.other k.before_is k.after_is other too b.1.ended
    b.1.turns b.1.tells b.1.gives in
    let both = keep_submitted old new before after k job body mine.0 theirs.0 mine.2 theirs.2 in
    (mine.1 ∙ (ap (λ w. Ok w) both.0 ∙ sym theirs.1), both.1)
same_came old new before after k job x body answer other some too (inr a) (inr b) =
    (a.1 ∙ sym b.1, keep_stayed old new before after k a.2 b.2)
same_came old new before after k job x body answer other some too (inl a) (inr b) =
    absurd (omega (arith, a.0, b.0))
same_came old new before after k job x body answer other some too (inr a) (inl b) =
    absurd (omega (arith, a.0, b.0))

-- the reader of a body, before and behind
abbrev reader : Option (List ℕ) → Reading
reader left = record { left = left; faults = 0 }

same_submitting : (old new before after : Option Books) (k : KeptAlike old new before after) (job : JobId)
    (body : List ℕ) (left others : Option (List ℕ)) (ready : Update)
    (answer other : Result SubmitToolchainResult ServerFault)
    → answer ≢ Err fault.Memory → other ≢ Err fault.Memory
    → Submitting job ready old new (reader (Some body)) (reader left) answer
    → Submitting job ready before after (reader (Some body)) (reader others) other
    → (answer ≡ other) × KeepAlike old new after
same_submitting old new before after k job body left others (Ok x) answer other some too a b =
    same_came old new before after k job x body answer other some too
    (came job x body old new left answer a.0 some a.1) (came job x body before after others other b.0 too b.1)
same_submitting old new before after k job body left others (Err e) answer other some too a b =
    (a.0 ∙ sym b.0, keep_stayed old new before after k a.1 b.1)

pub ready_some : (job : JobId) (ready : Update) (kept turned : Option Books) (old new : Reading)
    (answer : Result SubmitToolchainResult ServerFault) → Submitting job ready kept turned old new answer
    → answer ≢ Err fault.Memory → ready ≢ Err call.Memory
ready_some job ready kept turned old new answer s some =
    λ is. some (subst (λ u. Submitting job u kept turned old new answer) is s).0

same_submitted : (peer : Peer) (job : JobId) (body : List ℕ) (old new before after : Means)
    (answer other : Result SubmitToolchainResult ServerFault) → MeetAlike old new before after
    → answer ≢ Err fault.Memory → other ≢ Err fault.Memory
    → IsSubmitted peer job body old.kept new.kept old.dialing new.dialing answer
    → IsSubmitted peer job body before.kept after.kept before.dialing after.dialing other
    → (answer ≡ other) × KeepAlike old.kept new.kept after.kept
    × GrowAlike old.dialing.asked new.dialing.asked before.dialing.asked after.dialing.asked
same_submitted peer job body old new before after answer other meet some too a b =
    let h = meet.heard in
    let p = a.submitted in
    let q = b.submitted in
    let heard : p.ready ≢ Err call.Memory = ready_some job p.ready old.kept new.kept (reader (Some body))
    (reader a.left) answer p.submitting some in
    let heard_too : q.ready ≢ Err call.Memory = ready_some job q.ready before.kept after.kept (reader (Some body))
    (reader b.left) other q.submitting too in
    let x = told_row peer job Ready p.ready (telling a.name peer old.dialing) (telling a.name peer new.dialing)
    h.first p.reported heard refl h.old_is in
    let y = told_row peer job Ready q.ready (telling b.name peer before.dialing)
    (telling b.name peer after.dialing) h.other q.reported heard_too refl h.before_is in
    let answers = same_first (λ (r : Asked). r.answer) old.dialing.asked new.dialing.asked before.dialing.asked
    after.dialing.asked h (x.0 ∷ []) (y.0 ∷ []) x.1 y.1 in
    let report = same_report peer job Ready p.ready q.ready x.0 y.0 heard heard_too x.2 y.2
    (head_same _ _ _ _ answers) in
    let ends = same_submitting old.kept new.kept before.kept after.kept meet.kept job body a.left b.left p.ready
    answer other some too p.submitting
    (subst (λ u. Submitting job u before.kept after.kept (reader (Some body)) (reader b.left) other)
    (sym report.0) q.submitting) in (
      ends.0,
      ends.1,
      grow_some old.dialing.asked new.dialing.asked before.dialing.asked after.dialing.asked h.first h.other
          (x.0 ∷ []) h.old_is x.1 h.before_is
          (y.1 ∙ ap (λ (r : Asked). Some (h.other ++ r ∷ [])) (sym report.1)),
    )

-- ---- running

same_run : (peer : Peer) (job : JobId) (order : Order) (old new before after : Means)
    (answer other : Result RunJobResult ServerFault) → MeetAlike old new before after
    → answer ≢ Err fault.Memory → other ≢ Err fault.Memory
    → IsRun peer job order old new answer → IsRun peer job order before after other
    → (answer ≡ other) × KeepAlike old.kept new.kept after.kept
    × GrowAlike old.dialing.asked new.dialing.asked before.dialing.asked after.dialing.asked
    × GrowAlike old.builder.rows new.builder.rows before.builder.rows after.builder.rows
same_run peer job order old new before after answer other meet some too a b =
    let k = meet.kept in
    let h = meet.heard in
    same_went peer job order old.kept new.kept before.kept after.kept k old.builder new.builder before.builder
    after.builder meet.built old.dialing.asked new.dialing.asked before.dialing.asked after.dialing.asked h answer
    other
    (went peer job order old.kept new.kept k.books k.turned old.builder new.builder h.first
    (telling a.name peer old.dialing) (telling a.name peer new.dialing) answer k.old_is k.new_is some refl h.old_is
    a.ran)
    (went peer job order before.kept after.kept k.books k.other before.builder after.builder h.other
    (telling b.name peer before.dialing) (telling b.name peer after.dialing) other k.before_is k.after_is too refl
    h.before_is b.ran)

-- ---- what is asked

abbrev SameEnd : Means → Means → Means → Means → Response → Response → Type 0
SameEnd old new before after r s = (r ≡ s) × KeepAlike old.kept new.kept after.kept
    × GrowAlike old.dialing.asked new.dialing.asked before.dialing.asked after.dialing.asked
    × GrowAlike old.builder.rows new.builder.rows before.builder.rows after.builder.rows

ok_same : {E : Type 0} (x y : Response) → ◌≡◌ {A = Result Response E} (Ok x) (Ok y) → x ≡ y
ok_same x y is = cc is

none_asked : (old new before after : Means) → new.dialing ≡ old.dialing → after.dialing ≡ before.dialing
    → GrowAlike old.dialing.asked new.dialing.asked before.dialing.asked after.dialing.asked
none_asked old new before after a b = grow_none old.dialing.asked new.dialing.asked before.dialing.asked
    after.dialing.asked (ap (λ d. d.asked) a) (ap (λ d. d.asked) b)

none_built : (old new before after : Means) → new.builder ≡ old.builder → after.builder ≡ before.builder
    → GrowAlike old.builder.rows new.builder.rows before.builder.rows after.builder.rows
none_built old new before after a b = grow_none old.builder.rows new.builder.rows before.builder.rows
    after.builder.rows (ap (λ d. d.rows) a) (ap (λ d. d.rows) b)

same_done : (peer : Peer) (json : Bool) (body : List ℕ) (what : ServerRouted) (old new before after : Means)
    (r s : Response) → MeetAlike old new before after
    → IsDone peer json body what old new (Ok r) → IsDone peer json body what before after (Ok s)
    → SameEnd old new before after r s
same_done peer json body (asked.Assign job tc) old new before after r s meet a b =
    let ends = same_assigned json job tc old.kept new.kept before.kept after.kept r s meet.kept a.0 b.0 in
    (ends.0, ends.1, none_asked old new before after a.1 b.1, none_built old new before after a.2 b.2)
same_done peer json body (asked.Submit job) old new before after r s meet a b =
    let message = submit_response json in
    let ends = same_submitted peer job body old new before after a.0.answer b.0.answer meet
    (told_some message a.0.answer r a.0.told) (told_some message b.0.answer s b.0.told) a.0.submitted
    b.0.submitted in (
      same_reply message a.0.answer b.0.answer r s ends.0 a.0.told b.0.told,
      ends.1,
      ends.2,
      none_built old new before after a.1 b.1,
    )
same_done peer json body (asked.Run job run at) old new before after r s meet a b =
    let message = run_response json in
    let ends = same_run peer job (order_of run body at) old new before after a.answer b.answer meet
    (told_some message a.answer r a.told) (told_some message b.answer s b.told) a.ran b.ran in
    (same_reply message a.answer b.answer r s ends.0 a.told b.told, ends.1, ends.2, ends.3)
same_done peer json body (asked.Done response) old new before after r s meet a b = (
  ok_same r s (a.0 ∙ sym b.0),
  keep_stayed old.kept new.kept before.kept after.kept meet.kept (ap (λ (m : Means). m.kept) a.1)
      (ap (λ (m : Means). m.kept) b.1),
  none_asked old new before after (ap (λ (m : Means). m.dialing) a.1) (ap (λ (m : Means). m.dialing) b.1),
  none_built old new before after (ap (λ (m : Means). m.builder) a.1) (ap (λ (m : Means). m.builder) b.1),
)

same_replied : (verdict : ℕ → List ℕ → Result ⊤ TokenError) (peer : Peer) (request : Option Request)
    (old new before after : Means) (r s : Response) (routing other : Routing) → MeetAlike old new before after
    → IfOk routing (λ routed. routed ≡ routed_of verdict request)
    → IfOk other (λ routed. routed ≡ routed_of verdict request)
    → Does peer (form_of request) (body_of request) routing old new (Ok r)
    → Does peer (form_of request) (body_of request) other before after (Ok s)
    → SameEnd old new before after r s
same_replied verdict peer request old new before after r s (Err e) other meet routes routes_too did did_too =
    absurd (cc did.0)
same_replied verdict peer request old new before after r s (Ok what) (Err e) meet routes routes_too did did_too =
    absurd (cc did_too.0)
same_replied verdict peer request old new before after r s (Ok what) (Ok other) meet routes routes_too did
    did_too =
    same_done peer (form_of request) (body_of request) what old new before after r s meet did
    (subst (λ w. IsDone peer (form_of request) (body_of request) w before after (Ok s)) (routes_too ∙ sym routes)
    did_too)

pub one_done : (verdict : ℕ → List ℕ → Result ⊤ TokenError) (peer : Peer) (request : Option Request)
    (r s : Response) (old new before after : Means)
    → IsReplied verdict peer request old new (Ok r) → IsReplied verdict peer request before after (Ok s)
    → MeetAlike old new before after
    → (r ≡ s) × DoAlike old new before after
one_done verdict peer request r s old new before after a b meet =
    let same = same_replied verdict peer request old new before after r s a.routing b.routing meet a.routes b.routes
    a.done b.done in
    (same.0, record { kept = same.1; asked = same.2; built = same.3 })

-- ---- a whole connection

pub one_answer : (verdict : ℕ → List ℕ → Result ⊤ TokenError) (peer : Peer) (bytes : List ℕ)
    (begun done begun_too done_too : Shown) (old new before after : Means)
    → begun.left ≡ Some bytes → begun_too.left ≡ Some bytes
    → IsServedBy (IsReplied verdict peer) begun done old new Answered
    → IsServedBy (IsReplied verdict peer) begun_too done_too before after Answered
    → MeetAlike old new before after
    → EndAlike (IsReplied verdict peer) begun done begun_too done_too old new before after
one_answer verdict peer bytes begun done begun_too done_too old new before after is is_too a b meet =
    let x = a.serves in
    let y = b.serves in
    let cut = subst (λ o. IfSome o (λ l. TakesCut l done.left x.0)) is x.2 in
    let cut_too = subst (λ o. IfSome o (λ l. TakesCut l done_too.left y.0)) is_too y.2 in
    let taken = same_taken bytes done.left done_too.left x.0 y.0 cut cut_too in
    let z = subst (λ q. IsReplied verdict peer q before after (Ok y.1)) (sym taken.0) y.3 in
    let same = one_done verdict peer x.0 x.1 y.1 old new before after x.3 z meet in
    record {
      left = taken.1;
      request = x.0;
      reply = x.1;
      took = x.2;
      took_too = subst (λ q. Took begun_too done_too q) (sym taken.0) y.2;
      replied = x.3;
      replied_too = subst (λ w. IsReplied verdict peer x.0 before after (Ok w)) (sym same.0) z;
      written = x.4;
      written_too = subst (λ w. Added (reply_text w) begun_too.held done_too.held) (sym same.0) y.4;
      did = same.1;
    }

-- what a route answers is the reply, and changes nothing
settled_does : (verdict : ℕ → List ℕ → Result ⊤ TokenError) (peer : Peer) (request : Option Request)
    (reply r : Response) (old new : Means) (routing : Routing) → routed_of verdict request ≡ asked.Done reply
    → IfOk routing (λ routed. routed ≡ routed_of verdict request)
    → Does peer (form_of request) (body_of request) routing old new (Ok r) → (r ≡ reply) × (new ≡ old)
settled_does verdict peer request reply r old new (Err e) is routes did = absurd (cc did.0)
settled_does verdict peer request reply r old new (Ok what) is routes did =
    let x = subst (λ w. IsDone peer (form_of request) (body_of request) w old new (Ok r)) (routes ∙ is) did in
    (ok_same r reply x.0, x.1)

pub settled : (verdict : ℕ → List ℕ → Result ⊤ TokenError) (peer : Peer) (request : Option Request)
    (reply r : Response) (old new : Means) → routed_of verdict request ≡ asked.Done reply
    → IsReplied verdict peer request old new (Ok r) → (r ≡ reply) × (new ≡ old)
settled verdict peer request reply r old new is a =
    settled_does verdict peer request reply r old new a.routing is a.routes a.done

pub one_route : (verdict : ℕ → List ℕ → Result ⊤ TokenError) (peer : Peer) (bytes : List ℕ)
    (begun done begun_too done_too : Shown) (old new before after : Means)
    → begun.left ≡ Some bytes → begun_too.left ≡ Some bytes
    → IsServedBy (IsReplied verdict peer) begun done old new Answered
    → IsServedBy (IsReplied verdict peer) begun_too done_too before after Answered
    → RouteAlike verdict begun done begun_too done_too old new before after
one_route verdict peer bytes begun done begun_too done_too old new before after is is_too a b =
    let x = a.serves in
    let y = b.serves in
    let cut = subst (λ o. IfSome o (λ l. TakesCut l done.left x.0)) is x.2 in
    let cut_too = subst (λ o. IfSome o (λ l. TakesCut l done_too.left y.0)) is_too y.2 in
    let taken = same_taken bytes done.left done_too.left x.0 y.0 cut cut_too in
    let z = subst (λ q. IsReplied verdict peer q before after (Ok y.1)) (sym taken.0) y.3 in
    record {
      left = taken.1;
      request = x.0;
      took = x.2;
      took_too = subst (λ q. Took begun_too done_too q) (sym taken.0) y.2;
      settled = λ reply route.
          let mine = settled verdict peer x.0 reply x.1 old new route x.3 in
          let theirs = settled verdict peer x.0 reply y.1 before after route z in
          record {
            written = subst (λ w. Added (reply_text w) begun.held done.held) mine.0 x.4;
            written_too = subst (λ w. Added (reply_text w) begun_too.held done_too.held) theirs.0 y.4;
            stays = mine.1;
            stays_too = theirs.1;
          };
    }
