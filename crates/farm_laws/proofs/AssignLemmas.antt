-- A call that asks a server to take a job: the scheduler has no route for it, a build server takes it for that
-- and nothing else, and a 200 to it is an assignment.
use Rattle.std.proofs.Common.{◌≡◌, ◌⊎◌, inl, inr, ℕ, ◌+◌, ◌-◌, ◌<◌, ◌≤◌, ◌^◌, ◌%◌, ◌==◌, not}
use Rattle.std.proofs.Common.{nat_lt, Bool, true, false, cond, List, [], ◌∷◌, ◌++◌, length, map, codes}
use Rattle.std.proofs.Common.{decimal, Option, Some, None, Result, Ok, Err, refl, ap, ◌∙◌, sym, subst}
use Rattle.std.proofs.Common.{append-nil, arith, length-append}
use Rattle.std.specs.Prelude.{⊤}
use Rattle.std.specs.Int.{w64}
use Rattle.std.specs.Char.{is_ascii_digit, is_ascii_hexdigit, to_ascii_lowercase}
use Rattle.std.specs.List.{list_all}
use Rattle.std.specs.Option.{option_map}
use Rattle.std.proofs.lemmas.Bool.{eqb-true}
use Rattle.std.proofs.lemmas.Bool.Decides.{nat_tests}
use Rattle.std.proofs.lemmas.Fmt.{digits_decimal, length-decimal-le, IsAscii-from_digits}
use Rattle.std.proofs.lemmas.List.{length-map}
use Rattle.std.proofs.lemmas.Option.{same_Some}
use Rattle.std.proofs.lemmas.Str.{IsUtf8-append, IsUtf8-from_ascii}
use Rattle.base64.specs.GeneralPurpose.{IsBytes}
use Rattle.dist_types.specs.Addr.{IsAddr, addr_text}
use Rattle.dist_types.specs.Toolchain.{is_digest, digest_in}
use Rattle.dist_types.specs.declared.addr.Addr.{Addr}
use Rattle.dist_types.specs.declared.ids.JobId.{JobId}
use Rattle.dist_types.specs.declared.results.AssignJobResult.{AssignJobResult}
use Rattle.dist_types.specs.declared.results.JobState.TheVariants.{Pending, Ready}
use Rattle.dist_types.specs.declared.rules.Rules.{Rules}
use Rattle.dist_types.specs.declared.rules.Rules.TheVariants.{One, Two}
use Rattle.dist_types.specs.declared.token_error.TokenError.{TokenError}
use Rattle.dist_types.specs.declared.token_error.TokenError.TheVariants as why
use Rattle.dist_types.proofs.AddrLemmas.{bind_some}
use Rattle.dist_token.specs.Token.{token_text, job_claims_text}
use Rattle.dist_wire.specs.CodecLaws.{wide32, wide64}
use Rattle.dist_wire.specs.MessageLaws.{assign_codec, toolchain_codec}
use Rattle.dist_wire.specs.Numbers.{number_text}
use Rattle.dist_wire.specs.Reading.{text_at, toolchain_at, heartbeat_at, state_at, drain_at, assign_at}
use Rattle.dist_wire.specs.Reading.{meant_at}
use Rattle.dist_wire.specs.Spelling.{SpellsToolchain, SpellsAssign}
use Rattle.dist_wire.specs.Written.{bytes_text, state_bytes, flag_text, assign_text}
use Rattle.core_rules.specs.Log.{Core}
use Rattle.core_rules.specs.Pick.{forgiven as pardoned}
use Rattle.core_rules.specs.Rule.{reserved_at}
use Rattle.core_rules.specs.Standing.{address_of, key_at}
use Rattle.core_rules.specs.Ticket.{Ticket}
use Rattle.core_rules.specs.declared.entry.CoreEntry.{CoreEntry}
use Rattle.core_rules.specs.declared.entry.CoreKind.{CoreKind}
use Rattle.core_rules.specs.declared.entry.CoreKind.TheVariants as core
use Rattle.core_rules.specs.declared.entry.Reserved.TheVariants.{Job, NoRoom, Spent}
use Rattle.core_rules.specs.declared.rows.ServerRow.{ServerRow}
use Rattle.core_rules.proofs.AllLemmas.{and_left}
use Rattle.build_server.specs.Rules.{need_by}
use Rattle.build_server.specs.declared.fault.ServerFault.TheVariants as refusal
use Rattle.http_head.specs.Fields.{header, path_of}
use Rattle.http_head.specs.Head.{IsRequest, IsReply}
use Rattle.http_head.specs.WrittenRequest.{is_visible, IsToken}
use Rattle.http_head.specs.declared.error.HttpError.TheVariants.{ParseError}
use Rattle.http_head.specs.declared.reply.Reply.{Reply}
use Rattle.http_head.specs.declared.request.Request.{Request}
use Rattle.http_head.proofs.FieldLemmas.{digits}
use Rattle.http_head.proofs.HeadLemmas.{one_request}
use Rattle.http_head.proofs.LineLemmas.{weaker}
use Rattle.http_head.proofs.ReplyLemmas.{one_reply}
use Rattle.http_head.proofs.WrittenRequestLemmas.{ascii_text, requests_read_back}
use Rattle.http_routes.specs.Admission.{equal_admission}
use Rattle.http_routes.specs.CallReply.{told_by, assigned_by, IsAssigned}
use Rattle.http_routes.specs.ErrJson.{err_text}
use Rattle.http_routes.specs.Fault.{fault_text, fault_response_of}
use Rattle.http_routes.specs.Message.{begins_in, is_binary, message_in}
use Rattle.http_routes.specs.Place.{at_drain, state_job, assign_job, job_of, of_job, is_at}
use Rattle.http_routes.specs.ReadBack.{code_of, seen}
use Rattle.http_routes.specs.Refusal.{jwt_text, refusal_response}
use Rattle.http_routes.specs.Replies.{assign_response}
use Rattle.http_routes.specs.Reply.{body_of, reply_text}
use Rattle.http_routes.specs.Requests.{post_with, assign_with}
use Rattle.http_routes.specs.Route.{wants_json, alloc_of, beat_of, drain_of, update_of, report_of, asked_of}
use Rattle.http_routes.specs.Route.{answered, said_by}
use Rattle.http_routes.specs.Sender.{client_test, server_of, job_test}
use Rattle.http_routes.specs.ServerRoute.{assign_of, server_asked_of, server_answered, IsServerAsked}
use Rattle.http_routes.specs.Steps.{unless_none}
use Rattle.http_routes.specs.declared.admission.Admission.{Admission}
use Rattle.http_routes.specs.declared.fault.RouteFault.TheVariants.{AlreadyAssigned}
use Rattle.http_routes.specs.declared.refusal.Refusal.{Refusal}
use Rattle.http_routes.specs.declared.refusal.Refusal.TheVariants.{BadHead, WrongContentType, NoMessage}
use Rattle.http_routes.specs.declared.refusal.Refusal.TheVariants.{BadRealIp, NoRoute, NoClientToken}
use Rattle.http_routes.specs.declared.refusal.Refusal.TheVariants.{ClientRefused, NoServer, OtherAddress}
use Rattle.http_routes.specs.declared.refusal.Refusal.TheVariants.{NoJobToken, JobRefused, BadRunHead}
use Rattle.http_routes.specs.declared.reply.Response.{Response}
use Rattle.http_routes.specs.declared.reply.Response.TheVariants.{Binary}
use Rattle.http_routes.specs.declared.route.Asked.{Asked}
use Rattle.http_routes.specs.declared.route.SchedRouted.{SchedRouted}
use Rattle.http_routes.specs.declared.route.SchedRouted.TheVariants as asked
use Rattle.http_routes.specs.declared.server_route.ServerAsked.{ServerAsked}
use Rattle.http_routes.specs.declared.server_route.ServerRouted.{ServerRouted}
use Rattle.http_routes.specs.declared.server_route.ServerRouted.TheVariants as server_asked
use Rattle.http_routes.proofs.BackLemmas.{read_back}
use Rattle.http_routes.proofs.PlaceLemmas.{no_query, written_job}
use Rattle.http_routes.proofs.RefusedLemmas.{message_refused}
use Rattle.http_routes.proofs.SenderLemmas.{job_refused as job_not_shown}
use Rattle.http_routes.proofs.StepLemmas.{from_none, two, two_ok}
use Rattle.http_routes.proofs.ToldLemmas.{addr_visible}
use Rattle.farm_entries.specs.declared.site.Site.{Site as Setup}
use Rattle.farm_entries.specs.declared.entry.Reply.{Reply as EntryReply}
use Rattle.farm_entries.specs.Answers.{assign_call, alloc_effect, Asks}
use Rattle.farm_entries.specs.Seen.{serves}
use Rattle.farm_entries.specs.Served.{assigned}
use Rattle.farm_entries.specs.Tickets.{ticket_by}
use Rattle.farm_laws.proofs.BuildLemmas.{mapped}
use Rattle.farm_laws.proofs.ReportLemmas.{posted_limits, one_text_short}
use Rattle.farm_laws.proofs.ShownLemmas.{graphic_token, signed_some, low_bytes, all_append, token_graphic}
use Rattle.farm_laws.proofs.ShownLemmas.{token_short}
use Rattle.farm_laws.proofs.TextLemmas.{addr_short, escape_short}

-- ---- the toolchain that was asked for is a digest

digest_long : (text tc : List ℕ) → digest_in text ≡ Some tc → length tc ≡ 64
unfolding digest_in
digest_long text tc e = by_test (is_digest text) refl e
  where
    by_test : (b : Bool) → is_digest text ≡ b → cond b (Some (map to_ascii_lowercase text)) None ≡ Some tc
        → length tc ≡ 64
    by_test true on h =
        let long : length text ≡ 64 = eqb-true (length text) 64
        (and_left (length text == 64) (list_all is_ascii_hexdigit text) on) in
        ap length (sym (same_Some (map to_ascii_lowercase text) tc h)) ∙ length-map text to_ascii_lowercase
        ∙ long
    by_test false on h = absurd cc

toolchain_long : (body tc : List ℕ) → begins_in toolchain_at body ≡ Some tc → length tc ≡ 64
unfolding toolchain_at
toolchain_long body tc e =
    let m = mapped (λ (p : List ℕ × List ℕ). p.0) (meant_at digest_in text_at body) tc e in
    let a = bind_some (text_at body) _ m.0 m.1 in
    let b = bind_some (digest_in a.0.0) _ m.0 a.2 in
    let same : b.0 ≡ tc = ap (λ (p : List ℕ × List ℕ). p.0) (same_Some (b.0, a.0.1) m.0 b.2) ∙ m.2 in
    digest_long a.0.0 tc (b.1 ∙ ap (λ (d : List ℕ). Some d) same)

message_long : (r : Request) (tc : List ℕ) → message_in toolchain_at r ≡ Ok tc → length tc ≡ 64
unfolding message_in
message_long r tc e = by_test (is_binary (header (codes "content-type") r.headers)) e
  where
    by_test : (b : Bool)
        → cond b (unless_none NoMessage (begins_in toolchain_at r.body)) (Err WrongContentType) ≡ Ok tc
        → length tc ≡ 64
    by_test true h = toolchain_long r.body tc (from_none NoMessage (begins_in toolchain_at r.body) tc h)
    by_test false h = absurd cc

module _ (rules : Rules) (serves_by : List ℕ → Option Addr) (r : Request) (peer : Addr)
    (said : Option Admission) (tc : List ℕ) where
  by_alloc : alloc_of r said ≡ Ok (asked.Alloc tc) → length tc ≡ 64
  unfolding alloc_of
  by_alloc e =
      let p = two_ok (client_test said) (message_in toolchain_at r) (λ u d. asked.Alloc d) (asked.Alloc tc) e
      in
      let same : asked.Alloc p.1 ≡ asked.Alloc tc = p.4 in
      let one : p.1 ≡ tc = cc in
      message_long r tc (p.3 ∙ ap Ok one)

  by_beat : beat_of serves_by r peer ≡ Ok (asked.Alloc tc) → ⊥
  unfolding beat_of
  by_beat e =
      let p = two_ok (server_of serves_by r peer) (message_in heartbeat_at r) asked.Beat (asked.Alloc tc) e in
      let no : asked.Beat p.0 p.1 ≡ asked.Alloc tc = p.4 in
      cc

  by_drain : drain_of serves_by r peer ≡ Ok (asked.Alloc tc) → ⊥
  unfolding drain_of
  by_drain e =
      let p = two_ok (server_of serves_by r peer) (message_in drain_at r) asked.Drain (asked.Alloc tc) e in
      let no : asked.Drain p.0 p.1 ≡ asked.Alloc tc = p.4 in
      cc

  by_update : (job : JobId) → update_of serves_by r peer job ≡ Ok (asked.Alloc tc) → ⊥
  unfolding update_of
  by_update job e =
      let p = two_ok (server_of serves_by r peer) (message_in state_at r) (λ s m. asked.Update s job m)
      (asked.Alloc tc) e in
      let no : asked.Update p.0 job p.1 ≡ asked.Alloc tc = p.4 in
      cc

  asked_long : asked_of rules serves_by r peer said ≡ Ok (asked.Alloc tc) → length tc ≡ 64
  unfolding asked_of report_of
  asked_long e =
      by_tests (is_at (codes "POST") (codes "/api/v1/scheduler/alloc_job") r)
      (is_at (codes "POST") (codes "/api/v1/scheduler/heartbeat_server") r)
      (is_at (codes "GET") (codes "/api/v1/scheduler/status") r) (at_drain rules r) (state_job r) e
    where
      by_tests : (a b s d : Bool) (j : Option JobId)
          → cond a (alloc_of r said)
          (cond b (beat_of serves_by r peer)
          (cond s (Ok asked.Status)
          (cond d (drain_of serves_by r peer) (of_job (update_of serves_by r peer) (Err NoRoute) j)))) ≡ Ok
          (asked.Alloc tc)
          → length tc ≡ 64
      by_tests true b s d j h = by_alloc h
      by_tests false true s d j h = absurd (by_beat h)
      by_tests false false true d j h = absurd cc
      by_tests false false false true j h = absurd (by_drain h)
      by_tests false false false false None h = absurd cc
      by_tests false false false false (Some job) h = absurd (by_update job h)

-- the toolchain of a request for a job
pub asks_long : (setup : Setup) (peer : Addr) (bytes tc : List ℕ) (json : Bool)
    → Asks setup peer bytes (record { what = asked.Alloc tc; json = json }) → length tc ≡ 64
asks_long setup peer bytes tc json (inr (none, e)) =
    let no = ap (λ (c : Asked). c.what) e in
    absurd cc
asks_long setup peer bytes tc json (inl (r, is, e)) =
    let said = said_by (equal_admission setup.scheduler.client) r in
    asked_long setup.rules (serves setup.scheduler.auth) r peer said tc
    (by_result (asked_of setup.rules (serves setup.scheduler.auth) r peer said)
    (ap (λ (c : Asked). c.what) e))
  where
    by_result : (y : Result SchedRouted Refusal) → asked.Alloc tc ≡ answered y → y ≡ Ok (asked.Alloc tc)
    by_result (Ok y) h = ap Ok (sym h)
    by_result (Err d) h = absurd cc

-- ---- the reservation

-- its token is one for the job
pub ticket_token : (log : List CoreEntry) (k : CoreKind) (t : Ticket) → ticket_by log k ≡ Some t
    → (key : List ℕ) × (t.auth ≡ token_text key (job_claims_text t.job.0))
ticket_token log (core.Reserve (Job job reg forgiven)) t e =
    let a = bind_some (address_of log reg) _ t e in
    let b = bind_some (key_at log reg) _ t a.2 in
    let same = same_Some _ t b.2 in (
      b.0,
      sym (ap (λ (u : Ticket). u.auth) same)
          ∙ ap (λ (u : Ticket). token_text b.0 (job_claims_text u.job.0)) same,
    )
ticket_token log (core.Reserve (NoRoom standing)) t e = absurd cc
ticket_token log (core.Reserve Spent) t e = absurd cc
ticket_token log (core.Commit job state kept) t e = absurd cc
ticket_token log (core.Undo job noted ended) t e = absurd cc
ticket_token log (core.Beat server nonce cpus key pruned reaped replaced is_new) t e = absurd cc
ticket_token log (core.Update server job state given) t e = absurd cc
ticket_token log (core.Status pruned servers cpus jobs) t e = absurd cc
ticket_token log (core.Drain addr nonce on named) t e = absurd cc

-- its job's number has 64 bits
pub ticket_fits : (log : List CoreEntry) (o : Option ServerRow) (rows : List ServerRow) (now base given : ℕ)
    (t : Ticket) → ticket_by log (core.Reserve (reserved_at o rows now base given)) ≡ Some t
    → t.job.0 < 2 ^ 64
ticket_fits log None rows now base given t e = absurd cc
ticket_fits log (Some row) rows now base given t e = by_test (given == 2 ^ 64 - 1) e
  where
    by_test : (b : Bool)
        → ticket_by log (core.Reserve (cond b Spent
        (Job (record { 0 = (base + given) % 2 ^ 64 }) row.reg (pardoned now rows)))) ≡ Some t
        → t.job.0 < 2 ^ 64
    by_test true h = absurd cc
    by_test false h =
        let a = bind_some (address_of log row.reg) _ t h in
        let b = bind_some (key_at log row.reg) _ t a.2 in
        let id : (base + given) % 2 ^ 64 ≡ t.job.0 = ap (λ (u : Ticket). u.job.0) (same_Some _ t b.2) in
        omega (arith, id)

-- the call that asks its server
pub alloc_calls : (s : Core) (number : ℕ) (json : Bool) (tc : List ℕ) (made : CoreEntry) (k : CoreKind)
    (t : Ticket) → ticket_by s.log k ≡ Some t
    → (alloc_effect s number json tc made k).call ≡ Some (assign_call tc t)
alloc_calls s number json tc made (core.Reserve (Job job reg forgiven)) t e =
    ap (option_map (assign_call tc)) e
alloc_calls s number json tc made (core.Reserve (NoRoom standing)) t e = absurd cc
alloc_calls s number json tc made (core.Reserve Spent) t e = absurd cc
alloc_calls s number json tc made (core.Commit job state kept) t e = absurd cc
alloc_calls s number json tc made (core.Undo job noted ended) t e = absurd cc
alloc_calls s number json tc made (core.Beat server nonce cpus key pruned reaped replaced is_new) t e =
    absurd cc
alloc_calls s number json tc made (core.Update server job state given) t e = absurd cc
alloc_calls s number json tc made (core.Status pruned servers cpus jobs) t e = absurd cc
alloc_calls s number json tc made (core.Drain addr nonce on named) t e = absurd cc

-- ---- the request is read back

abbrev front : List ℕ
front = codes "/api/v1/distserver/assign_job/"

digit_visible : (b : ℕ) → is_ascii_digit b ≡ true → is_visible b ≡ true
digit_visible b h = grind (arith, nat_tests)

digit_no_question : (b : ℕ) → is_ascii_digit b ≡ true → not (b == 63) ≡ true
digit_no_question b h = grind (arith, nat_tests)

digit_small : (b : ℕ) → is_ascii_digit b ≡ true → nat_lt b 128 ≡ true
digit_small b h = grind (arith, nat_tests)

claims_bytes : (id : ℕ) → id < 2 ^ 64 → IsBytes (job_claims_text id)
claims_bytes id fits =
    low_bytes (job_claims_text id)
    (all_append (λ b. nat_lt b 128) (codes "{\"exp\":0,\"job_id\":") (decimal id ++ codes "}") refl
    (all_append (λ b. nat_lt b 128) (decimal id) (codes "}")
    (weaker is_ascii_digit (λ b. nat_lt b 128) digit_small (decimal id) (digits_decimal digits id fits)) refl))

id_short : (id : ℕ) → id < 2 ^ 64 → length (decimal id) ≤ 20
id_short id fits = length-decimal-le 20 id (omega arith) (omega (arith, fits)) (omega (arith, fits))

claims_short : (id : ℕ) → id < 2 ^ 64 → length (job_claims_text id) ≤ 430
claims_short id fits =
    let short = id_short id fits in
    simp length-append (omega (arith, short))

-- what a reader sees of the call
pub record IsRead (tc : List ℕ) (t : Ticket) (r : Request) : Type 0 where
  pub is : IsRequest (assign_call tc t).bytes r
  pub posts : r.method ≡ codes "POST"
  pub path : path_of r.target ≡ front ++ decimal t.job.0
  pub binary : wants_json r ≡ false

pub assign_read : (tc : List ℕ) (t : Ticket) (key : List ℕ) → length tc ≡ 64 → IsAddr t.server
    → t.job.0 < 2 ^ 64 → t.auth ≡ token_text key (job_claims_text t.job.0) → (r : Request) × IsRead tc t r
unfolding assign_with wants_json
assign_read tc t key long is fits auth =
    let all = digits_decimal digits t.job.0 fits in
    let target = front ++ decimal t.job.0 in
    let total = length-append front (decimal t.job.0) in
    let id = id_short t.job.0 fits in
    let plain : list_all (λ b. not (b == 63)) target ≡ true =
    weaker is_ascii_digit (λ b. not (b == 63)) digit_no_question (decimal t.job.0) all in
    let claims = job_claims_text t.job.0 in
    let token : List ℕ = token_text key claims in
    let body_long = length-append (number_text w64 (length tc)) tc in
    let (r, x, c) = requests_read_back (post_with target (addr_text t.server) t.auth (bytes_text tc)) record {
      some_target = omega (arith, total);
      target_text = IsUtf8-append front (decimal t.job.0) (ascii_text front refl)
          (IsUtf8-from_ascii (decimal t.job.0)
          (IsAscii-from_digits (decimal t.job.0) (digits.to (decimal t.job.0) all)));
      target = weaker is_ascii_digit is_visible digit_visible (decimal t.job.0) all;
      host = addr_visible t.server is;
      token = subst IsToken (sym auth)
          (graphic_token token (signed_some key claims)
          (token_graphic key claims (claims_bytes t.job.0 fits)));
      plain = tt {0};
      limits = posted_limits target (addr_text t.server) t.auth (bytes_text tc) (omega (arith, total, id))
          (addr_short t.server is) (subst (λ (a : List ℕ). length a ≤ 2000) (sym auth)
          (token_short key claims (claims_short t.job.0 fits)))
          (omega (arith, body_long, long, wide64.len (length tc)));
    } in (
      r,
      record {
        is = x;
        posts = c.method;
        path = ap path_of c.target ∙ no_query target plain;
        binary = rw c.no_accept refl;
      },
    )

-- ---- at the scheduler

no_route : (rules : Rules) (serves_by : List ℕ → Option Addr) (r : Request) (peer : Addr)
    (said : Option Admission) (more : List ℕ) → r.method ≡ codes "POST" → path_of r.target ≡ front ++ more
    → asked_of rules serves_by r peer said ≡ Err NoRoute
unfolding asked_of report_of is_at at_drain state_job job_of
no_route One serves_by r peer said more posts path = rw (posts, path) refl
no_route Two serves_by r peer said more posts path = rw (posts, path) refl

-- it is at no route
pub at_no_route : (setup : Setup) (tc : List ℕ) (t : Ticket) (r : Request) (peer : Addr) (a : Asked)
    → IsRead tc t r → Asks setup peer (assign_call tc t).bytes a
    → a.what ≡ asked.Done (refusal_response NoRoute)
at_no_route setup tc t r peer a read (inr (none, e)) = absurd (none r read.is)
at_no_route setup tc t r peer a read (inl (q, x, e)) =
    let one : q ≡ r = one_request (assign_call tc t).bytes q r x read.is in
    let said = said_by (equal_admission setup.scheduler.client) r in
    ap (λ (c : Asked). c.what) e
    ∙ ap (λ (p : Request). answered (asked_of setup.rules (serves setup.scheduler.auth) p peer
    (said_by (equal_admission setup.scheduler.client) p))) one
    ∙ ap answered (no_route setup.rules (serves setup.scheduler.auth) r peer said (decimal t.job.0) read.posts
    read.path)

-- ---- replies that are no 200

-- the refusals whose text is this project's own
abbrev HasOwnText : Refusal → Type 0
HasOwnText (ClientRefused word text) = ⊥
HasOwnText other = Unit {0}

two_texts_short : (t u : List ℕ) → length t ≤ 4000 → length u ≤ 4000
    → length (err_text (t ∷ u ∷ [])) ≤ 1073741824
unfolding err_text
two_texts_short t u short_t short_u =
    let q = escape_short t in
    let p = escape_short u in
    simp length-append (omega (arith, q, p, short_t, short_u))

other_code : (response : Response) (r : Reply) → length (body_of response) ≤ 1073741824
    → IsReply (reply_text response) r → r.code ≡ code_of response
other_code response r low is = ap (λ (q : Reply). q.code)
    (one_reply (reply_text response) r (seen response) is (read_back response low))

-- no reader sees it as a 200
abbrev NoOk : Response → Type 0
NoOk response = (r : Reply) → IsReply (reply_text response) r → r.code ≡ 200 → ⊥

coded : (response : Response) (n : ℕ) → length (body_of response) ≤ 1073741824 → code_of response ≡ n
    → 201 ≤ n → NoOk response
coded response n low is more = λ r reply ok.
    let e : r.code ≡ code_of response = other_code response r low reply in
    omega (arith, e, is, more, ok)

job_refused : (e : TokenError) → NoOk (refusal_response (JobRefused e))
job_refused e = coded (refusal_response (JobRefused e)) 401 (one_text_short (jwt_text e) (by_cause e)) refl
    (omega arith)
  where
    by_cause : (e : TokenError) → length (jwt_text e) ≤ 4000
    by_cause (why.BadToken part) = omega arith
    by_cause why.BadMac = omega arith
    by_cause why.MismatchedClaims = omega arith
    by_cause why.FixedMismatch = omega arith
    by_cause (why.ForwardRefused code) = omega arith
    by_cause why.LinkFault = omega arith
    by_cause why.Memory = omega arith

-- a refusal with a text of this project's own
pub refused_code : (e : Refusal) → HasOwnText e → NoOk (refusal_response e)
refused_code BadHead own =
    coded (refusal_response BadHead) 400 (one_text_short (codes "bad request head") (omega arith)) refl
    (omega arith)
refused_code WrongContentType own =
    coded (refusal_response WrongContentType) 400
    (one_text_short (codes "the request didn't have a binary content type") (omega arith)) refl (omega arith)
refused_code NoMessage own =
    coded (refusal_response NoMessage) 400
    (two_texts_short (codes "error while parsing the bincode body") (codes "no message begins the body")
    (omega arith) (omega arith)) refl (omega arith)
refused_code BadRealIp own = coded (refusal_response BadRealIp) 400 (omega arith) refl (omega arith)
refused_code NoRoute own = coded (refusal_response NoRoute) 404 (omega arith) refl (omega arith)
refused_code NoClientToken own = coded (refusal_response NoClientToken) 401 (omega arith) refl (omega arith)
refused_code (ClientRefused word text) own = absurd own
refused_code NoServer own = coded (refusal_response NoServer) 401 (omega arith) refl (omega arith)
refused_code OtherAddress own = coded (refusal_response OtherAddress) 401 (omega arith) refl (omega arith)
refused_code NoJobToken own =
    coded (refusal_response NoJobToken) 401 (one_text_short (codes "no Authorization header") (omega arith))
    refl (omega arith)
refused_code (JobRefused e) own = job_refused e
refused_code (BadRunHead true) own =
    coded (refusal_response (BadRunHead true)) 500
    (one_text_short (codes "failed to deserialize run job request") (omega arith)) refl (omega arith)
refused_code (BadRunHead false) own =
    coded (refusal_response (BadRunHead false)) 500
    (one_text_short (codes "failed to read run job input length") (omega arith)) refl (omega arith)

assigned_already : (job : JobId) → job.0 < 2 ^ 64 → NoOk (fault_response_of (AlreadyAssigned job))
assigned_already job fits =
    let id = id_short job.0 fits in
    let short : length (fault_text (AlreadyAssigned job)) ≤ 4000 = simp length-append (omega (arith, id)) in
    coded (fault_response_of (AlreadyAssigned job)) 500
    (one_text_short (fault_text (AlreadyAssigned job)) short) refl (omega arith)

-- ---- at a build server

test_own : (verdict : ℕ → List ℕ → Result ⊤ TokenError) (r : Request) (job : JobId) (e : Refusal)
    → job_test verdict r job ≡ Err e → HasOwnText e
test_own verdict r job e h = elim (job_not_shown verdict r job e h) [
  | inl none ↦ subst HasOwnText (sym none.1) tt
  | inr bad ↦ subst HasOwnText (sym bad.4) tt
]

message_own : (r : Request) (e : Refusal) → message_in toolchain_at r ≡ Err e → HasOwnText e
message_own r e h = elim (message_refused SpellsToolchain toolchain_at toolchain_codec r e h) [
  | inl other ↦ subst HasOwnText (sym other.1) tt
  | inr none ↦ subst HasOwnText (sym none.2) tt
]

-- what it is taken for: an assignment of the job, or a refusal of that kind
abbrev pub Takes : JobId → ServerRouted → Type 0
Takes job w = ((tc : List ℕ) × (w ≡ server_asked.Assign job tc))
    ⊎ ((e : Refusal) × HasOwnText e × (w ≡ server_asked.Done (refusal_response e)))

takes : (verdict : ℕ → List ℕ → Result ⊤ TokenError) (r : Request) (job : JobId)
    → Takes job (server_answered (assign_of verdict r job))
unfolding assign_of
takes verdict r job = by_result (assign_of verdict r job) refl
  where
    by_result : (y : Result ServerRouted Refusal) → assign_of verdict r job ≡ y
        → Takes job (server_answered y)
    by_result (Ok w) is =
        let p = two_ok (job_test verdict r job) (message_in toolchain_at r) (λ u d. server_asked.Assign job d)
        w is in
        inl (p.1, sym p.4)
    by_result (Err e) is =
        elim (two (job_test verdict r job) (message_in toolchain_at r) (λ u d. server_asked.Assign job d) e
        is) [
          | inl h ↦ inr (e, test_own verdict r job e h, refl)
          | inr h ↦ inr (e, message_own r e h.2, refl)
        ]

names_job : (tc : List ℕ) (t : Ticket) (r : Request) → t.job.0 < 2 ^ 64 → IsRead tc t r
    → assign_job r ≡ Some t.job
unfolding assign_job
names_job tc t r fits read = written_job front r t.job read.posts read.path fits

at_assign : (verdict : ℕ → List ℕ → Result ⊤ TokenError) (r : Request) (job : JobId)
    → assign_job r ≡ Some job → server_asked_of verdict r ≡ assign_of verdict r job
unfolding server_asked_of
at_assign verdict r job e = rw e refl

-- a build server takes it for an assignment, to be answered in binary, or refuses it
pub at_server : (verdict : ℕ → List ℕ → Result ⊤ TokenError) (tc : List ℕ) (t : Ticket) (r : Request)
    (a : ServerAsked) → t.job.0 < 2 ^ 64 → IsRead tc t r → IsServerAsked verdict (assign_call tc t).bytes a
    → (a.json ≡ false) × Takes t.job a.what
at_server verdict tc t r a fits read (inr (none, e)) = absurd (none r read.is)
at_server verdict tc t r a fits read (inl (q, x, e)) =
    let one : q ≡ r = one_request (assign_call tc t).bytes q r x read.is in
    let json : a.json ≡ false = ap (λ (c : ServerAsked). c.json) e ∙ ap wants_json one ∙ read.binary in
    let what : a.what ≡ server_answered (assign_of verdict r t.job) = ap (λ (c : ServerAsked). c.what) e
    ∙ ap (λ (p : Request). server_answered (server_asked_of verdict p)) one
    ∙ ap server_answered (at_assign verdict r t.job (names_job tc t r fits read)) in
    (json, subst (Takes t.job) (sym what) (takes verdict r t.job))

-- ---- the reply to an assignment

told_as : (m : AssignJobResult) → SpellsAssign m (assign_text m) → assigned_by (Ok m) ≡ Ok m
    → length (assign_text m) ≤ 1073741824 → IsAssigned (reply_text (Binary (assign_text m))) (Ok m)
unfolding told_by
told_as m spelled initial low =
    let body = assign_text m in
    let codec : assign_at body ≡ Some (m, []) = ap assign_at (sym (append-nil body))
    ∙ assign_codec.again m body [] spelled in
    let read : IsReply (reply_text (Binary body)) (seen (Binary body)) = read_back (Binary body) low in
    let told : told_by assign_at (seen (Binary body)) ≡ Ok m =
    ap (λ (o : Option (AssignJobResult × List ℕ)). unless_none ParseError (option_map (λ p. p.0) o))
    codec in
    (Ok m, inl (seen (Binary body), read, sym told), sym initial)

ready_text : SpellsAssign (need_by true) (assign_text (need_by true))
ready_text = record {
  front = state_bytes Ready;
  back = flag_text false;
  first = (omega arith, refl);
  second = refl;
  whole = refl;
}

pending_text : SpellsAssign (need_by false) (assign_text (need_by false))
pending_text = record {
  front = state_bytes Pending;
  back = flag_text true;
  first = (omega arith, refl);
  second = refl;
  whole = refl;
}

assigned_told : (listed : Bool) → IsAssigned (reply_text (assign_response false (need_by listed)))
    (Ok (need_by listed))
unfolding assign_response
assigned_told true =
    told_as (need_by true) ready_text refl
    (omega (arith, length-append (state_bytes Ready) (flag_text false), wide32.len 1))
assigned_told false =
    told_as (need_by false) pending_text refl
    (omega (arith, length-append (state_bytes Pending) (flag_text true), wide32.len 0))

-- a 200 to it is an assignment
pub assigned_ok : (addr : Addr) (number : ℕ) (job : JobId) (tc : List ℕ) (held listed : Bool)
    (reply : EntryReply) (r : Reply) → job.0 < 2 ^ 64
    → (assigned addr number false job tc (cond held (Err (refusal.AlreadyAssigned job))
    (Ok (need_by listed)))).reply ≡ Some reply
    → IsReply reply.bytes r → r.code ≡ 200 → (a : AssignJobResult) × IsAssigned reply.bytes (Ok a)
assigned_ok addr number job tc true listed reply r fits e is ok =
    let bytes : reply_text (fault_response_of (AlreadyAssigned job)) ≡ reply.bytes =
    ap (λ (y : EntryReply). y.bytes) (same_Some _ reply e) in
    absurd (assigned_already job fits r (subst (λ (b : List ℕ). IsReply b r) (sym bytes) is) ok)
assigned_ok addr number job tc false listed reply r fits e is ok =
    let bytes : reply_text (assign_response false (need_by listed)) ≡ reply.bytes =
    ap (λ (y : EntryReply). y.bytes) (same_Some _ reply e) in (
      need_by listed,
      subst (λ (b : List ℕ). IsAssigned b (Ok (need_by listed))) bytes (assigned_told listed),
    )
