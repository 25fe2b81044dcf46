-- What is written for a call is read as it was meant.
use Rattle.std.proofs.Common.{◌≡◌, ℕ, ◌+◌, ◌<◌, ◌^◌, ◌==◌, not, true, false, List, [], ◌++◌}
use Rattle.std.proofs.Common.{length, drop, codes, decimal, Option, Some, None, Result, Ok, refl, sym, ap}
use Rattle.std.proofs.Common.{◌∙◌, arith, append-nil, length-append}
use Rattle.std.specs.Prelude.{IsUtf8, ⊤}
use Rattle.std.specs.List.{list_all}
use Rattle.std.specs.Char.{is_ascii_digit, is_ascii_graphic}
use Rattle.std.proofs.lemmas.Bool.Decides.{nat_tests}
use Rattle.std.proofs.lemmas.Fmt.{digits_decimal, IsAscii-from_digits}
use Rattle.std.proofs.lemmas.List.{drop-drop, drop_at}
use Rattle.std.proofs.lemmas.Str.{IsUtf8-append, IsUtf8-from_ascii}
use Rattle.dist_types.specs.Addr.{ip_of, addr_text, IsAddr}
use Rattle.dist_types.proofs.AddrLemmas.{printed_graphic}
use Rattle.dist_types.specs.declared.addr.Addr.{Addr}
use Rattle.dist_types.specs.declared.ids.JobId.{JobId}
use Rattle.dist_types.specs.declared.results.JobState.{JobState}
use Rattle.dist_types.specs.declared.results.JobState.TheVariants as State
use Rattle.dist_types.specs.declared.rules.Rules.{Rules}
use Rattle.dist_types.specs.declared.rules.Rules.TheVariants.{Two}
use Rattle.dist_types.specs.declared.token_error.TokenError.{TokenError}
use Rattle.dist_wire.specs.MessageLaws.{toolchain_codec}
use Rattle.dist_wire.specs.Reading.{toolchain_at}
use Rattle.dist_wire.specs.Spelling.{SpellsToolchain, SpellsHeartbeat, SpellsState, SpellsDrain, SpellsRun}
use Rattle.dist_wire.specs.Written.{bytes_text, heartbeat_text, state_bytes, drain_text, run_text}
use Rattle.dist_wire.specs.declared.drain.DrainServerHttpRequest.{DrainServerHttpRequest}
use Rattle.dist_wire.specs.declared.heartbeat.HeartbeatServerHttpRequest.{HeartbeatServerHttpRequest}
use Rattle.dist_wire.specs.declared.run.RunJobHttpRequest.{RunJobHttpRequest}
use Rattle.httparse.specs.Grammar.{print_request}
use Rattle.http_head.specs.declared.request.Request.{Request}
use Rattle.http_head.specs.Fields.{header, path_of}
use Rattle.http_head.specs.Head.{IsRequest}
use Rattle.http_head.specs.WrittenRequest.{is_visible, request_text, IsWithinLimits}
use Rattle.http_head.specs.WrittenRequest.{Carries}
use Rattle.http_head.proofs.BearerLemmas.{token_shown}
use Rattle.http_head.proofs.FieldLemmas.{digits}
use Rattle.http_head.proofs.LineLemmas.{weaker}
use Rattle.http_head.proofs.WrittenRequestLemmas.{ascii_text, requests_read_back}
use Rattle.http_routes.specs.declared.admission.Admission.{Admission}
use Rattle.http_routes.specs.declared.admission.Admission.TheVariants.{Admitted}
use Rattle.http_routes.specs.declared.route.SchedRouted.TheVariants.{Alloc, Beat, Update, Status, Drain}
use Rattle.http_routes.specs.declared.server_route.ServerRouted.TheVariants.{Assign, Submit, Run}
use Rattle.http_routes.specs.Asked.{IsAskedUnder}
use Rattle.http_routes.specs.InOrder.{NamesJob, InForm, IsStatus}
use Rattle.http_routes.specs.Message.{HasMessage}
use Rattle.http_routes.specs.ReadAs.{allocated, IsReadAs}
use Rattle.http_routes.specs.Route.{answered}
use Rattle.http_routes.specs.RunHead.{run_body}
use Rattle.http_routes.specs.Sender.{IsFrom, Shows}
use Rattle.http_routes.specs.ServerRoute.{body_at, AsksAssign, AsksSubmit, AsksRun}
use Rattle.http_routes.specs.Requests.{post_with, alloc_with, status_with, heartbeat_with, state_with}
use Rattle.http_routes.specs.Requests.{drain_with, assign_with, submit_with, run_with, CanGo}
use Rattle.http_routes.proofs.AskLemmas.{status_asked}
use Rattle.http_routes.proofs.MessageLemmas.{held_message}
use Rattle.http_routes.proofs.PlaceLemmas.{no_query, written_job, job_named, place_at, form_in}
use Rattle.http_routes.proofs.ReadAsLemmas.{client_shows, client_shows_none, asks_job}
use Rattle.http_routes.proofs.RouteLemmas.{asked_by, allocation_is, heartbeat_is, update_is, status_is}
use Rattle.http_routes.proofs.RouteLemmas.{drain_is, status_no_post}
use Rattle.http_routes.proofs.RunHeadLemmas.{body_read_back, inputs_behind}
use Rattle.http_routes.proofs.ServerLemmas as at_server

-- ---- paths

digit_visible : (b : ℕ) → is_ascii_digit b ≡ true → is_visible b ≡ true
digit_visible b h = grind (arith, nat_tests)

digit_no_question : (b : ℕ) → is_ascii_digit b ≡ true → not (b == 63) ≡ true
digit_no_question b h = grind (arith, nat_tests)

graphic_visible : (b : ℕ) → is_ascii_graphic b ≡ true → is_visible b ≡ true
graphic_visible b h = grind (arith, nat_tests)

-- the text of an address can stand in a head
pub addr_visible : (addr : Addr) → IsAddr addr → list_all is_visible (addr_text addr) ≡ true
addr_visible addr is = weaker is_ascii_graphic is_visible graphic_visible (addr_text addr)
    (printed_graphic addr is)

-- a path: visible text without a question mark
record IsPath (path : List ℕ) : Type 0 where
  visible : list_all is_visible path ≡ true
  no_question : list_all (λ b. not (b == 63)) path ≡ true
  text : IsUtf8 path
  some : 0 < length path

-- a job's number behind a front
behind : (front : List ℕ) (job : JobId) → job.0 < 2 ^ 64 → 0 < length front → IsUtf8 front
    → ((more : List ℕ) → list_all is_visible more ≡ true → list_all is_visible (front ++ more) ≡ true)
    → ((more : List ℕ) → list_all (λ b. not (b == 63)) more ≡ true → list_all (λ b. not (b == 63))
    (front ++ more) ≡ true)
    → IsPath (front ++ decimal job.0)
behind front job fits some text visible no_question =
    let all = digits_decimal digits job.0 fits in
    let total = length-append front (decimal job.0) in
    record {
      visible = visible (decimal job.0) (weaker is_ascii_digit is_visible digit_visible (decimal job.0) all);
      no_question = no_question (decimal job.0) (weaker is_ascii_digit (λ b. not (b == 63)) digit_no_question
          (decimal job.0) all);
      text = IsUtf8-append front (decimal job.0) text
          (IsUtf8-from_ascii (decimal job.0)
          (IsAscii-from_digits (decimal job.0) (digits.to (decimal job.0) all)));
      some = omega arith;
    }

alloc_path : IsPath (codes "/api/v1/scheduler/alloc_job")
alloc_path = record {
  visible = refl;
  no_question = refl;
  text = ascii_text (codes "/api/v1/scheduler/alloc_job") refl;
  some = omega arith;
}

status_path : IsPath (codes "/api/v1/scheduler/status")
status_path = record {
  visible = refl;
  no_question = refl;
  text = ascii_text (codes "/api/v1/scheduler/status") refl;
  some = omega arith;
}

beat_path : IsPath (codes "/api/v1/scheduler/heartbeat_server")
beat_path = record {
  visible = refl;
  no_question = refl;
  text = ascii_text (codes "/api/v1/scheduler/heartbeat_server") refl;
  some = omega arith;
}

drain_path : IsPath (codes "/api/v1/scheduler/drain_server")
drain_path = record {
  visible = refl;
  no_question = refl;
  text = ascii_text (codes "/api/v1/scheduler/drain_server") refl;
  some = omega arith;
}

state_path : (job : JobId) → job.0 < 2 ^ 64 → IsPath (codes "/api/v1/scheduler/job_state/" ++ decimal job.0)
state_path job fits =
    behind (codes "/api/v1/scheduler/job_state/") job fits (omega arith)
    (ascii_text (codes "/api/v1/scheduler/job_state/") refl) (λ more h. h) (λ more h. h)

assign_path : (job : JobId) → job.0 < 2 ^ 64
    → IsPath (codes "/api/v1/distserver/assign_job/" ++ decimal job.0)
assign_path job fits =
    behind (codes "/api/v1/distserver/assign_job/") job fits (omega arith)
    (ascii_text (codes "/api/v1/distserver/assign_job/") refl) (λ more h. h) (λ more h. h)

submit_path : (job : JobId) → job.0 < 2 ^ 64
    → IsPath (codes "/api/v1/distserver/submit_toolchain/" ++ decimal job.0)
submit_path job fits =
    behind (codes "/api/v1/distserver/submit_toolchain/") job fits (omega arith)
    (ascii_text (codes "/api/v1/distserver/submit_toolchain/") refl) (λ more h. h) (λ more h. h)

run_path : (job : JobId) → job.0 < 2 ^ 64 → IsPath (codes "/api/v1/distserver/run_job/" ++ decimal job.0)
run_path job fits =
    behind (codes "/api/v1/distserver/run_job/") job fits (omega arith)
    (ascii_text (codes "/api/v1/distserver/run_job/") refl) (λ more h. h) (λ more h. h)

-- ---- POSTs under a token

posted : (path host token body : List ℕ) → IsPath path → CanGo host token (post_with path host token body)
    → (r : Request) × IsRequest (request_text (post_with path host token body)) r
    × Carries (post_with path host token body) r
posted path host token body p g =
    requests_read_back (post_with path host token body) record {
      some_target = p.some;
      target_text = p.text;
      target = p.visible;
      host = g.visible;
      token = g.carried;
      plain = tt {0};
      limits = g.limits;
    }

module _ (path host token body : List ℕ) (p : IsPath path) (r : Request)
    (c : Carries (post_with path host token body) r) where
  at_path : path_of r.target ≡ path
  at_path = ap path_of c.target ∙ no_query path p.no_question

  shows : Shows r token
  shows = token_shown (header (codes "authorization") r.headers) token c.token

  in_binary : InForm r false
  in_binary e = absurd (let both = sym c.no_accept ∙ e in cc)

  -- the body holds a message that was spelled
  holds : {M : Type 0} (Spells : M → List ℕ → Type 0) (m : M) → Spells m body → HasMessage Spells r m
  holds Spells m spelled = record {
    more = [];
    content = c.content;
    body = record { text = body; rest = []; spelled = spelled; parts = c.body ∙ sym (append-nil body) };
  }

  sender : (serves : List ℕ → Option Addr) (peer server : Addr) → serves token ≡ Some server
      → ip_of peer ≡ ip_of server → IsFrom r peer serves server
  sender serves peer server own ip = record {
    shown = token;
    bearer = shows;
    own = own;
    ip = rw c.no_real_ip (sym ip);
  }

  names : (front : List ℕ) (job : JobId) → job.0 < 2 ^ 64 → path ≡ front ++ decimal job.0
      → NamesJob r front job
  names front job fits is = job_named front r job (written_job front r job c.method (at_path ∙ is) fits)

-- ---- to the scheduler

module _ (rules : Rules) (lets : List ℕ → Admission) (serves : List ℕ → Option Addr) (peer : Addr) where
  pub allocations_read_back : (host token tc : List ℕ) → CanGo host token (alloc_with host token tc)
      → SpellsToolchain tc (bytes_text tc) → lets token ≡ Admitted
      → IsAskedUnder rules lets serves (request_text (alloc_with host token tc)) peer
      (record { what = Alloc tc; json = false })
  unfolding alloc_with
  allocations_read_back host token tc g spelled admitted =
      let path = codes "/api/v1/scheduler/alloc_job" in
      let body = bytes_text tc in
      let (r, x, c) = posted path host token body alloc_path g in
      asked_by rules lets serves (request_text (post_with path host token body)) peer false (Alloc tc) r x
      (allocation_is rules lets serves r peer tc record {
        at = record { sent_by = c.method; sent_to = at_path path host token body alloc_path r c };
        admitted = (token, shows path host token body alloc_path r c, admitted);
        message = holds path host token body alloc_path r c SpellsToolchain tc spelled;
      })
      (in_binary path host token body alloc_path r c)

  pub heartbeats_read_back : (host token : List ℕ) (beat : HeartbeatServerHttpRequest) (server : Addr)
      → CanGo host token (heartbeat_with host token beat)
      → SpellsHeartbeat beat (heartbeat_text beat) → serves token ≡ Some server → ip_of peer ≡ ip_of server
      → IsAskedUnder rules lets serves (request_text (heartbeat_with host token beat)) peer
      (record { what = Beat server beat; json = false })
  unfolding heartbeat_with
  heartbeats_read_back host token beat server g spelled own ip =
      let path = codes "/api/v1/scheduler/heartbeat_server" in
      let body = heartbeat_text beat in
      let (r, x, c) = posted path host token body beat_path g in
      asked_by rules lets serves (request_text (post_with path host token body)) peer false
      (Beat server beat) r x
      (heartbeat_is rules lets serves r peer server beat record {
        at = record { sent_by = c.method; sent_to = at_path path host token body beat_path r c };
        sender = sender path host token body beat_path r c serves peer server own ip;
        message = holds path host token body beat_path r c SpellsHeartbeat beat spelled;
      })
      (in_binary path host token body beat_path r c)

  spells_state : (state : JobState) → SpellsState state (state_bytes state)
  spells_state State.Pending = (omega arith, refl)
  spells_state State.Ready = (omega arith, refl)
  spells_state State.Started = (omega arith, refl)
  spells_state State.Complete = (omega arith, refl)

  pub states_read_back : (host token : List ℕ) (job : JobId) (state : JobState) (server : Addr)
      → CanGo host token (state_with host token job state)
      → job.0 < 2 ^ 64 → serves token ≡ Some server → ip_of peer ≡ ip_of server
      → IsAskedUnder rules lets serves (request_text (state_with host token job state)) peer
      (record { what = Update server job state; json = false })
  unfolding state_with
  states_read_back host token job state server g fits own ip =
      let path = codes "/api/v1/scheduler/job_state/" ++ decimal job.0 in
      let body = state_bytes state in
      let p = state_path job fits in
      let (r, x, c) = posted path host token body p g in
      asked_by rules lets serves (request_text (post_with path host token body)) peer false
      (Update server job state) r x
      (update_is rules lets serves r peer server job state record {
        names = names path host token body p r c (codes "/api/v1/scheduler/job_state/") job fits refl;
        sender = sender path host token body p r c serves peer server own ip;
        message = holds path host token body p r c SpellsState state (spells_state state);
      })
      (in_binary path host token body p r c)

  pub statuses_read_back : (host : List ℕ) → list_all is_visible host ≡ true
      → IsWithinLimits (status_with host)
      → IsAskedUnder rules lets serves (request_text (status_with host)) peer
      (record { what = Status; json = false })
  unfolding status_with
  statuses_read_back host visible limits =
      let (r, x, c) = requests_read_back (status_with host) record {
        some_target = status_path.some;
        target_text = status_path.text;
        target = status_path.visible;
        host = visible;
        token = tt {0};
        plain = refl;
        limits = limits;
      } in
      asked_by rules lets serves (request_text (status_with host)) peer false Status r x
      (status_is rules lets serves r peer record {
        sent_by = c.method;
        sent_to = ap path_of c.target
            ∙ no_query (codes "/api/v1/scheduler/status") status_path.no_question;
      })
      (λ e. absurd (let both = sym c.no_accept ∙ e in cc))

-- a request for a job, whatever the check of clients says of its token
pub allocations_read_as : (host token tc : List ℕ) → CanGo host token (alloc_with host token tc)
    → SpellsToolchain tc (bytes_text tc)
    → IsReadAs (request_text (alloc_with host token tc)) (Some token) (allocated tc)
unfolding alloc_with
allocations_read_as host token tc g spelled =
    let path = codes "/api/v1/scheduler/alloc_job" in
    let body = bytes_text tc in
    let (r, x, c) = posted path host token body alloc_path g in
    let there = place_at r (codes "POST") path record {
      sent_by = c.method;
      sent_to = at_path path host token body alloc_path r c;
    } in
    let message = held_message SpellsToolchain toolchain_at toolchain_codec r tc
    (holds path host token body alloc_path r c SpellsToolchain tc spelled) in
    record {
      request = r;
      is = x;
      shows = client_shows r token there (shows path host token body alloc_path r c);
      asks = λ rules serves peer said. asks_job rules serves r peer said tc there message;
      form = sym (form_in r false (in_binary path host token body alloc_path r c));
    }

pub statuses_read_as : (host : List ℕ) → list_all is_visible host ≡ true → IsWithinLimits (status_with host)
    → IsReadAs (request_text (status_with host)) None (λ said. Status)
unfolding status_with
statuses_read_as host visible limits =
    let (r, x, c) = requests_read_back (status_with host) record {
      some_target = status_path.some;
      target_text = status_path.text;
      target = status_path.visible;
      host = visible;
      token = tt {0};
      plain = refl;
      limits = limits;
    } in
    let at : IsStatus r = record {
      sent_by = c.method;
      sent_to = ap path_of c.target ∙ no_query (codes "/api/v1/scheduler/status") status_path.no_question;
    } in
    let no_alloc = status_no_post r (codes "/api/v1/scheduler/alloc_job") at in
    let no_beat = status_no_post r (codes "/api/v1/scheduler/heartbeat_server") at in
    let there = place_at r (codes "GET") (codes "/api/v1/scheduler/status") at in
    record {
      request = r;
      is = x;
      shows = client_shows_none r no_alloc;
      asks = λ rules serves peer said.
          ap answered (status_asked rules serves r peer said no_alloc no_beat there);
      form = sym (form_in r false (λ e. absurd (let both = sym c.no_accept ∙ e in cc)));
    }

module _ (lets : List ℕ → Admission) (serves : List ℕ → Option Addr) (peer : Addr) where
  pub drains_read_back : (host token : List ℕ) (drain : DrainServerHttpRequest) (server : Addr)
      → CanGo host token (drain_with host token drain)
      → SpellsDrain drain (drain_text drain) → serves token ≡ Some server → ip_of peer ≡ ip_of server
      → IsAskedUnder Two lets serves (request_text (drain_with host token drain)) peer
      (record { what = Drain server drain; json = false })
  unfolding drain_with
  drains_read_back host token drain server g spelled own ip =
      let path = codes "/api/v1/scheduler/drain_server" in
      let body = drain_text drain in
      let (r, x, c) = posted path host token body drain_path g in
      asked_by Two lets serves (request_text (post_with path host token body)) peer false
      (Drain server drain) r x
      (drain_is Two lets serves r peer server drain record {
        at = record {
          version = refl;
          at = record { sent_by = c.method; sent_to = at_path path host token body drain_path r c };
        };
        sender = sender path host token body drain_path r c serves peer server own ip;
        message = holds path host token body drain_path r c SpellsDrain drain spelled;
      })
      (in_binary path host token body drain_path r c)

-- ---- to a server

-- the body is the end of the bytes
body_is_end : (bytes : List ℕ) (r : Request) → IsRequest bytes r → drop (body_at bytes r) bytes ≡ r.body
body_is_end bytes r (h, x) =
    let parts = x.opens.reads.1 in
    let total = ap length parts ∙ length-append (print_request h) r.body in
    ap (drop (body_at bytes r)) parts ∙ drop_at (print_request h) r.body (body_at bytes r) (omega arith)

module _ (verdict : ℕ → List ℕ → Result ⊤ TokenError) where
  pub assignments_read_back : (server : Addr) (token tc : List ℕ) (job : JobId)
      → CanGo (addr_text server) token (assign_with server job token (bytes_text tc))
      → job.0 < 2 ^ 64 → SpellsToolchain tc (bytes_text tc) → verdict job.0 token ≡ Ok tt
      → AsksAssign verdict (request_text (assign_with server job token (bytes_text tc))) job tc
  unfolding assign_with
  assignments_read_back server token tc job g fits spelled own =
      let path = codes "/api/v1/distserver/assign_job/" ++ decimal job.0 in
      let host = addr_text server in
      let body = bytes_text tc in
      let p = assign_path job fits in
      let (r, x, c) = posted path host token body p g in
      let bytes = request_text (post_with path host token body) in (
        body_at bytes r,
        at_server.asked_by verdict bytes false (body_at bytes r) (Assign job tc) r x
            (at_server.assignment_is verdict r job tc record {
              names = names path host token body p r c (codes "/api/v1/distserver/assign_job/") job fits refl;
              shows = (token, shows path host token body p r c, own);
              message = holds path host token body p r c SpellsToolchain tc spelled;
            })
            (in_binary path host token body p r c) refl,
      )

  pub submissions_read_back : (host token archive : List ℕ) (job : JobId)
      → CanGo host token (submit_with host token job archive)
      → job.0 < 2 ^ 64 → verdict job.0 token ≡ Ok tt
      → AsksSubmit verdict (request_text (submit_with host token job archive)) job archive
  unfolding submit_with
  submissions_read_back host token archive job g fits own =
      let path = codes "/api/v1/distserver/submit_toolchain/" ++ decimal job.0 in
      let p = submit_path job fits in
      let (r, x, c) = posted path host token archive p g in
      let bytes = request_text (post_with path host token archive) in (
        body_at bytes r,
        at_server.asked_by verdict bytes false (body_at bytes r) (Submit job) r x
            (at_server.submission_is verdict r job record {
              names = names path host token archive p r c (codes "/api/v1/distserver/submit_toolchain/") job
                  fits refl;
              shows = (token, shows path host token archive p r c, own);
            })
            (in_binary path host token archive p r c) refl,
        body_is_end bytes r x ∙ c.body,
      )

  pub runs_read_back : (host token inputs : List ℕ) (job : JobId) (run : RunJobHttpRequest)
      → CanGo host token (run_with host token job run inputs)
      → job.0 < 2 ^ 64 → SpellsRun run (run_text run) → length (run_text run) < 2 ^ 32
      → verdict job.0 token ≡ Ok tt
      → AsksRun verdict (request_text (run_with host token job run inputs)) job run inputs
  unfolding run_with
  runs_read_back host token inputs job run g fits spelled low own =
      let path = codes "/api/v1/distserver/run_job/" ++ decimal job.0 in
      let body = run_body run inputs in
      let at = 4 + length (run_text run) in
      let p = run_path job fits in
      let (r, x, c) = posted path host token body p g in
      let bytes = request_text (post_with path host token body) in
      let whole = body_read_back run inputs spelled low in (
        body_at bytes r,
        at,
        at_server.asked_by verdict bytes false (body_at bytes r) (Run job run at) r x
            (at_server.run_is verdict r job run at record {
              names = names path host token body p r c (codes "/api/v1/distserver/run_job/") job fits refl;
              shows = (token, shows path host token body p r c, own);
              inputs = inputs;
              body = rw c.body whole;
            })
            (in_binary path host token body p r c) refl,
        sym (drop-drop at (body_at bytes r) bytes)
            ∙ (ap (drop at) (body_is_end bytes r x ∙ c.body) ∙ inputs_behind body run at inputs whole),
      )
