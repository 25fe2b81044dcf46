-- The paths of the routes are absolute, and what a call writes asks what it is meant to.
use Rattle.std.proofs.Common.{◌≡◌, ℕ, ◌<◌, ◌^◌, true, false, List, [], ◌∷◌, ◌++◌, length, Option, Some, Ok}
use Rattle.std.proofs.Common.{Result, sym, refl, ap, arith, lit<, codes, decimal, append-nil}
use Rattle.std.specs.Prelude.{⊤}
use Rattle.std.specs.Char.{is_ascii_digit}
use Rattle.std.proofs.lemmas.Bool.Decides.{nat_tests}
use Rattle.std.proofs.lemmas.Fmt.{digits_decimal, decimal_nonempty}
use Rattle.dist_types.specs.declared.addr.Addr.{Addr}
use Rattle.dist_types.specs.declared.ids.JobId.{JobId}
use Rattle.dist_types.specs.declared.results.JobState.{JobState}
use Rattle.dist_types.specs.declared.rules.Rules.{Rules}
use Rattle.dist_types.specs.declared.token_error.TokenError.{TokenError}
use Rattle.dist_types.specs.Addr.{ip_of, addr_text, IsAddr}
use Rattle.dist_wire.specs.Spelling.{SpellsToolchain, SpellsHeartbeat, SpellsRun}
use Rattle.dist_wire.specs.Written.{bytes_text, heartbeat_text, run_text}
use Rattle.dist_wire.specs.declared.heartbeat.HeartbeatServerHttpRequest.{HeartbeatServerHttpRequest}
use Rattle.dist_wire.specs.declared.run.RunJobHttpRequest.{RunJobHttpRequest}
use Rattle.url.specs.Parts.{Parts, IsValid}
use Rattle.http_head.specs.WrittenRequest.{request_text, IsToken, IsWithinLimits}
use Rattle.http_head.proofs.FieldLemmas.{digits}
use Rattle.http_head.proofs.LineLemmas.{weaker}
use Rattle.http_routes.specs.declared.admission.Admission.{Admission}
use Rattle.http_routes.specs.declared.admission.Admission.TheVariants.{Admitted}
use Rattle.http_routes.specs.declared.route.SchedRouted.TheVariants.{Alloc, Beat, Update, Status}
use Rattle.http_routes.specs.Asked.{IsAskedUnder}
use Rattle.http_routes.specs.ServerRoute.{AsksSubmit, AsksRun}
use Rattle.http_routes.specs.Requests.{submit_with, run_with}
use Rattle.http_routes.proofs.ToldLemmas.{addr_visible, allocations_read_back, statuses_read_back}
use Rattle.http_routes.proofs.ToldLemmas.{heartbeats_read_back, states_read_back, submissions_read_back}
use Rattle.http_routes.proofs.ToldLemmas.{runs_read_back, allocations_read_as, statuses_read_as}
use Rattle.http_calls.specs.Calls.{alloc_request, status_request, state_request, heartbeat_request}
use Rattle.http_calls.specs.Calls.{ReadsAlloc, ReadsStatus}
use Rattle.http_routes.specs.Builder.{host_of}
use Rattle.http_calls.specs.Urls.{IsHttp, IsAbsolutePath}
use Rattle.http_calls.proofs.JoinLemmas.{is_plain_byte, IsPlain, plain_segments}
use Rattle.http_calls.proofs.UrlLemmas.{clean}

-- ---- paths

pub alloc_path : IsAbsolutePath (codes "/api/v1/scheduler/alloc_job")
alloc_path = record {
  first = codes "api";
  others = codes "v1" ∷ codes "scheduler" ∷ codes "alloc_job" ∷ [];
  some = lit< tt;
  each = plain_segments (codes "api" ∷ codes "v1" ∷ codes "scheduler" ∷ codes "alloc_job" ∷ [])
      ((lit< tt, refl), ((lit< tt, refl), ((lit< tt, refl), ((lit< tt, refl), record {}))));
  joined = refl;
}

pub heartbeat_path : IsAbsolutePath (codes "/api/v1/scheduler/heartbeat_server")
heartbeat_path = record {
  first = codes "api";
  others = codes "v1" ∷ codes "scheduler" ∷ codes "heartbeat_server" ∷ [];
  some = lit< tt;
  each = plain_segments (codes "api" ∷ codes "v1" ∷ codes "scheduler" ∷ codes "heartbeat_server" ∷ [])
      ((lit< tt, refl), ((lit< tt, refl), ((lit< tt, refl), ((lit< tt, refl), record {}))));
  joined = refl;
}

pub drain_path : IsAbsolutePath (codes "/api/v1/scheduler/drain_server")
drain_path = record {
  first = codes "api";
  others = codes "v1" ∷ codes "scheduler" ∷ codes "drain_server" ∷ [];
  some = lit< tt;
  each = plain_segments (codes "api" ∷ codes "v1" ∷ codes "scheduler" ∷ codes "drain_server" ∷ [])
      ((lit< tt, refl), ((lit< tt, refl), ((lit< tt, refl), ((lit< tt, refl), record {}))));
  joined = refl;
}

pub status_path : IsAbsolutePath (codes "/api/v1/scheduler/status")
status_path = record {
  first = codes "api";
  others = codes "v1" ∷ codes "scheduler" ∷ codes "status" ∷ [];
  some = lit< tt;
  each = plain_segments (codes "api" ∷ codes "v1" ∷ codes "scheduler" ∷ codes "status" ∷ [])
      ((lit< tt, refl), ((lit< tt, refl), ((lit< tt, refl), ((lit< tt, refl), record {}))));
  joined = refl;
}

digit_plain : (b : ℕ) → is_ascii_digit b ≡ true → is_plain_byte b ≡ true
digit_plain b h = grind (arith, nat_tests)

number_plain : (n : ℕ) → n < 2 ^ 64 → IsPlain (decimal n)
number_plain n fits = (
  decimal_nonempty n fits,
  weaker is_ascii_digit is_plain_byte digit_plain (decimal n)
      (digits_decimal digits n fits),
)

pub state_path : (n : ℕ) → n < 2 ^ 64 → IsAbsolutePath (codes "/api/v1/scheduler/job_state/" ++ decimal n)
state_path n fits = record {
  first = codes "api";
  others = codes "v1" ∷ codes "scheduler" ∷ codes "job_state" ∷ decimal n ∷ [];
  some = lit< tt;
  each = plain_segments (codes "api" ∷ codes "v1" ∷ codes "scheduler" ∷ codes "job_state" ∷ decimal n ∷ []) (
    (lit< tt, refl),
    ((lit< tt, refl), ((lit< tt, refl), ((lit< tt, refl), (number_plain n fits, record {})))),
  );
  joined = ap (λ (t : List ℕ). codes "/api/v1/scheduler/job_state/" ++ t) (sym (append-nil (decimal n)));
}

pub assign_path : (n : ℕ) → n < 2 ^ 64 → IsAbsolutePath (codes "/api/v1/distserver/assign_job/" ++ decimal n)
assign_path n fits = record {
  first = codes "api";
  others = codes "v1" ∷ codes "distserver" ∷ codes "assign_job" ∷ decimal n ∷ [];
  some = lit< tt;
  each = plain_segments (codes "api" ∷ codes "v1" ∷ codes "distserver" ∷ codes "assign_job" ∷ decimal n ∷ []) (
    (lit< tt, refl),
    ((lit< tt, refl), ((lit< tt, refl), ((lit< tt, refl), (number_plain n fits, record {})))),
  );
  joined = ap (λ (t : List ℕ). codes "/api/v1/distserver/assign_job/" ++ t) (sym (append-nil (decimal n)));
}

pub submit_path : (n : ℕ) → n < 2 ^ 64
    → IsAbsolutePath (codes "/api/v1/distserver/submit_toolchain/" ++ decimal n)
submit_path n fits = record {
  first = codes "api";
  others = codes "v1" ∷ codes "distserver" ∷ codes "submit_toolchain" ∷ decimal n ∷ [];
  some = lit< tt;
  each = plain_segments (codes "api" ∷ codes "v1" ∷ codes "distserver" ∷ codes "submit_toolchain" ∷ decimal n
      ∷ []) (
        (lit< tt, refl),
        ((lit< tt, refl), ((lit< tt, refl), ((lit< tt, refl), (number_plain n fits, record {})))),
      );
  joined =
      ap (λ (t : List ℕ). codes "/api/v1/distserver/submit_toolchain/" ++ t) (sym (append-nil (decimal n)));
}

pub run_path : (n : ℕ) → n < 2 ^ 64 → IsAbsolutePath (codes "/api/v1/distserver/run_job/" ++ decimal n)
run_path n fits = record {
  first = codes "api";
  others = codes "v1" ∷ codes "distserver" ∷ codes "run_job" ∷ decimal n ∷ [];
  some = lit< tt;
  each = plain_segments (codes "api" ∷ codes "v1" ∷ codes "distserver" ∷ codes "run_job" ∷ decimal n ∷ []) (
    (lit< tt, refl),
    ((lit< tt, refl), ((lit< tt, refl), ((lit< tt, refl), (number_plain n fits, record {})))),
  );
  joined = ap (λ (t : List ℕ). codes "/api/v1/distserver/run_job/" ++ t) (sym (append-nil (decimal n)));
}

-- ---- to the scheduler

module _ (base : Parts) (valid : IsValid base) (http : IsHttp base) where
  pub alloc_asks : (token tc : List ℕ) → SpellsToolchain tc (bytes_text tc) → IsToken token
      → IsWithinLimits (alloc_request base token tc)
      → (rules : Rules) (lets : List ℕ → Admission) (serves : List ℕ → Option Addr) (peer : Addr)
      → lets token ≡ Admitted
      → IsAskedUnder rules lets serves (request_text (alloc_request base token tc)) peer
      (record { what = Alloc tc; json = false })
  alloc_asks token tc spelled carried limits rules lets serves peer admitted =
      allocations_read_back rules lets serves peer (host_of base) token tc record {
        visible =
            (clean base valid http).host;
        carried = carried;
        limits = limits;
      } spelled admitted

  pub alloc_reads : (token tc : List ℕ) → SpellsToolchain tc (bytes_text tc)
      → ReadsAlloc base token tc (request_text (alloc_request base token tc))
  alloc_reads token tc spelled carried limits =
      allocations_read_as (host_of base) token tc record {
        visible =
            (clean base valid http).host;
        carried = carried;
        limits = limits;
      } spelled

  pub status_reads : ReadsStatus base (request_text (status_request base))
  status_reads limits = statuses_read_as (host_of base) (clean base valid http).host limits

  pub status_asks : IsWithinLimits (status_request base)
      → (rules : Rules) (lets : List ℕ → Admission) (serves : List ℕ → Option Addr) (peer : Addr)
      → IsAskedUnder rules lets serves (request_text (status_request base)) peer
      (record { what = Status; json = false })
  status_asks limits rules lets serves peer =
      statuses_read_back rules lets serves peer (host_of base) (clean base valid http).host limits

  pub state_asks : (token : List ℕ) (job : JobId) (state : JobState) → job.0 < 2 ^ 64 → IsToken token
      → IsWithinLimits (state_request base token job state)
      → (rules : Rules) (lets : List ℕ → Admission) (serves : List ℕ → Option Addr) (peer server : Addr)
      → serves token ≡ Some server → ip_of peer ≡ ip_of server
      → IsAskedUnder rules lets serves (request_text (state_request base token job state)) peer
      (record { what = Update server job state; json = false })
  state_asks token job state fits carried limits rules lets serves peer server own ip =
      states_read_back rules lets serves peer (host_of base) token job state server record {
        visible =
            (clean base valid http).host;
        carried = carried;
        limits = limits;
      } fits own ip

  pub heartbeat_asks : (token : List ℕ) (beat : HeartbeatServerHttpRequest)
      → SpellsHeartbeat beat (heartbeat_text beat) → IsToken token
      → IsWithinLimits (heartbeat_request base token beat)
      → (rules : Rules) (lets : List ℕ → Admission) (serves : List ℕ → Option Addr) (peer server : Addr)
      → serves token ≡ Some server → ip_of peer ≡ ip_of server
      → IsAskedUnder rules lets serves (request_text (heartbeat_request base token beat)) peer
      (record { what = Beat server beat; json = false })
  heartbeat_asks token beat spelled carried limits rules lets serves peer server own ip =
      heartbeats_read_back rules lets serves peer (host_of base) token beat server record {
        visible =
            (clean base valid http).host;
        carried = carried;
        limits = limits;
      } spelled own ip

-- ---- to a server

module _ (server : Addr) (is : IsAddr server) (token : List ℕ) (job : JobId) (fits : job.0 < 2 ^ 64) where
  pub submit_asks : (archive : List ℕ) → IsToken token
      → IsWithinLimits (submit_with (addr_text server) token job archive)
      → (verdict : ℕ → List ℕ → Result ⊤ TokenError) → verdict job.0 token ≡ Ok tt
      → AsksSubmit verdict (request_text (submit_with (addr_text server) token job archive)) job archive
  submit_asks archive carried limits verdict own =
      submissions_read_back verdict (addr_text server) token archive job record {
        visible =
            addr_visible server is;
        carried = carried;
        limits = limits;
      } fits own

  pub run_asks : (run : RunJobHttpRequest) (inputs : List ℕ) → SpellsRun run (run_text run)
      → length (run_text run) < 2 ^ 32
      → IsToken token → IsWithinLimits (run_with (addr_text server) token job run inputs)
      → (verdict : ℕ → List ℕ → Result ⊤ TokenError) → verdict job.0 token ≡ Ok tt
      → AsksRun verdict (request_text (run_with (addr_text server) token job run inputs)) job run inputs
  run_asks run inputs spelled low carried limits verdict own =
      runs_read_back verdict (addr_text server) token inputs job run record {
        visible =
            addr_visible server is;
        carried = carried;
        limits = limits;
      } fits spelled low own
