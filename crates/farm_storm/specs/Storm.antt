-- The storm: how its farm is set up, and what happens to it.
use Rattle.std.specs.Prelude.{ℕ, ◌+◌, ◌-◌, ◌/◌, ◌%◌, List, [], ◌∷◌, map, codes}
use Rattle.std.specs.Int.{w64, to_be_bytes}
use Rattle.std.specs.List.{range_with_len, enumerate_from}
use Rattle.dist_types.specs.Addr.{addr_text}
use Rattle.dist_types.specs.declared.addr.Addr.{Addr}
use Rattle.dist_types.specs.declared.addr.Addr.TheVariants.{V4}
use Rattle.dist_types.specs.declared.rules.Rules.TheVariants.{One}
use Rattle.dist_token.specs.Token.{token_text, job_claims_text}
use Rattle.dist_wire.specs.declared.run.RunJobHttpRequest.{RunJobHttpRequest}
use Rattle.http_head.specs.WrittenRequest.{request_text}
use Rattle.http_routes.specs.Requests.{alloc_with, status_with, submit_with, run_with}
use Rattle.toolchain_cache.specs.Archives.{id_of}
use Rattle.farm_script.specs.declared.event.Event.{Event}
use Rattle.farm_script.specs.declared.event.EventKind.{EventKind}
use Rattle.farm_script.specs.declared.event.EventKind.TheVariants as kind
use Rattle.farm_script.specs.declared.setup.Setup.{Setup}
use Rattle.farm_script.specs.declared.setup.SetupAuth.TheVariants.{Plain}
use Rattle.farm_script.specs.declared.setup.SetupServer.{SetupServer}
use Rattle.farm_storm.specs.declared.deed.Deed.{Deed}
use Rattle.farm_storm.specs.declared.deed.Deed.TheVariants.{Beat, Alloc, Submit, Run, Status, Deliver, Return}
use Rattle.farm_storm.specs.Deeds.{storm_deeds}

-- ---- the farm

-- 127.0.0.1 and a port
abbrev pub local : ℕ → Addr
local port = V4 (127 ∷ 0 ∷ 0 ∷ 1 ∷ []) port

abbrev pub scheduler_addr : Addr
scheduler_addr = local 10600

-- the build server of that number, and the one of that job: there are eight, and jobs go to them in turn
abbrev pub server_addr : ℕ → Addr
server_addr n = local (20001 + n % 8)

-- who sends requests
abbrev pub peer : Addr
peer = local 40000

-- the key of each build server
abbrev pub server_key : List ℕ
server_key = 1 ∷ []

abbrev pub storm_server : ℕ → SetupServer
storm_server k = record {
  addr = server_addr k;
  cpus = 1;
  nonce = 1;
  key = server_key;
  capacity = 64;
  builder = [];
}

unfoldable pub storm_setup : Setup
storm_setup = record {
  rules = One;
  scheduler = record {
    addr = scheduler_addr;
    base = 0;
    count = 0;
    client = codes "c1";
    auth = Plain (codes "s1");
  };
  servers = map storm_server (range_with_len 0 8);
}

-- ---- the requests

-- the archive of a round: eight bytes, the high one first
abbrev pub archive_of : ℕ → List ℕ
archive_of round = to_be_bytes w64 round

-- the token of a job
abbrev pub token_of : ℕ → List ℕ
token_of job = token_text server_key (job_claims_text job)

-- the run of a job: `cc` with no arguments and no environment in `/`, which makes `o`
abbrev pub storm_run : RunJobHttpRequest
storm_run = record {
  command = record {
    executable = codes "cc";
    arguments = [];
    env_vars = [];
    cwd = codes "/";
  };
  outputs = codes "o" ∷ [];
}

-- a client asks for a job with the round's archive as its toolchain
unfoldable pub alloc_request : ℕ → List ℕ
alloc_request round = request_text
    (alloc_with (addr_text scheduler_addr) (codes "c1") (id_of (archive_of round)))

-- a client brings the archive of the job's round, sixteen jobs a round
unfoldable pub submit_request : ℕ → List ℕ
submit_request job = request_text (submit_with (addr_text (server_addr job)) (token_of job)
    (record { 0 = job }) (archive_of (job / 16)))

-- a client asks for the run of a job, whose inputs are the eight bytes of its number, the high one first
unfoldable pub run_request : ℕ → List ℕ
run_request job = request_text
    (run_with (addr_text (server_addr job)) (token_of job) (record { 0 = job }) storm_run
    (to_be_bytes w64 job))

unfoldable pub status_request : List ℕ
status_request = request_text (status_with (addr_text scheduler_addr))

-- ---- the events

abbrev pub request_to : Addr → List ℕ → EventKind
request_to target bytes = kind.Request target peer bytes

-- what is done as event of that number. A call and a delivery are those of the event before it.
abbrev pub kind_of : ℕ → Deed → EventKind
kind_of number (Beat k) = kind.Beat (server_addr k)
kind_of number (Alloc round) = request_to scheduler_addr (alloc_request round)
kind_of number (Submit job) = request_to (server_addr job) (submit_request job)
kind_of number (Run job) = request_to (server_addr job) (run_request job)
kind_of number Status = request_to scheduler_addr status_request
kind_of number Deliver = kind.Deliver (number - 1)
kind_of number Return = kind.Return (number - 1)

-- an event happens at the moment of its number
abbrev pub event_of : ℕ → Deed → Event
event_of number deed = record { at = number; kind = kind_of number deed }

-- the first so many events
unfoldable pub storm_events : ℕ → List Event
storm_events n = map (λ p. event_of p.0 p.1) (enumerate_from 0 (storm_deeds n))
