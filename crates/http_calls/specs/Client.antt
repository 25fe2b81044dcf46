-- What a client is, and what its calls ask, answer and leave.
use Rattle.std.specs.Prelude.{◌≡◌, ◌≢◌, ◌⊎◌, ◌<◌, ◌≤◌, ◌^◌, ℕ, List, [], ◌∷◌, ◌++◌, length, map, unwrap_or, Bool}
use Rattle.std.specs.Prelude.{Option, Some, None, Result, Ok, Err, String, string_bytes, Vec}
use Rattle.std.specs.declared.alloc.Global.{Global}
use Rattle.dist_types.specs.Cause.{Rose}
use Rattle.dist_types.specs.declared.command.CompileCommand.{CompileCommand}
use Rattle.dist_types.specs.declared.dialer.Asked.{Asked}
use Rattle.dist_types.specs.declared.results.JobAlloc.{JobAlloc}
use Rattle.dist_types.specs.declared.results.AllocJobResult.{AllocJobResult}
use Rattle.dist_types.specs.declared.results.SchedulerStatusResult.{SchedulerStatusResult}
use Rattle.dist_types.specs.declared.results.SubmitToolchainResult.{SubmitToolchainResult}
use Rattle.dist_types.specs.declared.results.RunJobResult.{RunJobResult}
use Rattle.dist_wire.specs.Reading as wire
use Rattle.dist_wire.specs.Spelling.{SpellsRun}
use Rattle.dist_wire.specs.Written.{run_text}
use Rattle.dist_wire.specs.declared.run.RunJobHttpRequest.{RunJobHttpRequest}
use Rattle.http_head.specs.WrittenRequest.{request_text}
use Rattle.http_routes.specs.RunHead.{run_body}
use Rattle.url.specs.Host.{host_text}
use Rattle.url.specs.Parts.{Parts, host_or_empty}
use Rattle.path_pkg.specs.Append.{Appends}
use Rattle.disk_cache.specs.Configs.{custom_of}
use Rattle.disk_cache.specs.Custom.{TellsCustom}
use Rattle.disk_cache.specs.Putting.{Gets, Puts}
use Rattle.disk_cache.specs.declared.custom.Custom.{Custom}
use Rattle.disk_cache.specs.declared.custom.Placed.{Placed}
use Rattle.disk_cache.specs.Toolchains.{Toolchains}
use Rattle.dist_types.specs.declared.toolchain_error.ToolchainError.{ToolchainError}
use Rattle.dist_types.specs.declared.toolchain_error.ToolchainError.TheVariants.{Memory as OutOfMemory}
use Rattle.http_calls.specs.Asking.{Asks, dialed_host}
use Rattle.http_calls.specs.Calls.{alloc_request, status_request, submit_request, run_request}
use Rattle.http_calls.specs.Calls.{ReadsSubmit, ReadsRun}
use Rattle.http_calls.specs.Servers.{port_at}
use Rattle.http_calls.specs.Urls.{IsHttp}
use Rattle.http_head.specs.declared.error.HttpError.{HttpError}
use Rattle.http_head.specs.declared.error.HttpError.TheVariants.{BadBase, HeadTooLong, LinkFault, NotLocal}
use Rattle.http_head.specs.declared.error.HttpError.TheVariants.{Packager, Local, Memory}

-- The scheduler's URL, the client's token, whether includes alone are rewritten, its toolchains, and its
-- dialer's record and count of faults.
pub record ClientParts : Type 0 where
  pub base : Parts
  pub token : List ℕ
  pub rewrites : Bool
  pub toolchains : Toolchains
  pub asked : Option (List Asked)
  pub faults : ℕ

-- with another record and another count of the dialer
abbrev pub with_dialer : ClientParts → Option (List Asked) → ℕ → ClientParts
with_dialer c asked faults =
    record {
      base = c.base;
      token = c.token;
      rewrites = c.rewrites;
      toolchains = c.toolchains;
      asked = asked;
      faults = faults;
    }

-- with other toolchains
abbrev pub with_toolchains : ClientParts → Toolchains → ClientParts
with_toolchains c toolchains =
    record {
      base = c.base;
      token = c.token;
      rewrites = c.rewrites;
      toolchains = toolchains;
      asked = c.asked;
      faults = c.faults;
    }

-- the record has this one row more
abbrev pub HasRow : Option (List Asked) → Asked → Option (List Asked) → Type 0
HasRow old row new = (rows : List Asked) × (old ≡ Some rows) × (new ≡ Some (rows ++ row ∷ []))

-- the row that was added, if one was, has bytes of which that holds
abbrev pub RowIs : (List ℕ → Type 0) → ClientParts → ClientParts → Type 0
RowIs P old new = (row : Asked) → HasRow old.asked row new.asked → P row.request

-- A host was asked once, or memory ran out; LinkFault came only where the dialer's count rose, whatever else
-- came left the count as it was, and nothing else changed.
pub record IsAsked {M : Type 0} (at : List ℕ → Option (M × List ℕ)) (host : List ℕ) (port : ℕ)
    (request : List ℕ) (answer : Result M HttpError) (old new : ClientParts) : Type 0 where
  pub asks : Asks at host port request answer old.asked new.asked
  pub cause : answer ≡ Err LinkFault → Rose old.faults new.faults
  pub steady : answer ≢ Err LinkFault → new.faults ≡ old.faults
  pub later : old.faults ≤ new.faults
  pub changes : new ≡ with_dialer old new.asked new.faults

-- A host was asked so, and the row that was added, if one was, has bytes of which that holds.
pub record IsAskedAs {M : Type 0} (P : List ℕ → Type 0) (at : List ℕ → Option (M × List ℕ)) (host : List ℕ)
    (port : ℕ) (request : List ℕ) (answer : Result M HttpError) (old new : ClientParts) : Type 0 where
  pub asked : IsAsked at host port request answer old new
  pub row : RowIs P old new

-- ---- to the scheduler

-- the scheduler was asked so, or its URL is no `http` URL
abbrev pub AsksScheduler : {M : Type 0} → (List ℕ → Option (M × List ℕ)) → List ℕ → Result M HttpError
    → ClientParts → ClientParts → Type 0
AsksScheduler at request answer old new =
    (IsHttp old.base × IsAsked at (host_text (host_or_empty old.base)) (unwrap_or old.base.port 80) request
    answer old new)
    ⊎ (¬ (IsHttp old.base) × (answer ≡ Err BadBase) × (new ≡ old))

-- a job with a toolchain was asked for, under the client's token
abbrev pub Allocates : List ℕ → Result AllocJobResult HttpError → ClientParts → ClientParts → Type 0
Allocates tc answer old new = AsksScheduler wire.alloc_at (request_text (alloc_request old.base old.token tc))
    answer old new

-- the status was asked for, under no token
abbrev pub AsksStatus : Result SchedulerStatusResult HttpError → ClientParts → ClientParts → Type 0
AsksStatus answer old new = AsksScheduler wire.status_at (request_text (status_request old.base)) answer old
    new

-- ---- to the server of a job

-- a refusal of the client's toolchains, as a call tells it
abbrev pub local_error : ToolchainError → HttpError
local_error OutOfMemory = Memory
local_error e = Local e

-- what follows the look for the archive: it was brought to the job's server; where there is none, or it was
-- not read, nobody is asked
abbrev pub AfterGet : JobAlloc → Result (Option (List ℕ)) ToolchainError
    → Result SubmitToolchainResult HttpError → ClientParts → ClientParts → Type 0
AfterGet job (Ok (Some archive)) answer old new =
    IsAskedAs (ReadsSubmit job archive) wire.submit_at (dialed_host job.server_id) (port_at job.server_id)
    (request_text (submit_request job archive)) answer old new
AfterGet job (Ok None) answer old new = (answer ≡ Err NotLocal) × (new ≡ old)
AfterGet job (Err e) answer old new = (answer ≡ Err (local_error e)) × (new ≡ old)

-- the archive of a toolchain was got, and brought to the job's server
pub record Submits (job : JobAlloc) (tc : List ℕ) (answer : Result SubmitToolchainResult HttpError)
    (old new : ClientParts) : Type 0 where
  pub found : Result (Option (List ℕ)) ToolchainError
  pub between : Toolchains
  pub gets : Gets tc found old.toolchains between
  pub follows : AfterGet job found answer (with_toolchains old between) new

-- What became of the inputs of a run: HeadTooLong exactly where command and outputs have 2^32 bytes or more,
-- and then the packager is not called; Packager only where its count rose; else what it packed, where it
-- tells that. A packager that answered was called once; its count is as it was where it did not refuse.
abbrev pub PacksInputs : Type 0 → Type 0 → Option (List ℕ) → ℕ → ℕ → RunJobHttpRequest
    → Result (List ℕ) HttpError → Type 0
PacksInputs Uncalled Called told before after run (Ok inputs) = Appends told [] inputs
    × (length (run_text run) < 2 ^ 32) × (after ≡ before) × Called
PacksInputs Uncalled Called told before after run (Err HeadTooLong) =
    (2 ^ 32 ≤ length (run_text run)) × Uncalled
PacksInputs Uncalled Called told before after run (Err Packager) = Rose before after
    × (length (run_text run) < 2 ^ 32) × Called
PacksInputs Uncalled Called told before after run (Err Memory) = after ≡ before
PacksInputs Uncalled Called told before after run (Err other) = ⊥

-- the same as the body of a run
abbrev pub PacksBody : Type 0 → Type 0 → Option (List ℕ) → ℕ → ℕ → RunJobHttpRequest
    → Result (List ℕ) HttpError → Type 0
PacksBody Uncalled Called told before after run (Ok body) = (inputs : List ℕ)
    × PacksInputs Uncalled Called told before after run (Ok inputs) × (body ≡ run_body run inputs)
    × SpellsRun run (run_text run)
PacksBody Uncalled Called told before after run (Err e) =
    PacksInputs Uncalled Called told before after run (Err e)

-- the same as the request to run a job
abbrev pub PacksRequest : Type 0 → Type 0 → Option (List ℕ) → ℕ → ℕ → JobAlloc → RunJobHttpRequest
    → Result (List ℕ) HttpError → Type 0
PacksRequest Uncalled Called told before after job run (Ok request) =
    (inputs : List ℕ) × PacksInputs Uncalled Called told before after run (Ok inputs)
    × (request ≡ request_text (run_request job run inputs)) × ReadsRun job run inputs request
PacksRequest Uncalled Called told before after job run (Err e) =
    PacksInputs Uncalled Called told before after run (Err e)

abbrev pub AfterPacking : JobAlloc → RunJobHttpRequest → Result (List ℕ) HttpError
    → Result RunJobResult HttpError → ClientParts → ClientParts → Type 0
AfterPacking job run (Ok inputs) answer old new =
    IsAskedAs (ReadsRun job run inputs) wire.ran_at (dialed_host job.server_id) (port_at job.server_id)
    (request_text (run_request job run inputs)) answer old new
AfterPacking job run (Err e) answer old new = (answer ≡ Err e) × (new ≡ old)

-- the inputs of a run were packed, and its server asked to run it
pub record Runs (Uncalled Called : Type 0) (told : Option (List ℕ)) (before after : ℕ) (job : JobAlloc)
    (run : RunJobHttpRequest) (answer : Result RunJobResult HttpError) (old new : ClientParts) : Type 0 where
  pub packed : Result (List ℕ) HttpError
  pub packs : PacksInputs Uncalled Called told before after run packed
  pub follows : AfterPacking job run packed answer old new

-- the run of a command with these outputs
abbrev pub run_of : CompileCommand → Vec (String Global) Global → RunJobHttpRequest
run_of command outputs = record { command = command; outputs = map string_bytes outputs.items }

-- the first part of an answer
abbrev pub first_of : {M T : Type 0} → Result (M × T) HttpError → Result M HttpError
first_of (Ok x) = Ok x.0
first_of (Err e) = Err e

-- ---- its toolchains

-- a toolchain was put, and nobody was asked
pub record PutsHere (Uncalled Called : Type 0) (told : Option (List ℕ)) (before after : ℕ) (path key : List ℕ)
    (answer : Result Placed ToolchainError) (old new : ClientParts) : Type 0 where
  pub puts : Puts Uncalled Called told before after path key answer old.toolchains new.toolchains
  pub changes : new ≡ with_toolchains old new.toolchains

-- the archive's name in what is told of a configured archive
abbrev pub IsName : Option (Result Custom ToolchainError) → Result (Option (String Global)) ToolchainError
    → Type 0
IsName None answer = answer ≡ Ok None
IsName (Some (Ok custom)) (Ok (Some name)) = string_bytes name ≡ custom.archive
IsName (Some (Ok custom)) (Ok None) = ⊥
IsName (Some (Ok custom)) (Err e) = ⊥
IsName (Some (Err e)) answer = answer ≡ Err e

-- the name of the archive that is configured for a compiler was told, and nobody was asked
pub record TellsArchive (path : List ℕ) (answer : Result (Option (String Global)) ToolchainError)
    (old new : ClientParts) : Type 0 where
  pub custom : Option (Result Custom ToolchainError)
  pub tells : TellsCustom (custom_of path old.toolchains.configs) path custom old.toolchains new.toolchains
  pub name : IsName custom answer
  pub changes : new ≡ with_toolchains old new.toolchains
