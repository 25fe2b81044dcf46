-- The rows of a record of what serves, and what the one in memory shows.
use Rattle.std.specs.Prelude.{◌≡◌, ℕ, ◌⊎◌, if◌then◌else◌, List, [], ◌∷◌, ◌++◌, Result, Ok, Err, IsErr}
use Rattle.dist_types.specs.Cause.{counted}
use Rattle.dist_types.specs.InMemory.{is_listed}
use Rattle.dist_types.specs.declared.fault.Failed.{Failed}
use Rattle.dist_config.specs.declared.config.SchedulerConfig.{SchedulerConfig}
use Rattle.dist_config.specs.declared.config.ServerConfig.{ServerConfig}
use Rattle.dist_config.specs.declared.serve.Configuration.TheVariants.{Scheduler, Server}
use Rattle.dist_config.specs.declared.serve.ServeCall.{ServeCall}
use Rattle.dist_config.specs.declared.serve.MemServe.{MemServe}

-- the row of a scheduler's configuration and its answer
abbrev pub scheduler_call : SchedulerConfig → Result (Unit {0}) Failed → ServeCall
scheduler_call config answer = record { config = Scheduler config; answer = answer }

-- the row of a build server's configuration and its answer
abbrev pub server_call : ServerConfig → Result (Unit {0}) Failed → ServeCall
server_call config answer = record { config = Server config; answer = answer }

-- the numbers of the calls that are to fail
abbrev pub serve_fails : MemServe → List ℕ
serve_fails s = s.fails.items

-- how many calls were made, which is the number of the next one
abbrev pub serve_made : MemServe → ℕ
serve_made s = s.made

-- how often it failed
abbrev pub serve_faults : MemServe → ℕ
serve_faults s = s.faults

-- the record
abbrev pub serve_calls : MemServe → List ServeCall
serve_calls s = s.calls.items

-- how many calls found no memory for their row
abbrev pub serve_missed : MemServe → ℕ
serve_missed s = s.missed

-- the answer of a call that finds memory: Failed exactly where it is listed
abbrev pub serve_verdict : MemServe → Result (Unit {0}) Failed
serve_verdict s = if is_listed (serve_fails s) (serve_made s) then Err (record {}) else Ok (tt {0})

-- A call leaves one row, of what it answers, which is Failed exactly where the call is listed. Or it found no
-- memory for its row: then it fails, leaves none, and is counted.
abbrev pub LeavesRow : (Result (Unit {0}) Failed → ServeCall) → Result (Unit {0}) Failed → MemServe → MemServe
    → Type 0
LeavesRow row answer old new =
    ((serve_calls new ≡ serve_calls old ++ row answer ∷ []) × (answer ≡ serve_verdict old)
    × (serve_missed new ≡ serve_missed old))
    ⊎ ((serve_calls new ≡ serve_calls old) × IsErr answer
    × (serve_missed new ≡ counted (serve_missed old)))
