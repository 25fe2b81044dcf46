-- What a line says, as its reader finds it. Of an address with a scope the reader takes or refuses the word, as it
-- is told.
use Rattle.std.specs.Prelude.{ℕ, nat_eq, Bool, true, false, if◌then◌else◌, List, Option, Some, None, codes}
use Rattle.std.specs.Cmp.Lexicographic.{pointwise}
use Rattle.dist_types.specs.Addr.{◌>>=◌}
use Rattle.dist_types.specs.declared.results.JobState.{JobState}
use Rattle.dist_types.specs.declared.results.JobState.TheVariants.{Pending, Ready, Started, Complete}
use Rattle.farm_script.specs.Words.{first_word, strip, field, named, last, behind}
use Rattle.farm_script.specs.Fields.{host_at, number_at, token_at}
use Rattle.farm_script.specs.Lines.{is_skipped}
use Rattle.farm_script.specs.declared.lines.Scopes.{Scopes}
use Rattle.quota_script.specs.declared.event.EventKind.{EventKind}
use Rattle.quota_script.specs.declared.event.EventKind.TheVariants.{Alloc, Commit, Undo, Beat, Update, Status}
use Rattle.quota_script.specs.declared.event.Event.{Event}
use Rattle.quota_script.specs.declared.line.Line.{Line}
use Rattle.quota_script.specs.declared.line.Line.TheVariants as lines

-- the name of a job's state
abbrev pub state_at : List ℕ → Option JobState
state_at t =
    if pointwise nat_eq t (codes "pending") then Some Pending
    else if pointwise nat_eq t (codes "ready") then Some Ready
    else if pointwise nat_eq t (codes "started") then Some Started
    else if pointwise nat_eq t (codes "complete") then Some Complete
    else None

-- the name of a state that a job may begin in, as whether the job is ready
abbrev pub ready_at : List ℕ → Option Bool
ready_at t =
    if pointwise nat_eq t (codes "pending") then Some false
    else if pointwise nat_eq t (codes "ready") then Some true
    else None

-- behind the word commit
unfoldable pub commit_at : List ℕ → Option EventKind
commit_at t = do
  job ← field number_at t
  ready ← ready_at job.1
  Some (Commit job.0 ready)

-- behind the word beat
unfoldable pub beat_at : Scopes → List ℕ → Option EventKind
beat_at scopes t = do
  server ← field (host_at scopes) t
  nonce ← named (codes "nonce ") number_at server.1
  cpus ← last (codes "cpus ") number_at nonce.1
  Some (Beat server.0 nonce.0 cpus)

-- behind the word update
unfoldable pub update_at : Scopes → List ℕ → Option EventKind
update_at scopes t = do
  server ← field (host_at scopes) t
  job ← field number_at server.1
  state ← state_at job.1
  Some (Update server.0 job.0 state)

-- a word, and what stands behind it
abbrev pub kind_behind : Scopes → List ℕ → List ℕ → Option EventKind
kind_behind scopes word t =
    if pointwise nat_eq word (codes "alloc") then (token_at t >>= λ client. Some (Alloc client))
    else if pointwise nat_eq word (codes "commit") then commit_at t
    else if pointwise nat_eq word (codes "undo") then (number_at t >>= λ job. Some (Undo job))
    else if pointwise nat_eq word (codes "beat") then beat_at scopes t
    else if pointwise nat_eq word (codes "update") then update_at scopes t
    else None

-- what happens, behind its moment
unfoldable pub kind_at : Scopes → List ℕ → Option EventKind
kind_at scopes t = if pointwise nat_eq t (codes "status") then Some Status
    else (first_word t >>= λ word. kind_behind scopes word.0 word.1)

-- a moment, and what happens at it
unfoldable pub event_at : Scopes → List ℕ → Option Event
event_at scopes t = do
  at ← field number_at t
  kind ← kind_at scopes at.1
  Some (record { at = at.0; kind = kind })

-- behind the word client
unfoldable pub client_at : List ℕ → Option Line
client_at t = do
  name ← field token_at t
  limit ← last (codes "limit ") number_at name.1
  Some (lines.Client name.0 limit)

-- what a line says that is not skipped: by its first word, else an event
unfoldable pub said_at : Scopes → List ℕ → Option Line
said_at scopes t =
    behind (strip (codes "ids ") t) (λ r. number_at r >>= λ base. Some (lines.Ids base))
    (behind (strip (codes "client ") t) client_at
    (event_at scopes t >>= λ e. Some (lines.Event e)))

-- the value that the whole line spells, if it spells one
unfoldable pub line_at : Scopes → List ℕ → Option Line
line_at scopes t = if is_skipped t then Some lines.Skip else said_at scopes t
