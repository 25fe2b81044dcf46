-- What a line says. Of an address with a scope the reader takes or refuses the word, as it is told.
use Rattle.std.specs.Prelude.{ℕ, ◌==◌, nat_eq, Bool, true, if◌then◌else◌, List, [], ◌∷◌, Option, Some, None}
use Rattle.std.specs.Prelude.{codes}
use Rattle.std.specs.Cmp.Lexicographic.{pointwise}
use Rattle.dist_types.specs.Addr.{◌>>=◌}
use Rattle.farm_script.specs.Words.{first_word, next_word, words, strip, field, named, last, behind}
use Rattle.farm_script.specs.Fields.{addr_at, host_at, number_at, code_at, token_at, hex_at, key_at, name_at}
use Rattle.farm_script.specs.declared.lines.Scopes.{Scopes}
use Rattle.farm_script.specs.declared.setup.BuilderLine.{BuilderLine}
use Rattle.farm_script.specs.declared.setup.BuilderLine.TheVariants.{Listed, Refuse}
use Rattle.farm_script.specs.declared.setup.SetupAuth.{SetupAuth}
use Rattle.farm_script.specs.declared.setup.SetupAuth.TheVariants.{Plain, Jwt}
use Rattle.farm_script.specs.declared.setup.SetupScheduler.{SetupScheduler}
use Rattle.farm_script.specs.declared.setup.SetupServer.{SetupServer}
use Rattle.farm_script.specs.declared.event.Event.{Event}
use Rattle.farm_script.specs.declared.event.EventKind.{EventKind}
use Rattle.farm_script.specs.declared.event.EventKind.TheVariants.{Request, Deliver, Fail, Return, Answer}
use Rattle.farm_script.specs.declared.event.EventKind.TheVariants.{Beat, Restart}
use Rattle.farm_script.specs.declared.lines.SetupLine.{SetupLine}
use Rattle.farm_script.specs.declared.lines.SetupLine.TheVariants.{Version2, Scheduler, Server, Builder}
use Rattle.farm_script.specs.declared.lines.Line.{Line}
use Rattle.farm_script.specs.declared.lines.Line.TheVariants as lines

-- one token for all build servers, or a key
unfoldable pub auth_at : List ℕ → Option SetupAuth
auth_at t =
    behind (strip (codes "plain ") t) (λ r. token_at r >>= λ token. Some (Plain token))
    (last (codes "jwt ") key_at t >>= λ key. Some (Jwt key))

-- behind the word scheduler
unfoldable pub scheduler_at : Scopes → List ℕ → Option SetupScheduler
scheduler_at scopes t = do
  addr ← field (host_at scopes) t
  base ← named (codes "base ") number_at addr.1
  count ← named (codes "count ") number_at base.1
  client ← named (codes "client ") token_at count.1
  auth ← auth_at client.1
  Some (record { addr = addr.0; base = base.0; count = count.0; client = client.0; auth = auth })

-- behind the word server
unfoldable pub server_at : Scopes → List ℕ → Option SetupServer
server_at scopes t = do
  addr ← field (host_at scopes) t
  cpus ← named (codes "cpus ") number_at addr.1
  nonce ← named (codes "nonce ") number_at cpus.1
  key ← named (codes "key ") key_at nonce.1
  capacity ← last (codes "capacity ") number_at key.1
  Some (record {
    addr = addr.0;
    cpus = cpus.0;
    nonce = nonce.0;
    key = key.0;
    capacity = capacity;
    builder = [];
  })

-- the names and bytes of outputs, a word each
unfoldable pub outputs_at : List (List ℕ) → Option (List (List ℕ × List ℕ))
outputs_at [] = Some []
outputs_at (name ∷ []) = None
outputs_at (name ∷ bytes ∷ more) = do
  n ← name_at name
  b ← hex_at bytes
  outputs ← outputs_at more
  Some ((n, b) ∷ outputs)

-- the name and the bytes of an output, and what stands behind the space behind them, where there is one
unfoldable pub output_at : List ℕ → Option ((List ℕ × List ℕ) × Option (List ℕ))
output_at t = do
  word ← first_word t
  name ← name_at word.0
  bytes ← hex_at (next_word word.1).0
  Some ((name, bytes), (next_word word.1).1)

-- the outputs that stand behind the space, where there is one
abbrev pub outputs_behind : Option (List ℕ) → Option (List (List ℕ × List ℕ))
outputs_behind None = Some []
outputs_behind (Some t) = outputs_at (words t)

-- behind the word ok
unfoldable pub listed_at : List ℕ → Option BuilderLine
listed_at t = do
  code ← field code_at t
  stdout ← field hex_at code.1
  stderr ← hex_at (next_word stdout.1).0
  outputs ← outputs_behind (next_word stdout.1).1
  Some (Listed code.0 stdout.0 stderr outputs)

-- a refusal, or an answer that is listed
unfoldable pub answer_line_at : List ℕ → Option BuilderLine
answer_line_at t = if pointwise nat_eq t (codes "refuse") then Some Refuse else last (codes "ok ") listed_at t

-- behind the word builder: its address names an earlier server, so it has no scope
unfoldable pub builder_at : List ℕ → Option SetupLine
builder_at t = do
  addr ← field addr_at t
  answer ← answer_line_at addr.1
  Some (Builder addr.0 answer)

-- behind the word request
unfoldable pub request_at : Scopes → List ℕ → Option EventKind
request_at scopes t = do
  target ← field (host_at scopes) t
  peer ← field (host_at scopes) target.1
  bytes ← hex_at peer.1
  Some (Request target.0 peer.0 bytes)

-- behind the word answer
unfoldable pub answer_at : List ℕ → Option EventKind
answer_at t = do
  call ← field number_at t
  bytes ← hex_at call.1
  Some (Answer call.0 bytes)

-- behind the word restart
unfoldable pub restart_at : Scopes → List ℕ → Option EventKind
restart_at scopes t = do
  server ← field (host_at scopes) t
  key ← named (codes "key ") key_at server.1
  nonce ← last (codes "nonce ") number_at key.1
  Some (Restart server.0 key.0 nonce)

-- a word, and what stands behind it
abbrev pub kind_behind : Scopes → List ℕ → List ℕ → Option EventKind
kind_behind scopes word t =
    if pointwise nat_eq word (codes "request") then request_at scopes t
    else if pointwise nat_eq word (codes "deliver") then (number_at t >>= λ call. Some (Deliver call))
    else if pointwise nat_eq word (codes "fail") then (number_at t >>= λ call. Some (Fail call))
    else if pointwise nat_eq word (codes "return") then (number_at t >>= λ delivery. Some (Return delivery))
    else if pointwise nat_eq word (codes "answer") then answer_at t
    else if pointwise nat_eq word (codes "beat") then (host_at scopes t >>= λ server. Some (Beat server))
    else if pointwise nat_eq word (codes "restart") then restart_at scopes t
    else None

-- what happens, behind its moment
unfoldable pub kind_at : Scopes → List ℕ → Option EventKind
kind_at scopes t = do
  word ← first_word t
  kind_behind scopes word.0 word.1

-- a moment, and what happens at it
unfoldable pub event_at : Scopes → List ℕ → Option Event
event_at scopes t = do
  at ← field number_at t
  kind ← kind_at scopes at.1
  Some (record { at = at.0; kind = kind })

-- an empty line, and one that begins with #
abbrev pub is_skipped : List ℕ → Bool
is_skipped [] = true
is_skipped (c ∷ cs) = c == 35

-- what a line says by its first word, else an event
abbrev pub by_first_word : Scopes → List ℕ → Option Line
by_first_word scopes t =
    behind (strip (codes "scheduler ") t)
    (λ r. scheduler_at scopes r >>= λ s. Some (lines.Setup (Scheduler s)))
    (behind (strip (codes "server ") t) (λ r. server_at scopes r >>= λ s. Some (lines.Setup (Server s)))
    (behind (strip (codes "builder ") t) (λ r. builder_at r >>= λ b. Some (lines.Setup b))
    (event_at scopes t >>= λ e. Some (lines.Event e))))

-- what a line says that is not skipped: version 2, or what its first word says
unfoldable pub said_at : Scopes → List ℕ → Option Line
said_at scopes t =
    if pointwise nat_eq t (codes "version 2") then Some (lines.Setup Version2) else by_first_word scopes t

-- the value that the whole line spells, if it spells one
unfoldable pub line_at : Scopes → List ℕ → Option Line
line_at scopes t = if is_skipped t then Some lines.Skip else said_at scopes t
