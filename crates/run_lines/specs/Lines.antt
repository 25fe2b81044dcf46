-- What a printed line says, by its first word.
use Rattle.std.specs.Prelude.{ℕ, ◌==◌, ◌||◌, nat_eq, if◌then◌else◌, List, false, Option, Some, None, codes}
use Rattle.std.specs.Cmp.Lexicographic.{pointwise}
use Rattle.dist_types.specs.Addr.{◌>>=◌}
use Rattle.dist_types.specs.declared.addr.Addr.{Addr}
use Rattle.core_rules.specs.declared.rows.ServerRow.{ServerRow}
use Rattle.farm_script.specs.Words.{first_word, field, named, last}
use Rattle.farm_script.specs.Fields.{number_at}
use Rattle.farm_script.specs.Lines.{line_at}
use Rattle.farm_script.specs.Place.{event_in}
use Rattle.farm_script.specs.declared.event.Event.{Event}
use Rattle.farm_script.specs.declared.lines.Scopes.TheVariants.{Refused}
use Rattle.farm_entries.specs.declared.entry.EntryWord.{EntryWord}
use Rattle.farm_entries.specs.declared.entry.EntryWord.TheVariants as word
use Rattle.run_lines.specs.Texts.{event_text}
use Rattle.run_lines.specs.Fields.{exactly, exact_at, lower_at, job_of, maybe_at, either_at, stage_at, id_at}
use Rattle.run_lines.specs.CoreLines.{core_at}
use Rattle.run_lines.specs.StepLines.{step_at}
use Rattle.run_lines.specs.declared.line.RunLine.{RunLine}
use Rattle.run_lines.specs.declared.line.RunLine.TheVariants.{Run, Entry, Core, Step, Call, Reply, Word, Books, Ids}
use Rattle.run_lines.specs.declared.line.RunLine.TheVariants.{Server, Job, Held, Archive, End}

-- a word
abbrev pub word_at : List ℕ → Option EntryWord
word_at t =
    if pointwise nat_eq t (codes "void") then Some word.Void
    else if pointwise nat_eq t (codes "down") then Some word.Down
    else if pointwise nat_eq t (codes "waiting") then Some word.Waiting
    else if pointwise nat_eq t (codes "died") then Some word.Died else None

-- the two versions of the rules
abbrev pub as_version : ℕ → Option ℕ
as_version v = if (v == 1) || (v == 2) then Some v else None

-- the version of the rules
abbrev pub version_at : List ℕ → Option ℕ
version_at t = number_at t >>= as_version

-- behind the word run
unfoldable pub run_at : List ℕ → Option RunLine
run_at t = do
  version ← field version_at t
  entries ← last (codes "entries ") number_at version.1
  Some (Run version.0 entries)

-- the event of a script's line
abbrev pub script_event_at : List ℕ → Option Event
script_event_at t = line_at Refused t >>= event_in

-- an event, in the one spelling that is printed of it
unfoldable pub printed_event_at : List ℕ → Option Event
printed_event_at t = script_event_at t >>= exactly event_text t

-- behind the word entry
unfoldable pub entry_at : List ℕ → Option RunLine
entry_at t = do
  number ← field number_at t
  e ← printed_event_at number.1
  Some (Entry number.0 e)

-- behind the word core
unfoldable pub core_line_at : List ℕ → Option RunLine
core_line_at t = do
  number ← field number_at t
  kind ← core_at number.1
  Some (Core number.0 kind)

-- behind the word step
unfoldable pub step_line_at : List ℕ → Option RunLine
step_line_at t = do
  server ← field exact_at t
  kind ← step_at server.1
  Some (Step server.0 kind)

-- behind the word call
unfoldable pub call_at : List ℕ → Option RunLine
call_at t = do
  target ← field exact_at t
  bytes ← lower_at target.1
  Some (Call target.0 bytes)

-- behind the word reply
unfoldable pub reply_at : List ℕ → Option RunLine
reply_at t = do
  to ← field number_at t
  bytes ← lower_at to.1
  Some (Reply to.0 bytes)

-- behind the word ids
unfoldable pub ids_at : List ℕ → Option RunLine
ids_at t = do
  base ← named (codes "base ") number_at t
  count ← last (codes "count ") number_at base.1
  Some (Ids base.0 count)

-- a registration that is not draining
abbrev pub row_of : Addr → ℕ → ℕ → ℕ → ℕ → ℕ → Option ℕ → ServerRow
row_of server reg cpus nonce seen load error = record {
  reg = reg;
  server = server;
  cpus = cpus;
  nonce = nonce;
  seen = seen;
  load = load;
  error = error;
  draining = false;
}

-- behind the word server
unfoldable pub row_at : List ℕ → Option RunLine
row_at t = do
  server ← field exact_at t
  reg ← named (codes "reg ") number_at server.1
  cpus ← named (codes "cpus ") number_at reg.1
  nonce ← named (codes "nonce ") number_at cpus.1
  seen ← named (codes "seen ") number_at nonce.1
  load ← named (codes "load ") number_at seen.1
  error ← last (codes "error ") maybe_at load.1
  Some (Server (row_of server.0 reg.0 cpus.0 nonce.0 seen.0 load.0 error))

-- behind the word job
unfoldable pub job_line_at : List ℕ → Option RunLine
job_line_at t = do
  job ← field number_at t
  reg ← named (codes "reg ") number_at job.1
  stage ← field stage_at reg.1
  claimed ← either_at (codes "claimed") (codes "unclaimed") stage.1
  Some (Job (job_of job.0) reg.0 stage.0 claimed)

-- behind the word held
unfoldable pub held_at : List ℕ → Option RunLine
held_at t = do
  server ← field exact_at t
  job ← field number_at server.1
  tc ← id_at job.1
  Some (Held server.0 (job_of job.0) tc)

-- behind the word archive
unfoldable pub archive_line_at : List ℕ → Option RunLine
archive_line_at t = do
  server ← field exact_at t
  tc ← field id_at server.1
  size ← number_at tc.1
  Some (Archive server.0 tc.0 size)

-- a line, by its first word and what stands behind it
abbrev pub line_behind : List ℕ → List ℕ → Option RunLine
line_behind w t =
    if pointwise nat_eq w (codes "run") then run_at t
    else if pointwise nat_eq w (codes "entry") then entry_at t
    else if pointwise nat_eq w (codes "core") then core_line_at t
    else if pointwise nat_eq w (codes "step") then step_line_at t
    else if pointwise nat_eq w (codes "call") then call_at t
    else if pointwise nat_eq w (codes "reply") then reply_at t
    else if pointwise nat_eq w (codes "word") then (word_at t >>= λ x. Some (Word x))
    else if pointwise nat_eq w (codes "ids") then ids_at t
    else if pointwise nat_eq w (codes "server") then row_at t
    else if pointwise nat_eq w (codes "job") then job_line_at t
    else if pointwise nat_eq w (codes "held") then held_at t
    else if pointwise nat_eq w (codes "archive") then archive_line_at t
    else None

-- the value that the whole line is the text of, if it is one
unfoldable pub run_line_at : List ℕ → Option RunLine
run_line_at t =
    if pointwise nat_eq t (codes "books") then Some Books
    else if pointwise nat_eq t (codes "end") then Some End
    else (first_word t >>= λ w. line_behind w.0 w.1)
