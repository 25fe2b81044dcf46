-- What the line of a core entry says, behind its number.
use Rattle.std.specs.Prelude.{ℕ, nat_eq, if◌then◌else◌, List, [], Option, Some, None, codes}
use Rattle.std.specs.Cmp.Lexicographic.{pointwise}
use Rattle.dist_types.specs.Addr.{◌>>=◌}
use Rattle.core_rules.specs.declared.entry.CoreKind.{CoreKind}
use Rattle.core_rules.specs.declared.entry.CoreKind.TheVariants as core
use Rattle.core_rules.specs.declared.entry.Reserved.{Reserved}
use Rattle.core_rules.specs.declared.entry.Reserved.TheVariants as reserve
use Rattle.core_rules.specs.declared.entry.UpdateAnswer.{UpdateAnswer}
use Rattle.core_rules.specs.declared.entry.UpdateAnswer.TheVariants.{Accepted, Unknown, Wrong, Transition}
use Rattle.farm_script.specs.Words.{first_word, strip, field, named, last, behind}
use Rattle.farm_script.specs.Fields.{number_at}
use Rattle.run_lines.specs.Fields.{exact_at, numbers_at, jobs_at, job_of, maybe_at, state_at, either_at}

-- what a reserve gave, behind the word job
unfoldable pub job_at : List ℕ → Option Reserved
job_at t = do
  job ← field number_at t
  reg ← named (codes "reg ") number_at job.1
  forgiven ← last (codes "forgiven ") numbers_at reg.1
  Some (reserve.Job (job_of job.0) reg.0 forgiven)

-- behind the word reserve
unfoldable pub reserved_at : List ℕ → Option Reserved
reserved_at t =
    behind (strip (codes "job ") t) job_at
    (behind (strip (codes "none ") t) (λ r. number_at r >>= λ n. Some (reserve.NoRoom n))
    (if pointwise nat_eq t (codes "spent") then Some reserve.Spent else None))

-- behind the word commit
unfoldable pub commit_at : List ℕ → Option CoreKind
commit_at t = do
  job ← named (codes "job ") number_at t
  state ← named (codes "state ") state_at job.1
  kept ← either_at (codes "kept") (codes "dropped") state.1
  Some (core.Commit (job_of job.0) state.0 kept)

-- behind the word undo
unfoldable pub undo_at : List ℕ → Option CoreKind
undo_at t = do
  job ← named (codes "job ") number_at t
  noted ← named (codes "noted ") maybe_at job.1
  ended ← last (codes "ended ") (either_at (codes "yes") (codes "no")) noted.1
  Some (core.Undo (job_of job.0) noted.0 ended)

-- behind the word beat
unfoldable pub beat_at : List ℕ → Option CoreKind
beat_at t = do
  server ← field exact_at t
  nonce ← named (codes "nonce ") number_at server.1
  cpus ← named (codes "cpus ") number_at nonce.1
  pruned ← named (codes "pruned ") numbers_at cpus.1
  reaped ← named (codes "reaped ") jobs_at pruned.1
  replaced ← named (codes "replaced ") maybe_at reaped.1
  is_new ← either_at (codes "new") (codes "old") replaced.1
  Some (core.Beat server.0 nonce.0 cpus.0 [] pruned.0 reaped.0 replaced.0 is_new)

-- the answer to an update
unfoldable pub advance_at : List ℕ → Option UpdateAnswer
advance_at t =
    behind (strip (codes "transition ") t) (λ r. state_at r >>= λ s. Some (Transition s))
    (if pointwise nat_eq t (codes "accepted") then Some Accepted
    else if pointwise nat_eq t (codes "unknown") then Some Unknown
    else if pointwise nat_eq t (codes "wrong") then Some Wrong else None)

-- behind the word update
unfoldable pub update_at : List ℕ → Option CoreKind
update_at t = do
  server ← field exact_at t
  job ← named (codes "job ") number_at server.1
  state ← named (codes "state ") state_at job.1
  answer ← advance_at state.1
  Some (core.Update server.0 (job_of job.0) state.0 answer)

-- behind the word status
unfoldable pub status_at : List ℕ → Option CoreKind
status_at t = do
  pruned ← named (codes "pruned ") numbers_at t
  servers ← named (codes "servers ") number_at pruned.1
  cpus ← named (codes "cpus ") number_at servers.1
  jobs ← last (codes "jobs ") number_at cpus.1
  Some (core.Status pruned.0 servers.0 cpus.0 jobs)

-- behind the word drain
unfoldable pub drain_at : List ℕ → Option CoreKind
drain_at t = do
  server ← field exact_at t
  nonce ← named (codes "nonce ") number_at server.1
  on ← field (either_at (codes "on") (codes "off")) nonce.1
  reg ← last (codes "reg ") maybe_at on.1
  Some (core.Drain server.0 nonce.0 on.0 reg)

-- what a core entry says, by its word
abbrev pub core_behind : List ℕ → List ℕ → Option CoreKind
core_behind w t =
    if pointwise nat_eq w (codes "reserve") then (reserved_at t >>= λ r. Some (core.Reserve r))
    else if pointwise nat_eq w (codes "commit") then commit_at t
    else if pointwise nat_eq w (codes "undo") then undo_at t
    else if pointwise nat_eq w (codes "beat") then beat_at t
    else if pointwise nat_eq w (codes "update") then update_at t
    else if pointwise nat_eq w (codes "status") then status_at t
    else if pointwise nat_eq w (codes "drain") then drain_at t
    else None

-- a core entry
unfoldable pub core_at : List ℕ → Option CoreKind
core_at t = first_word t >>= λ w. core_behind w.0 w.1
