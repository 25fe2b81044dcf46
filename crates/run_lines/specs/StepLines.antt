-- What the line of a step says, behind the address of its build server.
use Rattle.std.specs.Prelude.{ℕ, nat_eq, if◌then◌else◌, List, Option, Some, None, codes}
use Rattle.std.specs.Cmp.Lexicographic.{pointwise}
use Rattle.dist_types.specs.Addr.{◌>>=◌}
use Rattle.farm_script.specs.Words.{first_word, strip, field, named, last, behind}
use Rattle.farm_script.specs.Fields.{number_at}
use Rattle.build_server.specs.declared.submit.Submitted.{Submitted}
use Rattle.build_server.specs.declared.submit.Submitted.TheVariants as submitted
use Rattle.build_server.specs.declared.run.Ran.{Ran}
use Rattle.build_server.specs.declared.run.Ran.TheVariants as ran
use Rattle.farm_entries.specs.declared.entry.HeardAs.{HeardAs}
use Rattle.farm_entries.specs.declared.entry.HeardAs.TheVariants as heard
use Rattle.farm_entries.specs.declared.entry.StepKind.{StepKind}
use Rattle.farm_entries.specs.declared.entry.StepKind.TheVariants as step
use Rattle.run_lines.specs.Fields.{job_of, either_at, id_at, ids_at, archives_at}

-- how a heartbeat was settled
abbrev pub heard_at : List ℕ → Option HeardAs
heard_at t =
    if pointwise nat_eq t (codes "new") then Some heard.New
    else if pointwise nat_eq t (codes "old") then Some heard.Old
    else if pointwise nat_eq t (codes "lost") then Some heard.Lost else None

-- behind the word assigned
unfoldable pub assigned_at : List ℕ → Option StepKind
assigned_at t = do
  job ← field number_at t
  tc ← field id_at job.1
  ready ← either_at (codes "ready") (codes "pending") tc.1
  Some (step.Assigned (job_of job.0) tc.0 ready)

-- behind the word stored
unfoldable pub stored_at : List ℕ → Option Submitted
stored_at t = do
  size ← field number_at t
  dropped ← last (codes "dropped ") ids_at size.1
  Some (submitted.Stored size.0 dropped)

-- how a submission went
unfoldable pub outcome_at : List ℕ → Option Submitted
outcome_at t =
    behind (strip (codes "stored ") t) stored_at
    (behind (strip (codes "refused folder dropped ") t) (λ r. ids_at r >>= λ d. Some (submitted.Folder d))
    (if pointwise nat_eq t (codes "none") then Some submitted.None
    else if pointwise nat_eq t (codes "listed") then Some submitted.Listed
    else if pointwise nat_eq t (codes "refused digest") then Some submitted.Digest
    else if pointwise nat_eq t (codes "refused capacity") then Some submitted.Capacity else None))

-- behind the word submitted
unfoldable pub submitted_at : List ℕ → Option StepKind
submitted_at t = do
  job ← field number_at t
  outcome ← outcome_at job.1
  Some (step.Submitted (job_of job.0) outcome)

-- how a run went
unfoldable pub ran_at : List ℕ → Option Ran
ran_at t =
    behind (strip (codes "unlisted ") t) (λ r. id_at r >>= λ tc. Some (ran.Unlisted tc))
    (behind (strip (codes "folder ") t) (λ r. id_at r >>= λ tc. Some (ran.Folder tc))
    (behind (strip (codes "built ") t) (λ r. id_at r >>= λ tc. Some (ran.Built tc))
    (behind (strip (codes "refused ") t) (λ r. id_at r >>= λ tc. Some (ran.Refused tc))
    (if pointwise nat_eq t (codes "none") then Some ran.None else None))))

-- behind the word ran
unfoldable pub run_step_at : List ℕ → Option StepKind
run_step_at t = do
  job ← field number_at t
  how ← ran_at job.1
  Some (step.Ran (job_of job.0) how None)

-- what a build server did, by its word
abbrev pub step_behind : List ℕ → List ℕ → Option StepKind
step_behind w t =
    if pointwise nat_eq w (codes "heard") then (heard_at t >>= λ h. Some (step.Heard h))
    else if pointwise nat_eq w (codes "assigned") then assigned_at t
    else if pointwise nat_eq w (codes "submitted") then submitted_at t
    else if pointwise nat_eq w (codes "ran") then run_step_at t
    else if pointwise nat_eq w (codes "finished") then (number_at t >>= λ n. Some (step.Finished (job_of n)))
    else if pointwise nat_eq w (codes "unreported") then (number_at t >>= λ n. Some (step.Unreported (job_of n)))
    else if pointwise nat_eq w (codes "opened") then (archives_at t >>= λ a. Some (step.Opened a))
    else None

-- what a build server did
unfoldable pub step_at : List ℕ → Option StepKind
step_at t = first_word t >>= λ w. step_behind w.0 w.1
