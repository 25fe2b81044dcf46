-- What an update answers, over the rows of the open jobs.
use Rattle.std.specs.Prelude.{List, find, Bool, true, false, Option, Some, None, if◌then◌else◌}
use Rattle.dist_types.specs.declared.addr.Addr.{Addr}
use Rattle.dist_types.specs.declared.ids.JobId.{JobId}
use Rattle.dist_types.specs.declared.results.JobState.{JobState}
use Rattle.dist_types.specs.declared.results.JobState.TheVariants.{Pending, Ready, Started, Complete}
use Rattle.core_rules.specs.declared.entry.UpdateAnswer.{UpdateAnswer}
use Rattle.core_rules.specs.declared.entry.UpdateAnswer.TheVariants.{Accepted, Unknown, Wrong, Transition}
use Rattle.core_rules.specs.declared.rows.OpenRow.{OpenRow}
use Rattle.dist_types.specs.Addr.{same_addr}
use Rattle.core_rules.specs.Log.{same_job}

-- a job goes from pending to ready, from ready to started, and from started to complete
abbrev pub follows : JobState → JobState → Bool
follows Pending Ready = true
follows Ready Started = true
follows Started Complete = true
follows from to = false

-- whether there is an address, and it is this one
abbrev pub is_at : Option Addr → Addr → Bool
is_at None server = false
is_at (Some addr) server = same_addr addr server

-- the same, of the open job with that id, if there is one
abbrev pub advance_by : Option OpenRow → Addr → JobState → UpdateAnswer
advance_by None server state = Unknown
advance_by (Some job) server state = if is_at job.server server
    then (if follows job.state state then Accepted else Transition job.state) else Wrong

-- unknown where no open job has that id, wrong where it is at another address, transition where the state
-- does not follow its own, else accepted
abbrev pub advance : List OpenRow → Addr → JobId → JobState → UpdateAnswer
advance rows server job state = advance_by (find (λ o. same_job o.job job) rows) server state
