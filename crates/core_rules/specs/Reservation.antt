-- Which reservations are unspent, unended and claimed, asked of the whole log.
use Rattle.std.specs.Prelude.{ℕ, List, length, Bool, false, true, not, ◌&&◌, ◌||◌, ◌==◌, Option, Some, None}
use Rattle.std.specs.Prelude.{count_by}
use Rattle.std.specs.List.{filter_map, list_any}
use Rattle.core_rules.specs.Cuts.{Cut, cuts, lasting}
use Rattle.dist_types.specs.declared.ids.JobId.{JobId}
use Rattle.dist_types.specs.declared.results.JobState.{JobState}
use Rattle.dist_types.specs.declared.results.JobState.TheVariants.{Started, Complete}
use Rattle.core_rules.specs.declared.entry.CoreEntry.{CoreEntry}
use Rattle.core_rules.specs.declared.entry.CoreKind.{CoreKind}
use Rattle.core_rules.specs.declared.entry.CoreKind.TheVariants.{Beat, Reserve, Commit, Undo, Update}
use Rattle.core_rules.specs.declared.entry.Reserved.TheVariants.{Job}
use Rattle.core_rules.specs.declared.entry.UpdateAnswer.{UpdateAnswer}
use Rattle.core_rules.specs.declared.entry.UpdateAnswer.TheVariants.{Accepted}
use Rattle.core_rules.specs.Log.{same_job, names_job}
use Rattle.core_rules.specs.Standing.{ends_by}

-- a reservation: the number of an entry that reserves a job, what it says, and the entries after it
pub record Booking : Type 0 where
  pub number : ℕ
  pub now : ℕ
  pub job : JobId
  pub reg : ℕ
  pub later : List CoreEntry

-- whether an entry makes a reservation
abbrev pub is_booked : CoreKind → Bool
is_booked (Reserve (Job job reg forgiven)) = true
is_booked other = false

-- the reservation that an entry of this number makes, if it makes one
abbrev pub booked_by : CoreKind → ℕ → ℕ → List CoreEntry → Option Booking
booked_by (Reserve (Job job reg forgiven)) number now later =
    Some (record { number = number; now = now; job = job; reg = reg; later = later })
booked_by other number now later = None

-- the reservation that the entry at the cut makes, if it makes one
abbrev pub booked_at : Cut CoreEntry → Option Booking
booked_at c = booked_by c.at.kind (length c.before) c.at.now c.after

-- every reservation that was ever made, in order
abbrev pub bookings : List CoreEntry → List Booking
bookings log = filter_map booked_at (cuts log)

-- whether an entry is a commit or an undo of the job
abbrev pub spends_by : CoreKind → JobId → Bool
spends_by (Commit job state kept) j = same_job job j
spends_by (Undo job noted ended) j = same_job job j
spends_by other j = false

-- it is unspent while no later commit or undo names its job
abbrev pub is_unspent : Booking → Bool
is_unspent b = not (list_any (λ e. spends_by e.kind b.job) b.later)

-- every unspent reservation, in order
abbrev pub unspent : List CoreEntry → List Booking
unspent log = lasting booked_at is_unspent log

-- whether an update was accepted
abbrev pub is_accepted : UpdateAnswer → Bool
is_accepted Accepted = true
is_accepted answer = false

-- whether a state is started
abbrev pub is_started : JobState → Bool
is_started Started = true
is_started state = false

-- whether a state is complete
abbrev pub is_complete : JobState → Bool
is_complete Complete = true
is_complete state = false

-- whether an entry accepts that the job is complete
abbrev pub completes_by : CoreKind → JobId → Bool
completes_by (Update server job state answer) j = is_complete state && is_accepted answer && same_job job j
completes_by other j = false

-- whether an entry names the job as reaped
abbrev pub reaps_by : CoreKind → JobId → Bool
reaps_by (Beat server nonce cpus key pruned reaped replaced is_new) j = names_job reaped j
reaps_by other j = false

-- whether an entry is an undo of the job that says ended
abbrev pub undoes_by : CoreKind → JobId → Bool
undoes_by (Undo job noted ended) j = ended && same_job job j
undoes_by other j = false

-- whether an entry ends the job's reservation by the job: undoes it, reaps it or accepts that it is complete
abbrev pub ends_job_by : CoreKind → JobId → Bool
ends_job_by kind job = undoes_by kind job || reaps_by kind job || completes_by kind job

-- or by its registration, which the entry names as pruned or replaced
abbrev pub frees_by : CoreKind → JobId → ℕ → Bool
frees_by kind job reg = ends_job_by kind job || ends_by kind reg

-- it is unended while no later entry ends it
abbrev pub is_unended : Booking → Bool
is_unended b = not (list_any (λ e. frees_by e.kind b.job b.reg) b.later)

-- every unended reservation, in order
abbrev pub unended : List CoreEntry → List Booking
unended log = lasting booked_at is_unended log

-- whether an entry accepts that the job's build has begun
abbrev pub claims_by : CoreKind → JobId → Bool
claims_by (Update server job state answer) j = is_started state && is_accepted answer && same_job job j
claims_by other j = false

-- it is claimed once a later entry did
abbrev pub is_claimed : Booking → Bool
is_claimed b = list_any (λ e. claims_by e.kind b.job) b.later

-- the load of a registration is the number of its unended reservations
abbrev pub load_of : List CoreEntry → ℕ → ℕ
load_of log reg = count_by (λ b. b.reg == reg) (unended log)
