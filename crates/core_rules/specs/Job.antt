-- Which jobs are committed and open, and in which state, asked of the whole log.
use Rattle.std.specs.Prelude.{ℕ, List, map, Bool, true, false, not, ◌&&◌, ◌||◌, Option, Some, None, if◌then◌else◌}
use Rattle.std.specs.List.{filter_map, list_any}
use Rattle.core_rules.specs.Cuts.{Cut, cuts, lasting}
use Rattle.dist_types.specs.declared.ids.JobId.{JobId}
use Rattle.dist_types.specs.declared.results.JobState.{JobState}
use Rattle.dist_types.specs.declared.results.JobState.TheVariants.{Ready}
use Rattle.core_rules.specs.declared.entry.CoreEntry.{CoreEntry}
use Rattle.core_rules.specs.declared.entry.CoreKind.{CoreKind}
use Rattle.core_rules.specs.declared.entry.CoreKind.TheVariants.{Reserve, Commit, Update}
use Rattle.core_rules.specs.declared.entry.Reserved.TheVariants.{Job}
use Rattle.core_rules.specs.Log.{same_job, latest, newest}
use Rattle.core_rules.specs.Standing.{ends_by}
use Rattle.core_rules.specs.Reservation.{is_accepted, is_complete, completes_by, reaps_by}

-- a job that a commit kept: the registration that the entries before reserve it at, the state of the commit,
-- and the entries after it
pub record Committed : Type 0 where
  pub job : JobId
  pub reg : Option ℕ
  pub state : JobState
  pub later : List CoreEntry

-- the registration at which an entry reserves the job
abbrev pub places_by : CoreKind → JobId → Option ℕ
places_by (Reserve (Job job reg forgiven)) j = if same_job job j then Some reg else None
places_by other j = None

-- the registration at which the job was reserved last
abbrev pub place_of : JobId → List CoreEntry → Option ℕ
place_of job entries = newest None (filter_map (λ e. places_by e.kind job) entries)

-- the job that an entry commits and keeps, between the entries before and after it
abbrev pub committed_by : CoreKind → List CoreEntry → List CoreEntry → Option Committed
committed_by (Commit job state kept) before later = if kept
    then Some (record { job = job; reg = place_of job before; state = state; later = later }) else None
committed_by other before later = None

-- the job that the entry at the cut commits and keeps, if it does
abbrev pub committed_at : Cut CoreEntry → Option Committed
committed_at c = committed_by c.at.kind c.before c.after

-- every job that was committed and kept, in order
abbrev pub commits : List CoreEntry → List Committed
commits log = filter_map committed_at (cuts log)

-- the state that an entry accepts for the job
abbrev pub moves_by : CoreKind → JobId → Option JobState
moves_by (Update server job state answer) j = if is_accepted answer && same_job job j then Some state
    else None
moves_by other j = None

-- the states that were accepted after the commit
abbrev pub moves_of : Committed → List JobState
moves_of c = filter_map (λ e. moves_by e.kind c.job) c.later

-- its state is that of the commit, or of the last accepted update after it
abbrev pub state_now : Committed → JobState
state_now c = latest c.state (moves_of c)

-- the state of a job among some entries, if one of them commits it
abbrev pub state_of : JobId → List CoreEntry → Option JobState
state_of job entries = newest None (map state_now (lasting committed_at (λ c. same_job c.job job) entries))

-- whether a state is ready
abbrev pub is_ready : JobState → Bool
is_ready Ready = true
is_ready state = false

-- the moment of an entry of this kind, where it makes the job ready: a commit that keeps it says so, or an
-- accepted update
abbrev pub readied_by : CoreKind → ℕ → JobId → Option ℕ
readied_by (Commit job state kept) now j = if kept && is_ready state && same_job job j then Some now else None
readied_by (Update server job state answer) now j = if is_ready state && is_accepted answer && same_job job j
    then Some now else None
readied_by other now j = None

-- the moment of an entry, where it makes the job ready
abbrev pub readies_by : CoreEntry → JobId → Option ℕ
readies_by e job = readied_by e.kind e.now job

-- the moment at which the job became ready among some entries, if it did
abbrev pub ready_at : JobId → List CoreEntry → Option ℕ
ready_at job entries = newest None (filter_map (λ e. readies_by e job) entries)

-- whether an entry names the registration, if there is one, as pruned or replaced
abbrev pub ends_place_by : CoreKind → Option ℕ → Bool
ends_place_by kind None = false
ends_place_by kind (Some reg) = ends_by kind reg

-- whether an entry ends the job: accepts that it is complete, reaps it, or ends its registration
abbrev pub closes_by : CoreKind → JobId → Option ℕ → Bool
closes_by kind job reg = completes_by kind job || reaps_by kind job || ends_place_by kind reg

-- whether an entry reaps the job, or ends its registration
abbrev pub drops_by : CoreKind → JobId → Option ℕ → Bool
drops_by kind job reg = reaps_by kind job || ends_place_by kind reg

-- it is open while its state is not complete, and no entry after the commit reaps it or ends its registration
abbrev pub is_open : Committed → Bool
is_open c = not (is_complete (state_now c)) && not (list_any (λ e. drops_by e.kind c.job c.reg) c.later)

-- it was not complete when it was committed, and no entry after the commit ended it
abbrev pub is_unclosed : Committed → Bool
is_unclosed c = not (is_complete c.state) && not (list_any (λ e. closes_by e.kind c.job c.reg) c.later)

-- every open job, in the order of the commits
abbrev pub open_jobs : List CoreEntry → List Committed
open_jobs log = lasting committed_at is_open log
