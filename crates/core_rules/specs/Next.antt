-- What one entry does to the rows of what is asked of the log.
use Rattle.std.specs.Prelude.{ℕ, ◌+◌, ◌-◌, ◌^◌, List, map, filter, Bool, true, false, not, ◌&&◌, ◌||◌, ◌==◌, min}
use Rattle.std.specs.Prelude.{◌≡◌, Option, Some, None, if◌then◌else◌, count_by, unwrap_or}
use Rattle.std.specs.List.{find, list_any}
use Rattle.std.specs.Option.{option_map}
use Rattle.dist_types.specs.declared.addr.Addr.{Addr}
use Rattle.dist_types.specs.declared.ids.JobId.{JobId}
use Rattle.dist_types.specs.declared.results.JobState.{JobState}
use Rattle.core_rules.specs.declared.entry.CoreEntry.{CoreEntry}
use Rattle.core_rules.specs.declared.entry.CoreKind.{CoreKind}
use Rattle.core_rules.specs.declared.entry.CoreKind.TheVariants.{Beat, Reserve, Commit, Update}
use Rattle.core_rules.specs.declared.entry.Reserved.{Reserved}
use Rattle.core_rules.specs.declared.entry.Reserved.TheVariants.{Job}
use Rattle.core_rules.specs.declared.rows.ServerRow.{ServerRow}
use Rattle.core_rules.specs.declared.rows.HeldRow.{HeldRow}
use Rattle.core_rules.specs.declared.rows.JobRow.{JobRow}
use Rattle.core_rules.specs.declared.rows.OpenRow.{OpenRow}
use Rattle.core_rules.specs.Log.{same_job, is_this, newer}
use Rattle.core_rules.specs.Standing.{ends_by, renews_by, is_heard, drains_by}
use Rattle.core_rules.specs.Reservation.{Booking, spends_by, frees_by, claims_by, is_complete}
use Rattle.core_rules.specs.Fault.{notes_by, forgives_by}
use Rattle.core_rules.specs.Job.{moves_by, readies_by, closes_by}

-- the registrations that stand

-- whether an entry leaves the registration standing
abbrev pub row_stays : CoreKind → ServerRow → Bool
row_stays kind row = not (ends_by kind row.reg)

-- the registration of an open job, if there is one
abbrev pub place_if : Option OpenRow → Option ℕ
place_if None = None
place_if (Some o) = o.reg

-- the registration whose open job an update names that counts as a sign
abbrev pub served_by : CoreKind → List OpenRow → Option ℕ
served_by (Update server job state answer) open_ones = if is_heard answer
    then place_if (find (λ o. same_job o.job job) open_ones) else None
served_by other open_ones = None

-- how many of the reservations at a registration an entry ends
abbrev pub freed_at : CoreKind → List HeldRow → ℕ → ℕ
freed_at kind held reg = count_by (λ h. frees_by kind h.job h.reg && (h.reg == reg)) held

-- a row without those
abbrev pub row_freed : CoreKind → List HeldRow → ServerRow → ServerRow
row_freed kind held row = record row { load = row.load - freed_at kind held row.reg }

-- whether an entry reserves a job at the registration
abbrev pub takes_by : CoreKind → ℕ → Bool
takes_by (Reserve (Job job reg forgiven)) r = reg == r
takes_by other r = false

-- the remembered error after an entry
abbrev pub error_after : CoreEntry → ℕ → Option ℕ → Option ℕ
error_after e reg before = if notes_by e.kind reg then Some e.now
    else (if forgives_by e.kind reg then None else before)

-- one more, at most 2^64 - 1
abbrev pub one_more_if : Bool → ℕ → ℕ
one_more_if more n = if more then min (2 ^ 64 - 1) (n + 1) else n

-- whether the registration is draining after an entry
abbrev pub draining_after : CoreKind → ℕ → Bool → Bool
draining_after kind reg before = unwrap_or (drains_by kind reg) before

-- a row with its last sign, its load and its error after an entry that serves the registration of that
-- number, and whether it is draining
abbrev pub row_after : CoreEntry → Option ℕ → ServerRow → ServerRow
row_after e served row = record row {
  seen = if renews_by e.kind row.server || is_this served row.reg then e.now else row.seen;
  load = one_more_if (takes_by e.kind row.reg) row.load;
  error = error_after e row.reg row.error;
  draining = draining_after e.kind row.reg row.draining;
}

-- the rows that stay, with their loads, last signs and errors
abbrev pub settled : CoreEntry → List HeldRow → List OpenRow → List ServerRow → List ServerRow
settled e held open_ones rows = map (row_after e (served_by e.kind open_ones))
    (map (row_freed e.kind held) (filter (row_stays e.kind) rows))

-- the row of the registration that an entry of this number makes
abbrev pub row_by : CoreKind → ℕ → ℕ → Option ServerRow
row_by (Beat server nonce cpus key pruned reaped replaced is_new) number now =
    if is_new then Some (record {
      reg = number;
      server = server;
      cpus = cpus;
      nonce = nonce;
      seen = now;
      load = 0;
      error = None;
      draining = false;
    }) else None
row_by other number now = None

-- the unended reservations

-- the state in which an entry commits the job and keeps it
abbrev pub begins_by : CoreKind → JobId → Option JobState
begins_by (Commit job state kept) j = if kept && same_job job j then Some state else None
begins_by other j = None

-- the state of the job after an entry: that of a commit, or where it is committed that of an accepted update
abbrev pub state_after : CoreKind → JobId → Option JobState → Option JobState
state_after kind job before = newer (begins_by kind job)
    (option_map (λ s. unwrap_or (moves_by kind job) s) before)

-- whether an entry leaves the reservation unended
abbrev pub held_stays : CoreKind → HeldRow → Bool
held_stays kind h = not (frees_by kind h.job h.reg)

-- the moment at which the job became ready, after an entry
abbrev pub ready_after : CoreEntry → JobId → Option ℕ → Option ℕ
ready_after e job before = newer (readies_by e job) before

-- the row of a reservation after an entry
abbrev pub held_after : CoreEntry → HeldRow → HeldRow
held_after e h = record h {
  state = state_after e.kind h.job h.state;
  ready_at = ready_after e h.job h.ready_at;
  claimed = h.claimed
      || claims_by e.kind h.job;
}

-- the reservation that an entry of this number makes
abbrev pub held_by : CoreKind → ℕ → ℕ → Option HeldRow
held_by (Reserve (Job job reg forgiven)) number now =
    Some (record {
      number = number;
      job = job;
      reg = reg;
      reserved_at = now;
      state = None;
      ready_at = None;
      claimed = false;
    })
held_by other number now = None

-- the unended reservations with the addresses of their registrations

-- the reservation that is made at the row of its registration, if that stands
abbrev pub job_over : Option ServerRow → ℕ → JobId → ℕ → Option JobRow
job_over None number job now = None
job_over (Some row) number job now =
    Some (record {
      number = number;
      job = job;
      reg = row.reg;
      server = row.server;
      reserved_at = now;
      state = None;
      ready_at = None;
      claimed = false;
    })

-- the reservation that a reserve of this number makes, where its registration is one of the rows
abbrev pub job_in : Reserved → List ServerRow → ℕ → ℕ → Option JobRow
job_in (Job job reg forgiven) rows number now = job_over (find (λ r. r.reg == reg) rows) number job now
job_in other rows number now = None

-- the reservation that an entry of this number makes
abbrev pub job_by : CoreKind → List ServerRow → ℕ → ℕ → Option JobRow
job_by (Reserve reserved) rows number now = job_in reserved rows number now
job_by other rows number now = None

-- a job is reserved at one of the rows
abbrev pub IsAtRow : Reserved → List ServerRow → Type 0
IsAtRow (Job job reg forgiven) rows = list_any (λ r. r.reg == reg) rows ≡ true
IsAtRow other rows = Unit {0}

-- and without it
abbrev pub held_part : JobRow → HeldRow
held_part j = record {
  number = j.number;
  job = j.job;
  reg = j.reg;
  reserved_at = j.reserved_at;
  state = j.state;
  ready_at = j.ready_at;
  claimed = j.claimed;
}

-- the open jobs

-- whether an entry leaves the job open
abbrev pub open_stays : CoreKind → OpenRow → Bool
open_stays kind o = not (closes_by kind o.job o.reg)

-- the row of an open job after an entry
abbrev pub open_after : CoreKind → OpenRow → OpenRow
open_after kind o = record o { state = unwrap_or (moves_by kind o.job) o.state }

-- the open job that a commit keeps, at the place of its reservation
abbrev pub open_over : Option JobRow → JobState → Option OpenRow
open_over None state = None
open_over (Some j) state =
    Some (record { job = j.job; reg = Some j.reg; server = Some j.server; state = state })

-- the open job that an entry makes: a commit that keeps a job and does not end it
abbrev pub open_by : CoreKind → List JobRow → Option OpenRow
open_by (Commit job state kept) jobs = if kept && not (is_complete state)
    then open_over (find (λ j. same_job j.job job) jobs) state else None
open_by other jobs = None

-- the unspent reservations

-- A reservation that is unspent: its number, its job, the registration that it was made at, and its address.
pub record UnspentRow : Type 0 where
  pub number : ℕ
  pub job : JobId
  pub reg : ℕ
  pub server : Addr

-- whether an entry leaves the reservation unspent
abbrev pub unspent_stays : CoreKind → UnspentRow → Bool
unspent_stays kind u = not (spends_by kind u.job)

-- the new reservation, as one that is unspent
abbrev pub unspent_by : Option JobRow → Option UnspentRow
unspent_by None = None
unspent_by (Some j) = Some (record { number = j.number; job = j.job; reg = j.reg; server = j.server })

-- a reservation's number, job and registration
abbrev pub place_of_unspent : UnspentRow → (ℕ × JobId) × ℕ
place_of_unspent u = ((u.number, u.job), u.reg)

-- the same of a reservation of the log
abbrev pub place_of_booking : Booking → (ℕ × JobId) × ℕ
place_of_booking b = ((b.number, b.job), b.reg)
