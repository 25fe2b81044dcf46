-- The core rule: the one entry that a call makes over the log before it, and what the call answers.
use Rattle.std.specs.Prelude.{◌≡◌, ℕ, ◌+◌, ◌-◌, ◌%◌, ◌^◌, ◌≤◌, List, [], length, map, filter, sum_by, min}
use Rattle.std.specs.Prelude.{Bool, true, false, not, ◌==◌, ◌&&◌, Option, Some, None, if◌then◌else◌}
use Rattle.std.specs.Prelude.{option_and_then, is_some}
use Rattle.std.specs.List.{list_any}
use Rattle.std.specs.Option.{option_map}
use Rattle.core_rules.specs.Cuts.{lasting}
use Rattle.dist_types.specs.declared.addr.Addr.{Addr}
use Rattle.dist_types.specs.declared.ids.JobId.{JobId}
use Rattle.dist_types.specs.declared.results.JobState.{JobState}
use Rattle.dist_types.specs.declared.results.JobState.TheVariants.{Pending, Ready}
use Rattle.dist_types.specs.declared.results.SchedulerStatusResult.{SchedulerStatusResult}
use Rattle.dist_types.specs.declared.rules.Rules.{Rules}
use Rattle.dist_types.specs.declared.rules.Rules.TheVariants.{Two}
use Rattle.core_rules.specs.declared.entry.CoreEntry.{CoreEntry}
use Rattle.core_rules.specs.declared.entry.CoreKind.{CoreKind}
use Rattle.core_rules.specs.declared.entry.CoreKind.TheVariants.{Reserve, Commit, Undo, Beat, Update}
use Rattle.core_rules.specs.declared.entry.CoreKind.TheVariants.{Status, Drain}
use Rattle.core_rules.specs.declared.entry.Reserved.{Reserved}
use Rattle.core_rules.specs.declared.entry.Reserved.TheVariants.{Job, NoRoom, Spent}
use Rattle.core_rules.specs.declared.rows.ServerRow.{ServerRow}
use Rattle.core_rules.specs.declared.rows.HeldRow.{HeldRow}
use Rattle.core_rules.specs.declared.rows.OpenRow.{OpenRow}
use Rattle.core_rules.specs.declared.call.Call.{Call}
use Rattle.core_rules.specs.declared.call.Call.TheVariants as call
use Rattle.core_rules.specs.Log.{Core, same_job, names, newest}
use Rattle.core_rules.specs.Standing.{address_of}
use Rattle.core_rules.specs.Reservation.{Booking, booked_at, bookings, unspent, unended}
use Rattle.core_rules.specs.Rows.{servers_of, held_rows, open_rows}
use Rattle.core_rules.specs.Pick.{pick, forgiven}
use Rattle.core_rules.specs.Prune.{prune, left, at_address}
use Rattle.core_rules.specs.Reap.{reap}
use Rattle.core_rules.specs.Advance.{advance}

-- reserve: the job with the next id at the pick, or none where nothing has room, or spent where the ids are

-- what becomes of a reserve, by its pick
abbrev pub reserved_at : Option ServerRow → List ServerRow → ℕ → ℕ → ℕ → Reserved
reserved_at None rows now base given = NoRoom (length rows)
reserved_at (Some row) rows now base given = if given == 2 ^ 64 - 1 then Spent
    else Job (record { 0 = (base + given) % 2 ^ 64 }) row.reg (forgiven now rows)

-- the entry of a reserve, by its pick
abbrev pub reserve_at : Option ServerRow → List ServerRow → ℕ → ℕ → ℕ → CoreEntry
reserve_at picked rows now base given =
    record { now = now; kind = Reserve (reserved_at picked rows now base given) }

-- over the rows of the registrations that stand, where so many ids were given before
abbrev pub reserve_over : List ServerRow → ℕ → ℕ → ℕ → CoreEntry
reserve_over rows now base given = reserve_at (pick rows) rows now base given

-- commit: kept exactly where the reservation is unended

-- whether a reservation of that number and job is among those
abbrev pub is_among : List Booking → ℕ → JobId → Bool
is_among list number job = list_any (λ b. (b.number == number) && same_job b.job job) list

-- the entry of a commit, by whether its reservation is unended
abbrev pub commit_by : Bool → ℕ → JobId → JobState → CoreEntry
commit_by kept now job state = record { now = now; kind = Commit job state kept }

-- undo: notes the registration that stands at the reservation's address, and ends the reservation where it is
-- unended

-- the registration of the reservation of that number
abbrev pub place_at : List CoreEntry → ℕ → Option ℕ
place_at log number = newest None (map (λ b. b.reg) (lasting booked_at (λ b. b.number == number) log))

-- the registration that stands at an address, if there is one
abbrev pub noted_over : List ServerRow → Option Addr → Option ℕ
noted_over rows None = None
noted_over rows (Some server) = option_map (λ r. r.reg) (at_address server rows)

-- the entry of an undo, by the registration that is noted and by whether its reservation is unended
abbrev pub undo_by : Option ℕ → Bool → ℕ → JobId → CoreEntry
undo_by noted ended now job = record { now = now; kind = Undo job noted ended }

-- beat: prunes; then, by the registration at the address that still stands, makes a new one, renews and reaps
-- it, or replaces it

-- the registration that another nonce replaces
abbrev pub replaced_by : ℕ → Option ServerRow → Option ℕ
replaced_by nonce None = None
replaced_by nonce (Some row) = if row.nonce == nonce then None else Some row.reg

-- none, or one with another nonce
abbrev pub says_new : ℕ → Option ServerRow → Bool
says_new nonce None = true
says_new nonce (Some row) = not (row.nonce == nonce)

-- one with the same nonce reaps
abbrev pub reaped_by : Rules → ℕ → ℕ → List HeldRow → Option ServerRow → List JobId
reaped_by rules now nonce held None = []
reaped_by rules now nonce held (Some row) = if row.nonce == nonce then reap rules now row.reg held else []

-- over the rows of the registrations that stand and of the unended reservations
abbrev pub beat_over : Rules → List ServerRow → List HeldRow → ℕ → Addr → ℕ → ℕ → List ℕ → CoreEntry
beat_over rules rows held now server nonce cpus key =
    let there = at_address server (left now rows) in
    record {
      now = now;
      kind = Beat server nonce cpus key (prune now rows) (reaped_by rules now nonce held there)
          (replaced_by nonce there) (says_new nonce there);
    }

-- update: what the open jobs answer

-- over the rows of the open jobs
abbrev pub update_over : List OpenRow → ℕ → Addr → JobId → JobState → CoreEntry
update_over rows now server job state =
    record { now = now; kind = Update server job state (advance rows server job state) }

-- status: prunes; then counts the registrations that still stand, their processors up to 2^64 - 1, and the
-- open jobs at none of the pruned

-- whether the registration, if there is one, is none of the pruned
abbrev pub is_left : List ℕ → Option ℕ → Bool
is_left pruned None = true
is_left pruned (Some reg) = not (names pruned reg)

-- over the rows of the registrations that stand and of the open jobs
abbrev pub counts_over : List ServerRow → List OpenRow → ℕ → SchedulerStatusResult
counts_over rows jobs now =
    record {
      num_servers = length (left now rows);
      num_cpus = min (2 ^ 64 - 1)
          (sum_by (λ r. r.cpus) (left now rows));
      in_progress =
          length (filter (λ o. is_left (prune now rows) o.reg) jobs);
    }

-- the entry of a status, by its numbers
abbrev pub status_by : ℕ → List ℕ → SchedulerStatusResult → CoreEntry
status_by now pruned counts =
    record { now = now; kind = Status pruned counts.num_servers counts.num_cpus counts.in_progress }

-- over the same rows
abbrev pub status_over : List ServerRow → List OpenRow → ℕ → CoreEntry
status_over rows jobs now = status_by now (prune now rows) (counts_over rows jobs now)

-- drain: names the registration that stands at the address, where it has the nonce; it prunes nothing

-- the registration with that nonce
abbrev pub named_by : ℕ → Option ServerRow → Option ℕ
named_by nonce None = None
named_by nonce (Some row) = if row.nonce == nonce then Some row.reg else None

-- over the rows of the registrations that stand
abbrev pub drain_over : List ServerRow → ℕ → Addr → ℕ → Bool → CoreEntry
drain_over rows now server nonce on =
    record { now = now; kind = Drain server nonce on (named_by nonce (at_address server rows)) }

-- the entry that a call makes
abbrev pub rule : Core → Call → CoreEntry
rule s (call.Reserve now) =
    reserve_over (servers_of s.log) now s.start.base (s.start.count + length (bookings s.log))
rule s (call.Commit now number job state) = commit_by (is_among (unended s.log) number job) now job state
rule s (call.Undo now number job) =
    undo_by (noted_over (servers_of s.log) (option_and_then (address_of s.log) (place_at s.log number)))
    (is_among (unended s.log) number job) now job
rule s (call.Beat now server nonce cpus key) = beat_over s.start.rules (servers_of s.log)
    (held_rows s.log) now server nonce cpus key
rule s (call.Update now server job state) = update_over (open_rows s.log) now server job state
rule s (call.Status now) = status_over (servers_of s.log) (open_rows s.log) now
rule s (call.Drain now server nonce on) = drain_over (servers_of s.log) now server nonce on

-- a job is committed pending or ready
abbrev pub is_initial : JobState → Bool
is_initial Pending = true
is_initial Ready = true
is_initial other = false

-- the calls that make an entry: a commit or an undo of an unspent reservation, a commit to pending or ready,
-- a heartbeat with 1 to 4294967295 processors, a drain in version 2
abbrev pub IsCall : Core → Call → Type 0
IsCall s (call.Commit now number job state) = (is_among (unspent s.log) number job ≡ true)
    × (is_initial state ≡ true)
IsCall s (call.Undo now number job) = is_among (unspent s.log) number job ≡ true
IsCall s (call.Beat now server nonce cpus key) = (1 ≤ cpus) × (cpus ≤ 4294967295)
IsCall s (call.Drain now server nonce on) = s.start.rules ≡ Two
IsCall s other = Unit {0}

-- what the calls answer, read off their entries

-- whether an entry of this kind says new
abbrev pub says_new_by : CoreKind → Bool
says_new_by (Beat server nonce cpus key pruned reaped replaced is_new) = is_new
says_new_by other = false

-- whether the entry is a heartbeat that made a registration
abbrev pub says_new_entry : CoreEntry → Bool
says_new_entry e = says_new_by e.kind

-- the numbers that an entry of this kind says
abbrev pub counts_by : CoreKind → SchedulerStatusResult
counts_by (Status pruned servers cpus jobs) =
    record { num_servers = servers; num_cpus = cpus; in_progress = jobs }
counts_by other = record { num_servers = 0; num_cpus = 0; in_progress = 0 }

-- the numbers that the entry of a status says
abbrev pub counts_of : CoreEntry → SchedulerStatusResult
counts_of e = counts_by e.kind

-- whether an entry of this kind is a drain that names a registration
abbrev pub knows_by : CoreKind → Bool
knows_by (Drain server nonce on reg) = is_some reg
knows_by other = false

-- whether the entry of a drain names a registration
abbrev pub knows_of : CoreEntry → Bool
knows_of e = knows_by e.kind
