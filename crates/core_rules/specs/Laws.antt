-- Logs whose entries are each the core rule's over those before them, and what every such log has.
use Rattle.std.specs.Prelude.{◌≡◌, ◌≢◌, ◌≤◌, ◌<◌, ℕ, ◌+◌, ◌/◌, ◌^◌, List, [], ◌∷◌, length, map, filter, Bool}
use Rattle.std.specs.Prelude.{Some, slice_get}
use Rattle.std.specs.Prelude.{true, false, ◌==◌, count_by}
use Rattle.std.specs.List.{AllByRecursion, list_any, filter_map}
use Rattle.std.specs.List.Sorted.{IsPermutation}
use Rattle.core_rules.specs.declared.start.Start.{Start}
use Rattle.core_rules.specs.Cuts.{cuts, cuts_behind}
use Rattle.dist_types.specs.declared.ids.JobId.{JobId}
use Rattle.dist_types.specs.declared.results.JobState.{JobState}
use Rattle.core_rules.specs.declared.entry.CoreEntry.{CoreEntry}
use Rattle.core_rules.specs.declared.entry.CoreKind.{CoreKind}
use Rattle.core_rules.specs.declared.entry.CoreKind.TheVariants.{Reserve, Drain}
use Rattle.core_rules.specs.declared.entry.Reserved.TheVariants.{Job, NoRoom}
use Rattle.core_rules.specs.declared.rows.ServerRow.{ServerRow}
use Rattle.core_rules.specs.declared.rows.JobRow.{JobRow}
use Rattle.core_rules.specs.declared.call.Call.{Call}
use Rattle.core_rules.specs.Log.{Core, same_job}
use Rattle.core_rules.specs.Standing.{Registered, registrations, standing, ended, ends_by, reserves_job}
use Rattle.core_rules.specs.Reservation.{Booking, bookings, spends_by, ends_job_by, frees_by, unended}
use Rattle.core_rules.specs.Reservation.{load_of}
use Rattle.core_rules.specs.Job.{Committed, commits, open_jobs, moves_of}
use Rattle.core_rules.specs.Pick.{has_room, is_faultless, is_lighter, is_older}
use Rattle.core_rules.specs.Rows.{servers_of, job_row, jobs_of}
use Rattle.core_rules.specs.Advance.{follows}
use Rattle.core_rules.specs.Rule.{rule, IsCall, is_initial}

-- the entry is the rule's for some call
abbrev pub IsRule : Core → CoreEntry → Type 0
IsRule s e = (call : Call) × IsCall s call × (e ≡ rule s call)

-- the same, behind a front of entries
abbrev pub IsLegalBehind : Start → List CoreEntry → List CoreEntry → Type 0
IsLegalBehind start front log =
    AllByRecursion (λ c. IsRule (record { start = start; log = c.before }) c.at)
    (cuts_behind front log)

-- each entry is the rule's over the entries before it
abbrev pub IsLegal : Start → List CoreEntry → Type 0
IsLegal start log = IsLegalBehind start [] log

-- it holds of each legal log, wherever its ids begin
abbrev pub InEachLegalLog : (List CoreEntry → Type 0) → Type 0
InEachLegalLog Holds = (start : Start) (log : List CoreEntry) → start.count < 2 ^ 64 → IsLegal start log
    → Holds log

-- no job stands twice among those
abbrev pub AreDistinct : List JobId → Type 0
AreDistinct [] = Unit {0}
AreDistinct (j ∷ js) = AllByRecursion (λ k. same_job k j ≡ false) js × AreDistinct js

-- no two of those are equal
abbrev pub AreDifferent : {X : Type 0} → List X → Type 0
AreDifferent [] = Unit {0}
AreDifferent (x ∷ xs) = AllByRecursion (λ y. y ≢ x) xs × AreDifferent xs

-- each of those numbers is less than every one behind it
abbrev pub AreRising : List ℕ → Type 0
AreRising [] = Unit {0}
AreRising (n ∷ ns) = AllByRecursion (λ m. n < m) ns × AreRising ns

-- the reservation was spent at most once: at most one later entry is a commit or an undo of its job
abbrev pub IsSpentOnce : Booking → Type 0
IsSpentOnce b = count_by (λ e. spends_by e.kind b.job) b.later ≤ 1

-- the reservation ended at most once: no entry ends it by its job after one that ended it
abbrev pub IsEndedOnce : Booking → Type 0
IsEndedOnce b = AllByRecursion (λ c. list_any (λ e. frees_by e.kind b.job b.reg) c.before ≡ true
    → ends_job_by c.at.kind b.job ≡ false) (cuts b.later)

-- the registration ended at most once: no entry names it as pruned or replaced after one that did
abbrev pub EndsOnce : Registered → Type 0
EndsOnce g = AllByRecursion (λ c. ended c.before g.reg ≡ true → ends_by c.at.kind g.reg ≡ false)
    (cuts g.later)

-- the entry in that place of the log reserves the job
abbrev pub Reserves : List CoreEntry → ℕ → JobId → Type 0
Reserves log place job = (e : CoreEntry) × (slice_get log place ≡ Some e) × (reserves_job e.kind job ≡ true)

-- the reservation's registration stands
abbrev pub HasStanding : List CoreEntry → Booking → Type 0
HasStanding log b = list_any (λ g. g.reg == b.reg) (standing log) ≡ true

-- each state follows the one before it
abbrev pub IsChain : JobState → List JobState → Type 0
IsChain from [] = Unit {0}
IsChain from (to ∷ states) = (follows from to ≡ true) × IsChain to states

-- the states of a committed job begin with pending or ready, and leave none out from there on
abbrev pub HasOrder : Committed → Type 0
HasOrder c = (is_initial c.state ≡ true) × IsChain c.state (moves_of c)

-- the job has exactly one unended reservation, and its registration stands
abbrev pub IsHeldOnce : List CoreEntry → JobId → Type 0
IsHeldOnce log job = (b : Booking) × (filter (λ d. same_job d.job job) (unended log) ≡ b ∷ [])
    × (list_any (λ g. g.reg == b.reg) (standing log) ≡ true)

-- the load is at most c + 1 + c/8
abbrev pub IsBounded : List CoreEntry → Registered → Type 0
IsBounded log g = load_of log g.reg ≤ g.cpus + 1 + g.cpus / 8

-- the other does not go before it; and where it does not go before the other either, its number is not the
-- greater one
abbrev pub IsFirst : (ServerRow → ServerRow → Bool) → ServerRow → ServerRow → Type 0
IsFirst goes_before row other = (goes_before other row ≡ false)
    × (goes_before row other ≡ false → row.reg ≤ other.reg)

-- Of a pick against a registration with room. Where the other has no remembered error, the pick has none and
-- is the lighter, and of equals the one with the less number. Where the pick has an error, its error is the
-- older, and of equals its number the less one.
pub record IsFair (row other : ServerRow) : Type 0 where
  pub lightest : is_faultless other ≡ true → (is_faultless row ≡ true) × IsFirst is_lighter row other
  pub oldest : is_faultless row ≡ false → IsFirst is_older row other

-- a registration of that number stands; it has room, and is fair against each with room that stands
abbrev pub IsFairly : List ServerRow → ℕ → Type 0
IsFairly rows reg = (list_any (λ r. r.reg == reg) rows ≡ true)
    × AllByRecursion (λ row. (row.reg == reg) ≡ true → (has_room row ≡ true)
    × AllByRecursion (λ other. has_room other ≡ true → IsFair row other) rows) rows

-- where the entry is a reserve that names a job, its registration is a fair pick; where it says that none has
-- room, none has, of so many that stand
abbrev pub IsFairEntry : List CoreEntry → CoreKind → Type 0
IsFairEntry before (Reserve (Job job reg forgiven)) = IsFairly (servers_of before) reg
IsFairEntry before (Reserve (NoRoom n)) = (n ≡ length (servers_of before))
    × AllByRecursion (λ row. has_room row ≡ false) (servers_of before)
IsFairEntry before other = Unit {0}

-- The rows have rising job ids, and are exactly the unended reservations: each once, with the address of its
-- registration, and none is left out.
pub record AreJobRows (log : List CoreEntry) (rows : List JobRow) : Type 0 where
  pub rising : AreRising (map (λ j. j.job.0) rows)
  pub exact : IsPermutation (filter_map (job_row log) (unended log)) rows
  pub all : length rows ≡ length (unended log)

-- whether an entry of this kind is a drain
abbrev pub is_drain : CoreKind → Bool
is_drain (Drain server nonce on reg) = true
is_drain other = false

-- no entry of the log is a drain
abbrev pub HasNoDrain : List CoreEntry → Type 0
HasNoDrain log = AllByRecursion (λ e. is_drain e.kind ≡ false) log

-- no registration that stands is draining
abbrev pub NothingDrains : List CoreEntry → Type 0
NothingDrains log = AllByRecursion (λ row. row.draining ≡ false) (servers_of log)

-- What every log has whose entries are each the core rule's.
pub record IsLawful (log : List CoreEntry) : Type 0 where
  -- the ids of different reservations differ
  pub ids : AreDistinct (map (λ b. b.job) (bookings log))
  -- a reservation is spent at most once, and ends at most once
  pub spent_once : AllByRecursion IsSpentOnce (bookings log)
  pub ended_once : AllByRecursion IsEndedOnce (bookings log)
  -- an unended reservation is at a registration that stands
  pub at_standing : AllByRecursion (HasStanding log) (unended log)
  -- no job is committed twice, its states follow one another, and while it is open it has exactly one unended
  -- reservation
  pub committed_once : AreDistinct (map (λ c. c.job) (commits log))
  pub in_order : AllByRecursion HasOrder (commits log)
  pub open_held : AllByRecursion (λ c. IsHeldOnce log c.job) (open_jobs log)
  -- a registration ends at most once, and an address has at most one that stands
  pub registered_once : AllByRecursion EndsOnce (registrations log)
  pub one_each : AreDifferent (map (λ g. g.server) (standing log))
  -- no load is over c + 1 + c/8, and each reserve goes to the first of those with room
  pub bounded : AllByRecursion (IsBounded log) (standing log)
  pub fair : AllByRecursion (λ c. IsFairEntry c.before c.at.kind) (cuts log)
  -- the rows of the unended reservations are exact, and rise
  pub job_rows : AreJobRows log (jobs_of log)
