-- What is kept of the reservations of a scheduler that is replayed, one row each, so that none is looked for.
use Rattle.std.specs.Prelude.{◌≡◌, ◌+◌, ◌%◌, ◌^◌, ◌||◌, ◌&&◌, ℕ, List, ◌∷◌, [], ◌++◌, length, map, true, false, Bool, not}
use Rattle.std.specs.Prelude.{Option, Some, None, Result, Ok, Err, if◌then◌else◌, slice_get}
use Rattle.std.specs.List.{AllByRecursion}
use Rattle.std.specs.Option.{option_map}
use Rattle.dist_types.specs.Addr.{◌>>=◌}
use Rattle.dist_types.specs.declared.ids.JobId.{JobId}
use Rattle.dist_types.specs.declared.results.JobState.{JobState}
use Rattle.dist_types.specs.declared.results.UpdateJobStateResult.{UpdateJobStateResult}
use Rattle.core_rules.specs.declared.error.SchedError.{SchedError}
use Rattle.core_rules.specs.declared.error.SchedError.TheVariants as error
use Rattle.core_rules.specs.declared.entry.CoreKind.{CoreKind}
use Rattle.core_rules.specs.declared.entry.CoreKind.TheVariants as core
use Rattle.core_rules.specs.declared.entry.CoreEntry.{CoreEntry}
use Rattle.core_rules.specs.declared.entry.Reserved.TheVariants as reserve
use Rattle.core_rules.specs.Log.{Core, logged, same_job, names_job}
use Rattle.core_rules.specs.Reservation.{Booking, bookings, is_unspent, is_accepted, is_started}
use Rattle.core_rules.specs.Calls.{number_of}
use Rattle.core_rules.specs.Ticket.{Ticket}
use Rattle.audit.specs.declared.progress.Progress.{Progress}
use Rattle.audit.specs.declared.kept.Kept.{Kept}
use Rattle.audit.specs.Replay.{Judged, is_begun, booking_key, ticket_key}

-- how far the job of a reservation is
abbrev pub row_due : Judged → Booking → Progress
row_due j b = record {
  job = b.job;
  is_begun = is_begun j.core.log b.job;
  is_built = names_job j.built b.job;
}

-- the number and the job of a reservation, while it is unspent
abbrev pub key_due : Booking → Option (ℕ × JobId)
key_due b = if is_unspent b then Some (booking_key b) else None

-- the same of what is in hand
abbrev pub key_held : Option Ticket → Option (ℕ × JobId)
key_held o = option_map ticket_key o

-- what is in hand in a place
abbrev pub held_at : List (Option Ticket) → ℕ → Option Ticket
held_at held place = slice_get held place >>= λ o. o

-- Each reservation has its row, and is in hand while it is unspent; the first has the first id. Each job that was
-- built has begun.
pub record AreKept (first : ℕ) (rows : List Progress) (held : List (Option Ticket)) (j : Judged) : Type 0 where
  pub rows_are : rows ≡ map (row_due j) (bookings j.core.log)
  pub held_are : map key_held held ≡ map key_due (bookings j.core.log)
  pub first_is : first ≡ (j.core.start.base + j.core.start.count) % 2 ^ 64
  pub built_are : AllByRecursion (λ job. is_begun j.core.log job ≡ true) j.built

-- the same, of the Rust struct
abbrev pub IsKeptOf : Kept → Core → Type 0
IsKeptOf k s = AreKept k.rows.first k.rows.rows k.held.items (record { core = s; built = k.built.items })

-- an entry spends the reservation of the job, makes it, or accepts that its build has begun
abbrev pub SpendsJob : CoreKind → JobId → Type 0
SpendsJob (core.Commit j state kept) job = j ≡ job
SpendsJob (core.Undo j noted ended) job = j ≡ job
SpendsJob other job = ⊥

abbrev pub ReservesJob : CoreKind → JobId → Type 0
ReservesJob (core.Reserve (reserve.Job j reg forgiven)) job = j ≡ job
ReservesJob other job = ⊥

abbrev pub BeginsJob : CoreKind → JobId → Type 0
BeginsJob (core.Update server j state answer) job = (j ≡ job) × (is_started state ≡ true) × (is_accepted answer ≡ true)
BeginsJob other job = ⊥

-- or tells that it is in this state, and whether that was accepted
abbrev pub TellsState : CoreKind → JobId → JobState → Bool → Type 0
TellsState (core.Update server j is answer) job state accepted =
    (j ≡ job) × (is ≡ state) × (is_accepted answer ≡ accepted)
TellsState other job state accepted = ⊥

-- whether an update was accepted, if memory did not run out
abbrev pub accepted_of : Result UpdateJobStateResult SchedError → Option Bool
accepted_of (Ok r) = Some true
accepted_of (Err error.Memory) = None
accepted_of (Err other) = Some false

-- What was taken out for a job is its unspent reservation, if it has one, and what is kept then is so behind the entry
-- that spends it.
abbrev pub IsTaken : ℕ → List Progress → List (Option Ticket) → List JobId → JobId → Core → Option Ticket → Type 0
IsTaken first rows held built job s None = (number_of s.log job ≡ None)
    × AreKept first rows held (record { core = s; built = built })
IsTaken first rows held built job s (Some t) = (number_of s.log job ≡ Some t.number) × (t.job ≡ job)
    × ((e : CoreEntry) → SpendsJob e.kind job → AreKept first rows held (record { core = logged s e; built = built }))

-- the same, of the Rust struct
abbrev pub IsTakenBy : Kept → JobId → Core → Option Ticket → Type 0
IsTakenBy k job s o = IsTaken k.rows.first k.rows.rows k.held.items k.built.items job s o

-- a row behind a start of the job, and behind its build
abbrev pub row_begun : JobId → Progress → Progress
row_begun job r = record r { is_begun = r.is_begun || same_job job r.job }

abbrev pub row_built : JobId → Progress → Progress
row_built job r = record r { is_built = r.is_built || same_job job r.job }

-- A build is good where its job has begun and was not built; then it is kept.
pub record IsBuiltAs (good : Bool) (old new : Kept) (job : JobId) (s : Core) : Type 0 where
  pub told : good ≡ (is_begun s.log job && not (names_job old.built.items job))
  pub kept : IsKeptOf new s
  pub built : new.built.items ≡ (if good then old.built.items ++ job ∷ [] else old.built.items)
