-- What is kept beside the scheduler is what its log says.
use Rattle.std.specs.Prelude.{◌≡◌, ◌≤◌, ◌<◌, ◌+◌, ◌%◌, ◌^◌, ℕ, List, [], ◌∷◌, length, map, filter, Option}
use Rattle.std.specs.Prelude.{Some, None, slice_get, Bool, true, false, Result, Ok, Err}
use Rattle.std.specs.List.{AllByRecursion}
use Rattle.dist_types.specs.declared.ids.JobId.{JobId}
use Rattle.dist_types.specs.declared.results.JobState.{JobState}
use Rattle.dist_types.specs.declared.results.UpdateJobStateResult.{UpdateJobStateResult}
use Rattle.dist_types.specs.declared.rules.Rules.TheVariants.{One}
use Rattle.core_rules.specs.declared.answers.Undone.{Undone}
use Rattle.core_rules.specs.declared.answers.Undone.TheVariants.{Unassigned}
use Rattle.core_rules.specs.declared.error.SchedError.{SchedError}
use Rattle.core_rules.specs.declared.entry.CoreEntry.{CoreEntry}
use Rattle.core_rules.specs.declared.entry.CoreKind.{CoreKind}
use Rattle.core_rules.specs.Laws.{AreRising}
use Rattle.core_rules.specs.Log.{Core, logged}
use Rattle.core_rules.specs.Next.{place_of_booking}
use Rattle.core_rules.specs.Reservation.{bookings, unended, is_complete}
use Rattle.quota.specs.Clients.{Client}
use Rattle.quota.specs.Holdings.{Owned, Held, count_of, owned_after, owner_of}
use Rattle.quota.specs.Quota.{Quota}
use Rattle.sched_core.specs.declared.answers.Picked.{Picked}
use Rattle.sched_core.specs.declared.answers.Picked.TheVariants.{Reserved, NoRoom}

-- a reservation's number, job and registration
abbrev pub place_of_owned : Owned → (ℕ × JobId) × ℕ
place_of_owned o = ((o.number, o.job), o.reg)

-- The reservations are those of the log, and the unended ones are unended. Their numbers rise, and are of
-- the log.
pub record Agree (log : List CoreEntry) (owned : List Owned) : Type 0 where
  pub made : map place_of_owned owned ≡ map place_of_booking (bookings log)
  pub unended_are : map place_of_owned (filter (λ o. o.unended) owned) ≡ map place_of_booking (unended log)
  pub rising : AreRising (map (λ o. o.number) owned)
  pub below : AllByRecursion (λ o. o.number < length log) owned

-- no client has more unended reservations than it may
abbrev pub AreWithin : List Client → List Owned → Type 0
AreWithin clients owned = (place : ℕ) (c : Client) → slice_get clients place ≡ Some c
    → count_of owned place ≤ c.limit

-- What is kept of the reservations is the log's, and within the limits. The scheduler began with no job
-- before
-- its log, and goes by version 1.
pub record IsKept (core : Core) (clients : List Client) (held : Held) : Type 0 where
  pub first : held.first ≡ core.start.base
  pub begins : core.start.count ≡ 0
  pub rules : core.start.rules ≡ One
  pub listed : held.clients ≡ length clients
  pub agree : Agree core.log held.owned
  pub within : AreWithin clients held.owned

-- the core with the entry that was made, if one was
abbrev pub with_made : Core → Option CoreEntry → Core
with_made core None = core
with_made core (Some e) = logged core e

-- the reservations once that entry ended what it ends
abbrev pub after_made : Option CoreEntry → List Owned → List Owned
after_made None owned = owned
after_made (Some e) owned = map (owned_after e.kind) owned

-- what was picked for a client, as it is kept
abbrev pub owned_picked : Picked → ℕ → List Owned
owned_picked (Reserved r) client =
    record { number = r.number; job = r.job; reg = r.reg; client = client; unended = true } ∷ []
owned_picked (NoRoom standing) client = []

-- a job that was picked has the id that follows
abbrev pub FollowsIn : Picked → Held → Type 0
FollowsIn (Reserved r) held = r.job.0 ≡ (held.first + length held.owned) % 2 ^ 64
FollowsIn (NoRoom standing) held = Unit {0}

-- whether an undo that was answered so ended its reservation
abbrev pub ends_undone : Undone → Bool
ends_undone Unassigned = true
ends_undone other = false

-- whether a report of that state that was answered so ended its job's reservation: it is complete, and was
-- accepted
abbrev pub ends_updated : JobState → Result UpdateJobStateResult SchedError → Bool
ends_updated state (Ok done) = is_complete state
ends_updated state (Err e) = false
