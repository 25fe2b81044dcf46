-- The reservations that are in hand, and that they are those of the log.
use Rattle.std.specs.Prelude.{◌≡◌, ℕ, List, Option, Some, None, nat_eq, slice_get, Bool, if◌then◌else◌}
use Rattle.dist_types.specs.Addr.{◌>>=◌}
use Rattle.dist_types.specs.declared.ids.JobId.{JobId}
use Rattle.core_rules.specs.Calls.{number_of}
use Rattle.core_rules.specs.declared.entry.CoreEntry.{CoreEntry}
use Rattle.core_rules.specs.Ticket.{Ticket}
use Rattle.row_index.specs.Lookup.{value_at}

-- What contracts see: the place of each job's reservation, by the job's number, what is in hand in each place, and
-- whether there is room for one more.
pub record InHand : Type 0 where
  pub places : List (ℕ × ℕ)
  pub held : List (Option Ticket)
  pub has_room : Bool

-- what is in hand in a place
abbrev pub held_at : List (Option Ticket) → ℕ → Option Ticket
held_at held place = slice_get held place >>= λ o. o

-- the one of a job, found by its place
abbrev pub found_at : List (ℕ × ℕ) → List (Option Ticket) → ℕ → Option Ticket
found_at places held job = value_at nat_eq job places >>= held_at held

abbrev pub of_job : InHand → ℕ → Option Ticket
of_job hand job = found_at hand.places hand.held job

-- there is one of that job in that place, if there is a place
abbrev pub IsFound : List (Option Ticket) → ℕ → Option ℕ → Type 0
IsFound held job None = Unit {0}
IsFound held job (Some place) = (t : Ticket) × (slice_get held place ≡ Some (Some t)) × (t.job.0 ≡ job)

-- each place that is named holds a reservation of its job
abbrev pub AreFound : List (ℕ × ℕ) → List (Option Ticket) → Type 0
AreFound places held = (job : ℕ) → IsFound held job (value_at nat_eq job places)

-- what is in hand of a job is its unspent reservation, of which this is the number, if it has one
abbrev pub IsOf : Option ℕ → JobId → Option Ticket → Type 0
IsOf number job None = number ≡ None
IsOf number job (Some t) = (number ≡ Some t.number) × (t.job ≡ job)

-- what is in hand are the unspent reservations of the log
abbrev pub AreUnspent : List CoreEntry → InHand → Type 0
AreUnspent log hand = (job : JobId) → IsOf (number_of log job) job (of_job hand job.0)

-- what is in hand with this reservation more, if there is one
abbrev pub with_ticket : Option Ticket → InHand → ℕ → Option Ticket
with_ticket None hand job = of_job hand job
with_ticket (Some t) hand job = if nat_eq t.job.0 job then Some t else of_job hand job
